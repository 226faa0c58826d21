-- The rules of the subcommand of this name say what its rows have: LINE and DEPTH, once each, and numbers that are in range.
use Rattle.std.proofs.Common.{◌≡◌, ◌∙◌, List, ap, arith, codes, is_some, option_map, refl, sym, true}
use Rattle.clap.specs.Words.{Row, Rule, Text, first_of}
use Rattle.kalah_rules.specs.Limits.{most_depth}
use Rattle.kalah_cli.specs.{AreMatches, number_written}
use Rattle.kalah_cli.proofs.RequestLemmas.{Takes, byte_ranged, in_range, may_have_number, value_given}
use Rattle.kalah_cli.proofs.arguments.request.requested.Goals.{in-count, in-moves, in-play, in-show}
use Rattle.kalah_cli.proofs.arguments.request.requested.Goals as goal

pub table_entries-requires : goal.table_entries-requires
table_entries-requires c = may_have_number (codes "table") (rw c.in-play.is at c.requires) refl refl

pub byte_given-requires : goal.byte_given-requires
byte_given-requires c = byte_ranged (codes "first") (rw c.in-play.is at c.requires) refl refl (omega arith)

pub ask_request-requires : goal.ask_request-requires
ask_request-requires c = may_have_number (codes "table") (rw c.in-ask.is at c.requires) refl refl

pub table_entries-requires-in-show : goal.table_entries-requires-in-show
table_entries-requires-in-show c = may_have_number (codes "table") (rw c.in-show.is at c.requires) refl refl

pub byte_given-requires-in-count : goal.byte_given-requires-in-count
byte_given-requires-in-count c = byte_ranged (codes "depth") (rw c.in-count.is at c.requires) refl refl (omega arith)

pub unwrap-requires : goal.unwrap-requires
unwrap-requires c = ap is_some c.byte_given-in-count.ensures
    ∙ ap (λ o. is_some (option_map number_written o)) ((value_given (codes "depth") (rw c.in-count.is at c.requires) refl refl).text refl)

-- a LINE that is required is there
line_is_there : {name : Text} {rows : List Row} {a : Rule} → AreMatches name rows → Takes name (codes "line") a → a.required ≡ true
    → is_some (first_of (codes "line") rows) ≡ true
line_is_there matches takes required = ap is_some (value_given (codes "line") matches takes required).first

pub line_given-requires : goal.line_given-requires
line_given-requires c = elim c.match-name.branch [
  | in-moves w ↦ line_is_there (rw w.in-moves.is at c.requires) refl refl
  | in-play w ↦ line_is_there (rw w.in-play.is at c.requires) refl refl
  | in-show w ↦ line_is_there (rw w.in-show.is at c.requires) refl refl
  | in-count w ↦ line_is_there (rw w.in-count.is at c.requires) refl refl
]

pub returns-in-values-clause-asked : goal.returns-in-values-clause-asked
returns-in-values-clause-asked c = rw c.in-values.is c.files_request-in-values.ensures.asked

pub returns-clause-range : goal.returns-clause-range
returns-clause-range c = elim c.match-name.branch [
  | in-moves w ↦ rw w.command-is tt
  | in-play w ↦ rw w.command-is w.table_entries.ensures.range
  | in-show w ↦ rw w.command-is w.table_entries-in-show.ensures.range
  | in-count w ↦
      let depth = rw (sym w.byte_given-in-count.ensures ∙ w.unwrap.ensures)
      at (in_range 0 most_depth _
      (may_have_number (codes "depth") (rw w.in-count.is at c.requires) refl refl)) in
      rw w.command-is depth.1
]

pub files_request-requires : goal.files_request-requires
files_request-requires c = rw c.in-solve.is at c.requires

pub files_request-requires-in-values : goal.files_request-requires-in-values
files_request-requires-in-values c = rw c.in-values.is at c.requires

pub files_request-requires-in-steps : goal.files_request-requires-in-steps
files_request-requires-in-steps c = rw c.in-steps.is at c.requires

pub returns-in-solve-clause-asked : goal.returns-in-solve-clause-asked
returns-in-solve-clause-asked c = rw c.in-solve.is c.files_request.ensures.asked

pub returns-in-steps-clause-asked : goal.returns-in-steps-clause-asked
returns-in-steps-clause-asked c = rw c.in-steps.is c.files_request-in-steps.ensures.asked
