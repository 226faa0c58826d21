-- The rows of a subcommand satisfy its arguments, if a parse by clap has no fault. Nothing here is of Kalah.
use Rattle.std.proofs.Common.{IfSome, find, slice_get, option_and_then, option_map, bytes_eq, ◌≡◌, Bool, true, false, refl, List, [], ◌∷◌}
use Rattle.std.proofs.Common.{Option, None, Some, is_some, ap, arith, ◌&&◌, ◌∙◌, not}
use Rattle.std.proofs.lemmas.Slice.Eq.{bytes_eq-Decides}
use Rattle.std.specs.{List.{AllByRecursion as AllOf}, Option.{option_map_or}}
use Rattle.clap.specs.{Facts.{parser_of_value, explicit_source}, Kinds.{check_kinds}, Values.{Accepts}}
use Rattle.clap.specs.Walk.{Row, Rule, Text, arg_by_id, nothing_held, reading_by, rows_after, settled, walk, walk_from, answers_to}
use Rattle.clap.specs.Walk.{row_text}
use Rattle.clap.specs.Simple.{Shape, App, argument_words, built, entered, label_of, names_of, rows_at, subcommand_of}
use Rattle.clap.specs.{Faults.{defaults_fault, level_fault, settle_fault, entered_fault, fault_of}, Takes.{is_given}}
use Rattle.clap.specs.declared.builder.value_parser.Reading.TheVariants.{AsWritten}
use Rattle.kalah_cli.proofs.ClapWalkLemmas.{Fits, FitsIn, IsUsable, both_none, found_all, found_passes, kept_defaults, kept_settled}
use Rattle.kalah_cli.proofs.ClapWalkLemmas.{kept_walk, none_pass}

-- ==== rows that satisfy arguments

-- the row fits the argument, or there is none and the argument isn't required
abbrev pub Satisfies : Rule → Option Row → Type 0
Satisfies a None = a.required ≡ false
Satisfies a (Some r) = Fits a r

abbrev pub row_by_id : Text → List Row → Option Row
row_by_id id rows = find (λ r. bytes_eq r.id id) rows

-- the rows of arguments that fail by no kind, of a command without subcommands, satisfy its rules
level_satisfies : (s : Shape) (words : List Text) → AllOf (IsUsable s.rules) s.rules → level_fault s [] nothing_held words false [] ≡ []
    → (id : Text) (a : Rule) → arg_by_id s.rules id ≡ Some a → Satisfies a (row_by_id id (rows_after s.rules [] words))
level_satisfies s words usable no_fault id a found =
    let end = (walk s.rules [] nothing_held words).held in
    let walking = both_none no_fault in
    let settling = both_none walking.1 in
    let defaulting = both_none settling.1 in
    let walked = kept_walk s usable (walk_from nothing_held) words walking.0 tt in
    let fit = kept_defaults s usable s.rules usable _ defaulting.0 (kept_settled s usable end.pending end settling.0 walked) in
    let all_given = none_pass (λ b. b.required && not (is_given b.id rows)) s.rules
    (none_lacks _ _ s.subcommand_negates_reqs _ defaulting.1) in
    let named : a.id ≡ id = (bytes_eq-Decides a.id id).0 (rw found at (found_passes {X = Rule} (λ b. bytes_eq b.id id) s.rules)) in
    go (row_by_id id rows) (found_all (FitsIn s.rules) _ rows fit) (found_passes _ rows)
    (rw named at (rw found at (found_all {X = Rule} _ (λ b. bytes_eq b.id id) s.rules all_given)))
  where
    rows : List Row
    rows = rows_after s.rules [] words

    none_lacks : (help sub negates lacks : Bool) → check_kinds help sub (not (negates && false) && lacks) ≡ [] → lacks ≡ false
    none_lacks help sub negates lacks no_fault = grind arith

    go : (o : Option Row) → IfSome o (FitsIn s.rules) → IfSome o (λ r. bytes_eq r.id id ≡ true)
        → (a.required && not (option_map_or (λ r. explicit_source r.source) o false)) ≡ false → Satisfies a o
    go None fit named lacks = grind arith
    go (Some r) fit named lacks = rw (ap (arg_by_id s.rules) ((bytes_eq-Decides r.id id).0 named) ∙ found) at fit

-- ==== values

-- the first value of an argument, and all of them
pub record Given (a : Rule) (o : Option Row) : Type 0 where
  pub value : Text
  pub more : List Text
  pub first : option_and_then (λ r. slice_get r.values 0) o ≡ Some value
  pub all : option_map (λ r. r.values) o ≡ Some (value ∷ more)
  pub text : reading_by a ≡ AsWritten → option_and_then row_text o ≡ Some value

pub required_is_given : (a : Rule) (o : Option Row) → Satisfies a o → a.required ≡ true → Given a o
required_is_given a None optional required = cc
required_is_given a (Some r) fit required = record {
  value = fit.value;
  more = fit.more;
  first = rw fit.values refl;
  all = rw fit.values refl;
  text = λ as_written. rw (fit.values, fit.reading, as_written) refl;
}

-- what a typed getter reads is accepted
pub text_is_accepted : (a : Rule) (o : Option Row) → Satisfies a o → reading_by a ≡ AsWritten
    → IfSome (option_and_then row_text o) (Accepts a.ignore_case (parser_of_value a.parser))
text_is_accepted a None optional as_written = tt
text_is_accepted a (Some r) fit as_written = rw (fit.values, fit.reading, as_written) fit.accepted

-- ==== the subcommand

-- the subcommand is found by its name, and its arguments are usable
abbrev pub IsUsableIn : List Shape → Shape → Type 0
IsUsableIn subs s = (find (λ t. bytes_eq t.name s.name) subs ≡ Some s) × AllOf (IsUsable s.rules) s.rules

-- the argument of the id, of the subcommand of the name
abbrev pub arg_in : List Shape → Text → Text → Option Rule
arg_in subs name id = option_and_then (λ s. arg_by_id s.rules id) (find (λ s. bytes_eq s.name name) subs)

-- the rows satisfy all arguments of the subcommand of the name
abbrev pub SatisfyAll : List Shape → Text → List Row → Type 0
SatisfyAll subs name rows = (id : Text) (a : Rule) → arg_in subs name id ≡ Some a → Satisfies a (row_by_id id rows)

entered_satisfies : (a : App) (stop : Option (Text × List Text)) → AllOf (IsUsableIn a.subs) a.subs → entered_fault a stop ≡ []
    → IfSome (entered a stop) (λ e. SatisfyAll a.subs e.0 e.1)
entered_satisfies a None usable no_fault = tt
entered_satisfies a (Some p) usable no_fault =
    go (find (λ s. answers_to p.0 (label_of s)) a.subs) (found_all (IsUsableIn a.subs) _ a.subs usable) no_fault
  where
    go : (o : Option Shape) → IfSome o (IsUsableIn a.subs)
        → option_map_or (λ s. level_fault s [] nothing_held p.1 false []) o [] ≡ []
        → IfSome (option_map (λ s. rows_at s p.1) o) (λ e. SatisfyAll a.subs e.0 e.1)
    go None usable no_fault = tt
    go (Some s) usable no_fault = λ id b found. level_satisfies s p.1 usable.1 no_fault id b (rw usable.0 at found)

-- arguments that fail by no kind enter one, if one is required, and its rows satisfy its arguments
pub accepted_satisfies : (a : App) (words : List Text) → AllOf (IsUsableIn (built a).subs) (built a).subs
    → (built a).top.subcommand_required ≡ true → fault_of a words ≡ []
    → (is_some (subcommand_of a words) ≡ true) × IfSome (subcommand_of a words) (λ e. SatisfyAll (built a).subs e.0 e.1)
accepted_satisfies a words usable required no_fault =
    let top = (built a).top in
    let end = walk top.rules (names_of (built a)) nothing_held (argument_words a words) in
    let walking = both_none no_fault in
    let below = both_none walking.1 in
    let settling = both_none {a = settle_fault top.rules top.args_override_self end.held} below.1 in
    let checking = both_none {a = defaults_fault (settled top.rules end.held).rows top.rules} settling.1 in
    (go _ _ _ _ required checking.1, entered_satisfies (built a) end.stopped usable below.0)
  where
    go : (help is_entered needs lacks : Bool) → needs ≡ true → check_kinds help (not is_entered && needs) lacks ≡ [] → is_entered ≡ true
    go help is_entered needs lacks required no_fault = grind arith
