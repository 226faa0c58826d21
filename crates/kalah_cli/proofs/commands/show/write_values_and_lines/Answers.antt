-- The picture, the line of values and the lines asked for are given, in this order. If the picture fails, a prefix of all was given.
use Rattle.std.proofs.Common.{◌≡◌, ◌∷◌, [], ◌++◌, ◌∙◌, Bool, ap, append_assoc, sym, false}
use Rattle.kalah_rules.specs.Position.{Position}
use Rattle.kalah_jobs.specs.{Files.Lines.{line_feed}, Writing.{Sink.{WasGiven}, Picture.{picture_of}, ValuesLine.{shown_of, values_line}}}
use Rattle.kalah_jobs.proofs.SinkLemmas.{given_more_after_failure, given_none, given_then}
use Rattle.kalah_cli.specs.{lines_asked, show_output}
use Rattle.kalah_cli.proofs.{EndsLemmas.{printed_flushed}, GameSolverLemmas.{variations_begin}, commands.show.write_values_and_lines.Goals.{else-lines, then-lines}}
use Rattle.kalah_cli.proofs.commands.show.write_values_and_lines.Goals as goal

-- the output is the picture, the line below it, and the lines after that
output_parts : (lines : Bool) (p : Position)
    → show_output false lines p ≡ picture_of p ++ ((values_line p ++ line_feed ∷ []) ++ lines_asked lines p)
unfolding shown_of
output_parts lines p = append_assoc (picture_of p) (values_line p ++ line_feed ∷ []) (lines_asked lines p)

pub returns-then-failed : goal.returns-then-failed
returns-then-failed g c = record {
  given = rw (output_parts c.args.lines c.args.board.now)
      (given_more_after_failure _ _ c.draw_and_flush.ensures.given (sym c.failed.ensures ∙ c.if-failed.true));
  all_flushed = c.draw_and_flush.ensures.all_flushed;
}

pub returns : goal.returns
returns g c =
    let lines : WasGiven g.O.Sink.state c.write_values.new.out c.if-lines.out (lines_asked c.args.lines c.args.board.now) =
    elim c.if-lines.branch [
      | then-lines w ↦ rw (w.out-is, w.if-lines.true) w.write_variations.ensures
      | else-lines w ↦ rw (w.out-is, w.if-lines.false) (given_none _ _)
    ] in
    rw (output_parts c.args.lines c.args.board.now)
    (printed_flushed (given_then _ c.draw_and_flush.ensures.given (given_then _ c.write_values.ensures lines))
    c.flush_unless_failed.ensures.given c.flush_unless_failed.ensures.all_flushed)

-- the picture is drawn before the search
pub values-values-requires-clause-shown : goal.values-values-requires-clause-shown
values-values-requires-clause-shown g c =
    rw (ap (λ game. game.sink) c.requires) c.draw_and_flush.ensures.given

-- the variations are written below the line of values
pub write_variations-requires-clause-shown : goal.write_variations-requires-clause-shown
write_variations-requires-clause-shown g c =
    variations_begin c.requires c.values-values.ensures.begun c.draw_and_flush.ensures.given c.write_values.ensures
