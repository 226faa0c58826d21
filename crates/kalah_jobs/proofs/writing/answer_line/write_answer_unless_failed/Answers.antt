use Rattle.std.proofs.Common.{◌∷◌, ◌++◌, ◌∙◌, ap, subst, rules}
use Rattle.kalah_jobs.{specs.{answer_line, line_feed, WasGiven}, proofs.TextLemmas.{line_before}}
use Rattle.kalah_jobs.proofs.writing.answer_line.write_answer_unless_failed.Goals as goal

pub returns-in_default : goal.returns-in_default
returns-in_default g c =
    subst (WasGiven g.W.Sink.state c.args.out.now c.write_named.new.out)
    (line_before c.args.name.now c.args.taken.now _ _ _ (search rules) c.prepend_joined_text.ensures.joined
    c.prepend_place-in_default.ensures.place
    ∙ ap (answer_line c.args.name.now c.args.taken.now ++◌) (c.prepend.ensures.piece ∙ ap (line_feed ∷◌) c.new-text.ensures))
    c.write_named.ensures
