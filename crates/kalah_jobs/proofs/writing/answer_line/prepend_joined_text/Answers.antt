use Rattle.std.proofs.{Common.{◌++◌, ◌∙◌, ap, arith, codes, decimal}, lemmas.Int.{ints}}
use Rattle.kalah_jobs.{specs.{joined_text}, proofs.TextLemmas.{from_margin}}
use Rattle.kalah_jobs.proofs.writing.answer_line.prepend_joined_text.Goals as goal

pub returns-in-Best-clause-joined : goal.returns-in-Best-clause-joined
returns-in-Best-clause-joined c =
    from_margin c.args.answer.now c.in-Best.margin (codes " house " ++ decimal c.in-Best.house) _ (omega (arith, ints))
    (ap joined_text c.in-Best.is) (c.prepend.ensures.piece ∙ ap (codes " house " ++◌) c.prepend_u8.ensures.number)
    c.prepend_margin.ensures.margin

pub returns-in-Over-clause-joined : goal.returns-in-Over-clause-joined
returns-in-Over-clause-joined c =
    from_margin c.args.answer.now c.in-Over.margin (codes " over") _ (omega (arith, ints)) (ap joined_text c.in-Over.is)
    c.prepend-in-Over.ensures.piece c.prepend_margin-in-Over.ensures.margin
