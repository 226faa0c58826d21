-- Whether or not the output was flushed first, nothing but the answer is given to it; the answer is that of the line as it was read.
use Rattle.std.proofs.{Common.{◌∙◌, [], ap, arith, sym}, lemmas.Grind.{common_steps}}
use Rattle.kalah_jobs.specs.{entry_for, answer_of, WasGiven}
use Rattle.kalah_jobs.proofs.{FilesLemmas.{asked_fault}, SinkLemmas.{given_more_after_failure, given_none, given_then}, asking.reply.write_reply.Goals.{else-takes_long, then-takes_long+else-failed}}
use Rattle.kalah_jobs.proofs.asking.reply.write_reply.Goals as goal

pub returns-then-failed-clause-given : goal.returns-then-failed-clause-given
returns-then-failed-clause-given g c =
    given_more_after_failure _ _ c.flush_unless_failed.ensures.given (sym c.failed.ensures ∙ c.if-failed.true)

pub returns-clause-given : goal.returns-clause-given
returns-clause-given g c =
    let state = g.O.Sink.state in
    let flushed : WasGiven state c.args.out.now c.if-takes_long.out [] = elim c.if-takes_long.branch [
      | then-takes_long+else-failed w ↦ rw w.out-is w.flush_unless_failed.ensures.given
      | else-takes_long w ↦ rw w.out-is (given_none state c.args.out.now)
    ] in
    let answer = c.answer-answer.ensures ∙ ap answer_of (c.of_line-entry.ensures ∙ ap (entry_for c.args.question) c.bytes.ensures) in
    rw answer at (given_then state flushed c.write_joined_text.ensures)

pub returns-clause-read : goal.returns-clause-read
returns-clause-read g c = grind (arith, common_steps, asked_fault)

pub returns-then-failed-clause-read : goal.returns-then-failed-clause-read
returns-then-failed-clause-read g c = grind (arith, common_steps, asked_fault)
