-- After each byte the lines read so far are answered. A read or a write that fails leaves the answers of whole lines, or a prefix of them.
use Rattle.std.proofs.{Common.{◌∙◌, refl, sym}, lemmas.Result.{err_from_is_err_and}}
use Rattle.kalah_jobs.proofs.AskingLemmas.{begun_last, begun_line, byte_read, line_read, nothing_read, reading_done, reading_ended, write_failed}
use Rattle.kalah_jobs.proofs.asking.answer_lines.answer_each.Goals as goal

pub loop-byte-init : goal.loop-byte-init
loop-byte-init g c = record {
  answered = nothing_read _ _ _ _ c.new-line.ensures;
  not_failed = c.requires.not_failed;
  start = refl;
  same_reference = refl;
}

pub returns-in_err-byte-clause-lines : goal.returns-in_err-byte-clause-lines
returns-in_err-byte-clause-lines g c =
    let next = c.in_err-byte.ensures in
    let returned = err_from_is_err_and c.from_residual.result c.from_residual.ensures.1 in
    rw (returned.1, returned.2) (reading_ended _ _ c.loop-byte.invariant.answered next.untaken next.keeps next.fault)

pub loop-byte-preserved-then-byte-ne-LINE_FEED : goal.loop-byte-preserved-then-byte-ne-LINE_FEED
loop-byte-preserved-then-byte-ne-LINE_FEED g c =
    let so_far = c.loop-byte.invariant in
    let next = c.in_ok-byte.ensures in
    record {
      answered = byte_read so_far.answered _ _ next.taken next.keeps _ c.in-Some.is c.if-byte-ne-LINE_FEED.true c.push.ensures;
      not_failed = next.not_failed;
      start = next.start ∙ so_far.start;
      same_reference = next.same_reference ∙ so_far.same_reference;
    }

pub loop-byte-preserved : goal.loop-byte-preserved
loop-byte-preserved g c =
    let so_far = c.loop-byte.invariant in
    let next = c.in_ok-byte.ensures in
    let reply = c.write_reply-all_read.ensures in
    let not_failed = sym c.failed.ensures ∙ c.if-failed.false in
    record {
      answered = line_read so_far.answered _ _ next.taken next.keeps c.in-Some.is c.if-byte-ne-LINE_FEED.false
          (reply.given.whole not_failed).1 reply.read c.new-line-in-Some.ensures;
      not_failed = not_failed;
      start = next.start ∙ so_far.start;
      same_reference = next.same_reference ∙ so_far.same_reference;
    }

pub returns-then-failed : goal.returns-then-failed
returns-then-failed g c =
    let so_far = c.loop-byte.invariant in
    let next = c.in_ok-byte.ensures in
    let failed = sym c.failed.ensures ∙ c.if-failed.true in
    record {
      same_reference = next.same_reference ∙ so_far.same_reference;
      lines = write_failed failed (begun_line so_far.answered _ _ next.taken next.keeps c.in-Some.is c.if-byte-ne-LINE_FEED.false
          c.write_reply-all_read.ensures.given.start);
      fault = failed;
    }

pub returns-then-failed-2 : goal.returns-then-failed-2
returns-then-failed-2 g c =
    let so_far = c.loop-byte.invariant in
    let next = c.in_ok-byte.ensures in
    let failed = sym c.failed-2.ensures ∙ c.if-failed-2.true in
    record {
      same_reference = next.same_reference ∙ so_far.same_reference;
      lines = write_failed failed (begun_last so_far.answered _ _ next.taken next.keeps c.in_default.is
          c.write_last_reply-all_read.ensures.given.start);
      fault = failed;
    }

pub returns-clause-lines : goal.returns-clause-lines
returns-clause-lines g c =
    let so_far = c.loop-byte.invariant.answered in
    let next = c.in_ok-byte.ensures in
    let reply = c.write_last_reply-all_read.ensures in
    let not_failed = sym c.failed-2.ensures ∙ c.if-failed-2.false in
    reading_done _ so_far c.in_default.is next.taken (next.end c.in_default.is) next.keeps reply.given.start
    (reply.given.whole not_failed).1 reply.read not_failed (reply.all_flushed not_failed)
