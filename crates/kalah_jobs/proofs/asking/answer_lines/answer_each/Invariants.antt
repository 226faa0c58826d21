-- After each byte all lines that were read are answered, and the head has the bytes of the line that is being read.
use Rattle.std.proofs.Common.{◌≡◌, false}
use Rattle.kalah_jobs.{specs.{start_of, unread}, proofs.AskingLemmas.{IsAnsweredSoFar}}
use Rattle.kalah_jobs.proofs.asking.answer_lines.answer_each.Given as goal

-- the lines that were read are answered
abbrev pub invariant-loop-byte : goal.invariant-loop-byte
invariant-loop-byte g l =
    let remaining = g.I.Read.remaining in
    let state = g.O.Sink.state in
    record {
      answered : IsAnsweredSoFar l.question (unread remaining l.fn.input) (unread remaining l.input)
          (state l.fn.out).written (state l.out).written l.line l.all_read;
      not_failed : (state l.out).has_failed ≡ false;
      start : start_of remaining state l.input ≡ start_of remaining state l.fn.input;
      same_reference : l.input.input.ghost_name ≡ l.fn.input.input.ghost_name;
    }

abbrev pub decreases-loop-byte : goal.decreases-loop-byte
decreases-loop-byte g l = l.input.budget
