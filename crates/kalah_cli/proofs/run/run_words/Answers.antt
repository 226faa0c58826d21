-- The arguments are accepted, and what they ask for is done; or they are refused, with an error that is one of their faults.
use Rattle.std.proofs.Common.{ap, sym}
use Rattle.kalah_cli.specs.{texts_of}
use Rattle.kalah_cli.proofs.{RunLemmas.{run_of_request, run_without_request}, RequestLemmas.{accepted_at}, run.run_words.Goals.{in-Err, in-Ok}}
use Rattle.kalah_cli.proofs.run.run_words.Goals as goal

pub returns : goal.returns
returns g c =
    let arguments = ap texts_of (sym c.as_slice-arguments.ensures.value) in
    elim c.match-parsed.branch [
      | in-Ok w ↦ rw (c.report_end.ensures, w.ended-is, w.out-is)
          (run_of_request c.requires.not_failed (accepted_at arguments (rw w.in-Ok.is at c.parse-parsed.ensures.accepted))
          w.run_request-ended.ensures)
      | in-Err w ↦ rw (c.report_end.ensures, w.ended-is, w.out-is)
          (run_without_request w.in-Err.error
          (rw (c.as_slice-arguments.ensures.value, w.in-Err.is) at c.parse-parsed.ensures.kinds)
          w.end_without_request-ended.ensures.no_request w.end_without_request-ended.ensures.ends)
    ]
