use Rattle.kalah_jobs.proofs.SinkLemmas.{IsPartWritten}
use Rattle.kalah_jobs.proofs.writing.stream.write_rest.Given as goal

abbrev pub invariant-loop : goal.invariant-loop
invariant-loop g l = IsPartWritten (g.W.Write.contents l.fn.writer) (g.W.Write.contents l.writer) l.fn.bytes l.rest
