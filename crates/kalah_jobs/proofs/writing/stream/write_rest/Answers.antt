use Rattle.kalah_jobs.proofs.SinkLemmas.{left_part, left_prefix, prefix_kept, prefix_none}
use Rattle.kalah_jobs.proofs.writing.stream.write_rest.Goals as goal

pub returns-then-is_empty-clause-start : goal.returns-then-is_empty-clause-start
returns-then-is_empty-clause-start g c = left_prefix _ c.loop.invariant (prefix_none _ _)

pub returns-in_err-taken-clause-start : goal.returns-in_err-taken-clause-start
returns-in_err-taken-clause-start g c = left_prefix _ c.loop.invariant (prefix_kept _ _ _ _ (prefix_none _ _) c.in_err-taken.ensures.keeps)

pub returns-clause-start : goal.returns-clause-start
returns-clause-start g c = left_prefix _ c.loop.invariant (prefix_none _ _)

pub loop-preserved : goal.loop-preserved
loop-preserved g c = left_part _ c.loop.invariant c.in_ok-taken.taken c.in_ok-taken.ensures.adds
