use Rattle.std.proofs.{Common.{arith}, lemmas.Grind.{common_steps}}
use Rattle.kalah_jobs.proofs.SinkLemmas.{left_all, left_part, left_prefix}
use Rattle.kalah_jobs.proofs.writing.stream.write_pieces.Goals as goal

pub returns-in_err-write_rest-clause-start : goal.returns-in_err-write_rest-clause-start
returns-in_err-write_rest-clause-start g c =
    left_prefix _ (left_part _ (left_all _ _) c.in_ok-taken.taken c.in_ok-taken.ensures.adds) c.write_rest.ensures.start

pub returns-in_ok-write_rest-clause-start : goal.returns-in_ok-write_rest-clause-start
returns-in_ok-write_rest-clause-start g c =
    left_prefix _ (left_part _ (left_all _ _) c.in_ok-taken.taken c.in_ok-taken.ensures.adds) c.write_rest.ensures.start

pub returns-in_ok-write_rest-clause-adds : goal.returns-in_ok-write_rest-clause-adds
returns-in_ok-write_rest-clause-adds g c = grind (arith, common_steps)

pub returns-in_err-taken-clause-start : goal.returns-in_err-taken-clause-start
returns-in_err-taken-clause-start g c = grind (arith, common_steps)
