use Rattle.kalah_run.specs.{IsPassAt}
use Rattle.kalah_run.proofs.desk.tests.draw_all.Given as goal

abbrev pub invariant-loop : goal.invariant-loop
invariant-loop l = IsPassAt l.desk l.pass
