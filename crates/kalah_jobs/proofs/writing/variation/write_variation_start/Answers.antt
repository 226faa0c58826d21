use Rattle.std.proofs.{Common.{arith}, lemmas.Grind.{common_steps}}
use Rattle.kalah_jobs.proofs.writing.variation.write_variation_start.Goals as goal

pub prepend-requires-2 : goal.prepend-requires-2
prepend-requires-2 g c = grind (arith, common_steps)

pub prepend_u8-requires-2 : goal.prepend_u8-requires-2
prepend_u8-requires-2 g c = grind (arith, common_steps)

pub prepend_margin-requires : goal.prepend_margin-requires
prepend_margin-requires g c = grind (arith, common_steps)
