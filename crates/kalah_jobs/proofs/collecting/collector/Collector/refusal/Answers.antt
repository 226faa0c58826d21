use Rattle.std.proofs.{Common.{arith}, lemmas.Grind.{common_steps}}
use Rattle.kalah_jobs.proofs.CollectingLemmas.{files_many, lines_are}
use Rattle.kalah_jobs.proofs.collecting.collector.Collector.refusal.Goals as goal

pub entry-requires-clause-file : goal.entry-requires-clause-file
entry-requires-clause-file c = grind (arith, files_many c.args.jobs.now c.args.self.now c.requires)

pub entry-requires-clause-line : goal.entry-requires-clause-line
entry-requires-clause-line c = grind (arith, common_steps, lines_are c.args.jobs.now c.args.self.now c.requires)
