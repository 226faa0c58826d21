use Rattle.std.proofs.Common.{arith}
use Rattle.kalah_jobs.proofs.FilesLemmas.{counts_of_jobs, no_more_than_all}
use Rattle.kalah_jobs.proofs.files.jobs.Jobs.lines.Goals as goal

pub overflow_cast-result : goal.overflow_cast-result
overflow_cast-result c = grind (arith, counts_of_jobs, no_more_than_all c.args.self.now c.args.f)

pub returns-clause-few : goal.returns-clause-few
returns-clause-few c = grind (arith, counts_of_jobs, no_more_than_all c.args.self.now c.args.f)
