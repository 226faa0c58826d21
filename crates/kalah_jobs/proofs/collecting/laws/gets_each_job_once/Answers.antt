use Rattle.kalah_jobs.proofs.CountingLemmas.{gets_each_job_once}
use Rattle.kalah_jobs.proofs.collecting.laws.gets_each_job_once.Goals as goal

pub returns : goal.returns
returns c = gets_each_job_once
