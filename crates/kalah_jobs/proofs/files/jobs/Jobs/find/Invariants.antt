use Rattle.std.proofs.Common.{◌<◌, ◌≤◌, ◌-◌, length, take}
use Rattle.kalah_jobs.specs.{job_count}
use Rattle.kalah_jobs.proofs.files.jobs.Jobs.find.Given as goal

abbrev pub invariant-loop-past : goal.invariant-loop-past
invariant-loop-past l = record {
  some : l.file < l.past;
  within : l.past ≤ length l.self;
  from : job_count (take l.file l.self) ≤ l.n;
  before : l.n < job_count (take l.past l.self);
}

abbrev pub decreases-loop-past : goal.decreases-loop-past
decreases-loop-past l = l.past - l.file
