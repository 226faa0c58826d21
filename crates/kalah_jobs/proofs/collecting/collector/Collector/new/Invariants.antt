use Rattle.std.proofs.Common.{◌≡◌, ◌≤◌, map, length, take, vec_capacity}
use Rattle.kalah_jobs.specs.{new_file}
use Rattle.kalah_jobs.proofs.collecting.collector.Collector.new.Given as goal

abbrev pub invariant-loop-f : goal.invariant-loop-f
invariant-loop-f l = record {
  files : l.files.items ≡ map (λ entries. new_file (length entries)) (take l.f l.jobs);
  room : length l.jobs ≤ vec_capacity l.files;
}
