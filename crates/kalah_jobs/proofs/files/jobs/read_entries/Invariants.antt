use Rattle.std.proofs.Common.{◌≡◌, ◌+◌, ◌≤◌, ◌++◌, length, map, count_by, vec_capacity}
use Rattle.kalah_jobs.specs.{entry_for, is_faulty_entry, lines_of}
use Rattle.kalah_jobs.proofs.files.jobs.read_entries.Given as goal

abbrev pub invariant-loop-rest : goal.invariant-loop-rest
invariant-loop-rest l = record {
  read : l.entries.items ++ map (entry_for l.question) (lines_of l.rest) ≡ map (entry_for l.question) (lines_of l.file.bytes);
  faults : l.faults ≡ count_by is_faulty_entry l.entries.items;
  room : length l.entries.items + length (lines_of l.rest) ≤ vec_capacity l.entries;
}

abbrev pub decreases-loop-rest : goal.decreases-loop-rest
decreases-loop-rest l = length l.rest
