use Rattle.std.proofs.Common.{◌≤◌, length, vec_capacity}
use Rattle.kalah_jobs.{specs.{entries_in, starts_in}, proofs.FilesLemmas.{AreRead}}
use Rattle.kalah_jobs.proofs.files.jobs.Jobs.with_question.Given as goal

abbrev pub invariant-loop-file : goal.invariant-loop-file
invariant-loop-file l = record {
  files : AreRead l.question l.files l.file-index (entries_in l.read.items) (starts_in l.read.items) l.before l.faults;
  room : length l.files ≤ vec_capacity l.read;
}
