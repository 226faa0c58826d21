use Rattle.std.proofs.Common.{◌≤◌, All, length, map, take}
use Rattle.kalah_jobs.specs.Limits.{most_file_bytes}
use Rattle.kalah_cli.specs.{AreFilesOf}
use Rattle.kalah_cli.proofs.system.read_files.read_files.Given as goal

abbrev pub invariant-loop-name : goal.invariant-loop-name
invariant-loop-name g l = AreFilesOf (g.R.Sources.may_give l.rt) (map (λ name. name.now) (take l.name-index l.names)) l.files.items
    × All (λ file. length file.bytes ≤ most_file_bytes) l.files.items
