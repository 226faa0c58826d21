-- What makes the program fail.
use Rattle.std.specs.{Prelude.{ℕ, List, Contains, ◌<◌, length}, Borrow.{Bor}}
use Rattle.kalah_run.specs.declared.batch.run_fault.RunFault.TheVariants.{OutOfMemory}
use Rattle.kalah_cli.specs.declared.exit.failure.Failure.{Failure, TheVariants.{Run, Unreadable}}

-- the file of one of these names can't be read, or there is no memory for one
abbrev pub FailsToRead : List (Bor (List ℕ)) → Failure → Type 0
FailsToRead names (Unreadable name fault) = Contains names name
FailsToRead names (Run OutOfMemory) = 0 < length names
FailsToRead names _ = ⊥
