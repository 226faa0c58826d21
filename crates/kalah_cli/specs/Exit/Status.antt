-- The exit statuses of the program.
use Rattle.std.specs.Prelude.{ℕ}
pub use Rattle.kalah_cli.specs.declared.exit.status.ExitStatus.{ExitStatus}
pub use Rattle.kalah_cli.specs.declared.exit.status.ExitStatus.TheVariants.{Clean, LineFaults, Failed}

-- 0 if all was read, 1 if a line was not, 2 if the program failed
abbrev pub status_number : ExitStatus → ℕ
status_number Clean = 0
status_number LineFaults = 1
status_number Failed = 2
