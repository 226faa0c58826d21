use Rattle.std.proofs.Common.{◌≡◌, take, fold}
use Rattle.clap.specs.Words.{app_of}
use Rattle.kalah_cli.specs.{program_app, with_listed}
use Rattle.kalah_cli.proofs.arguments.command.program_with.Given as goal

abbrev pub invariant-loop-subcommand : goal.invariant-loop-subcommand
invariant-loop-subcommand l = app_of l.command ≡ fold with_listed program_app (take l.subcommand-index l.subcommands)
