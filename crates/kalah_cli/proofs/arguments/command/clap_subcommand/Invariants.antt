use Rattle.std.proofs.Common.{◌≡◌, take, fold}
use Rattle.clap.specs.Words.{app_of, new_app}
use Rattle.kalah_cli.specs.{with_argument}
use Rattle.kalah_cli.proofs.arguments.command.clap_subcommand.Given as goal

abbrev pub invariant-loop-argument : goal.invariant-loop-argument
invariant-loop-argument l = app_of l.command
    ≡ fold with_argument (new_app l.subcommand.name.now) (take l.argument-index l.argument-items)
