use Rattle.std.proofs.{Common.{arith}, lemmas.Grind.{common_steps}}
use Rattle.kalah_cli.proofs.CommandLemmas.{argument_added}
use Rattle.kalah_cli.proofs.arguments.command.clap_subcommand.Goals as goal

pub loop-argument-preserved : goal.loop-argument-preserved
loop-argument-preserved c =
    argument_added _ _ _ c.loop-argument-test.true c.clap_arg.ensures c.loop-argument.invariant c.in_ok-command.ensures

pub returns : goal.returns
returns c = grind (arith, common_steps)

pub loop-argument-init : goal.loop-argument-init
loop-argument-init c = grind (arith, common_steps)
