use Rattle.std.proofs.Common.{◌∙◌, ap, arith, fold, take_all}
use Rattle.kalah_cli.{specs.{program_app, with_listed}, proofs.CommandLemmas.{subcommand_added}}
use Rattle.kalah_cli.proofs.arguments.command.program_with.Goals as goal

pub loop-subcommand-preserved : goal.loop-subcommand-preserved
loop-subcommand-preserved c =
    subcommand_added _ _ _ c.loop-subcommand-test.true c.in_ok-clap_subcommand.ensures c.loop-subcommand.invariant c.in_ok-command.ensures

pub returns : goal.returns
returns c = c.loop-subcommand.invariant
    ∙ ap (fold with_listed program_app) (take_all c.loop-subcommand.subcommand-index _ (omega (arith, c.loop-subcommand-test.false)))
