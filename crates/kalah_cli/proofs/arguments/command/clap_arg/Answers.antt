use Rattle.std.proofs.{Common.{arith}, lemmas.Grind.{common_steps}}
use Rattle.kalah_cli.proofs.arguments.command.clap_arg.Goals as goal

pub returns-in-NumberOption : goal.returns-in-NumberOption
returns-in-NumberOption c = grind (arith, common_steps)

pub returns-in-PositionalNumber : goal.returns-in-PositionalNumber
returns-in-PositionalNumber c = grind (arith, common_steps)

pub returns-in-PositionalText : goal.returns-in-PositionalText
returns-in-PositionalText c = grind (arith, common_steps)

pub returns-in-Flag : goal.returns-in-Flag
returns-in-Flag c = grind (arith, common_steps)
