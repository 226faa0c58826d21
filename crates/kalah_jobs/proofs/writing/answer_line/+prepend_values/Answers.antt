use Rattle.std.proofs.{Common.{arith}, lemmas.Grind.{common_steps}}
use Rattle.kalah_jobs.proofs.TextLemmas.{value_before}
use Rattle.kalah_jobs.proofs.writing.answer_line.+prepend_values.Goals as goal

pub returns-clause-values : goal.returns-clause-values
returns-clause-values t c = grind (arith, common_steps, value_before c.args.values.now c.args.i c.get-value.result)
