use Rattle.std.proofs.{Common.{rules, arith}, lemmas.Int.{ints, clamps}}
use Rattle.kalah_solve.proofs.bounds.window.Window.interval_of.Goals as goal

pub returns-then-answer-self-clause-held : goal.returns-then-answer-self-clause-held
returns-then-answer-self-clause-held c = search rules

pub returns-then-answer-self-2-clause-held : goal.returns-then-answer-self-2-clause-held
returns-then-answer-self-2-clause-held c = search rules

pub returns-else-answer-self-2-clause-held : goal.returns-else-answer-self-2-clause-held
returns-else-answer-self-2-clause-held c = λ z low high e. record { low = omega (arith, ints, clamps); high = omega (arith, ints, clamps) }
