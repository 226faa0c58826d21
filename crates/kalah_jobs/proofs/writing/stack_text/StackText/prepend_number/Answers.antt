use Rattle.std.proofs.{Common.{rules, arith}, lemmas.Grind.{common_steps}}
use Rattle.kalah_jobs.proofs.TextLemmas.{piece_before, number_is_text}
use Rattle.kalah_jobs.proofs.writing.stack_text.StackText.prepend_number.Goals as goal

pub invariant_of-self : goal.invariant_of-self
invariant_of-self c = (
  search rules,
  omega (arith, c.self.invariant.1, c.write_digits-self-inside.ensures.start),
  piece_before _ _ _ c.write_digits-self-inside.ensures.written (number_is_text c.args.n (omega (arith, c.ranges.n.fits)))
      c.self.invariant.2,
)

pub returns-clause-longer : goal.returns-clause-longer
returns-clause-longer c = grind (arith, common_steps)
