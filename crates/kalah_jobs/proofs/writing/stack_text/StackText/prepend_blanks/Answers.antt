use Rattle.std.proofs.{Common.{IsUtf8, arith, subst}, lemmas.Grind.{common_steps}}
use Rattle.kalah_jobs.proofs.TextLemmas.{piece_before, blanks_are_text, blanks_before}
use Rattle.kalah_jobs.proofs.writing.stack_text.StackText.prepend_blanks.Goals as goal

pub returns-clause-blanks : goal.returns-clause-blanks
returns-clause-blanks c =
    blanks_before c.self.inside.bytes c.self.inside.start c.args.n c.self.invariant.0 c.self.invariant.1 c.self.view_is
    c.requires (c.fill.ensures.after (λ y is. is))

pub invariant_of-self : goal.invariant_of-self
invariant_of-self c = (
  grind (arith, common_steps),
  omega (arith, c.self.invariant.1),
  piece_before _ _ c.args.self.now (returns-clause-blanks c) (blanks_are_text c.args.n) (subst IsUtf8 c.self.view_is c.self.invariant.2),
)

pub returns-clause-longer : goal.returns-clause-longer
returns-clause-longer c = grind (arith, common_steps)
