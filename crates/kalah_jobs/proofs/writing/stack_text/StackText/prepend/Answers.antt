-- The piece is copied into the free bytes before the text, so it stands in front of it.
use Rattle.std.proofs.{Common.{drop, arith}, lemmas.Grind.{common_steps}}
use Rattle.kalah_jobs.proofs.TextLemmas.{piece_before}
use Rattle.kalah_jobs.proofs.writing.stack_text.StackText.prepend.Goals as goal

pub invariant_of-self : goal.invariant_of-self
invariant_of-self c = (
  grind (arith, common_steps),
  omega (arith, c.self.invariant.1),
  piece_before _ c.args.piece.now (drop c.self.inside.start c.self.inside.bytes) (grind (arith, common_steps)) c.utf8.piece
      c.self.invariant.2,
)

pub copy_from_slice-requires : goal.copy_from_slice-requires
copy_from_slice-requires c = grind (arith, common_steps)

pub returns-clause-piece : goal.returns-clause-piece
returns-clause-piece c = grind (arith, common_steps)

pub returns-clause-longer : goal.returns-clause-longer
returns-clause-longer c = grind (arith, common_steps)
