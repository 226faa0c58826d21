-- A house outside 1 to m, or of a game that is over, isn't legal; of the others those with seeds are.
use Rattle.std.proofs.{Common.{◌∙◌, sym, arith, lt-ltb, ltb-true}, lemmas.Bool.{false≢true}}
use Rattle.kalah_rules.proofs.{PlayLemmas.{legal_holds, legal_going, holds_legal}, board.Board.is_legal.Goals.{then-h-lt1-via-then-h-lt1, then-h-lt1-via-else-h-lt1+then-h-m, then-h-lt1-via-else-h-lt1+else-h-m+then-is_over}}
use Rattle.kalah_rules.proofs.board.Board.is_legal.Goals as goal

pub returns-then-h-lt1 : goal.returns-then-h-lt1
returns-then-h-lt1 c = (
  λ t. absurd (false≢true t),
  λ legal.
      let holds = legal_holds c.args.self.now legal in
      elim c.then-h-lt1.branch [
        | then-h-lt1-via-then-h-lt1 w ↦ absurd (omega arith)
        | then-h-lt1-via-else-h-lt1+then-h-m w ↦ absurd (omega arith)
        | then-h-lt1-via-else-h-lt1+else-h-m+then-is_over w ↦
            sym (legal_going c.args.self.now c.args.h legal) ∙ sym w.is_over.ensures.over ∙ w.if-is_over.true
      ],
)

pub returns : goal.returns
returns c = (
  λ t. holds_legal c.args.self.now c.args.h
      (record { first = omega arith; last = omega arith; some = rw (← c.own.ensures) (ltb-true 0 _ t) })
      (sym c.is_over.ensures.over ∙ c.if-is_over.false),
  λ legal. lt-ltb 0 _ (rw c.own.ensures (legal_holds c.args.self.now legal).some),
)
