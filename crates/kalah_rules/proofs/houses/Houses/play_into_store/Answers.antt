-- The changed rows are those of a move into the store (`MovesIntoStore`); if no seeds are left, the game is over.
use Rattle.std.proofs.Common.{arith, ◌+◌, ◌%◌, ◌^◌}
use Rattle.kalah_rules.specs.{storeless}
use Rattle.kalah_rules.proofs.{PlayLemmas.{legal_holds}, StepLemmas.{MovesIntoStore, moves_into_store}, houses.Houses.play_into_store.Goals.{After-into_store}}
use Rattle.kalah_rules.proofs.houses.Houses.play_into_store.Goals as goal

pub into_store-requires-clause-last : goal.into_store-requires-clause-last
into_store-requires-clause-last c = omega (arith, (legal_holds (storeless c.args.self.now) c.requires.legal).last)

-- what comes of the move
moved : (c : After-into_store) → MovesIntoStore c.args.self.now c.args.house c.self.inside.seeds c.self.inside.variant
    ((c.self.inside.rows + c.into_store.result) % 2 ^ 64)
moved c =
    moves_into_store c.into_store.result c.self.invariant c.self.view_is c.requires.legal c.requires.ends
    (rw c.m.ensures.side at c.into_store.ensures)

pub invariant_of-result : goal.invariant_of-result
invariant_of-result c = ((moved c.before).goes_on c.if-rows-gt0.true).fields

pub returns-then-rows-gt0 : goal.returns-then-rows-gt0
returns-then-rows-gt0 c = ((moved c.before).goes_on c.if-rows-gt0.true).step_is

pub returns : goal.returns
returns c = (moved c.before.before).over (omega arith)
