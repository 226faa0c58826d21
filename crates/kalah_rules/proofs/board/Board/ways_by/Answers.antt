use Rattle.std.proofs.Common.{◌∙◌, ap}
use Rattle.kalah_rules.{specs.{HousesState, storeless, ways_by}, proofs.WaysLemmas.{ways_by_of_houses}}
use Rattle.kalah_rules.proofs.board.Board.ways_by.Goals as goal

pub returns-clause-ways : goal.returns-clause-ways
returns-clause-ways c =
    c.ways_by.ensures.ways ∙ ap (λ (a : HousesState). ways_by c.args.depth (storeless a) c.args.h) c.houses.ensures
    ∙ ways_by_of_houses c.args.depth c.args.self.now c.args.h

pub ways_by-requires-clause-legal : goal.ways_by-requires-clause-legal
ways_by-requires-clause-legal c = rw c.houses.ensures c.requires.legal
