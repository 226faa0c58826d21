use Rattle.kalah_solve.proofs.SolverLemmas.{margin_fits, margin_is_worth, margin_is_small}
use Rattle.kalah_solve.proofs.solver.worth_of_board.Goals as goal

pub overflow_add-result : goal.overflow_add-result
overflow_add-result c = margin_fits c.args.board.now c.requires.limits c.requires.houses c.own_store.ensures c.other_store.ensures

pub returns-clause-worth : goal.returns-clause-worth
returns-clause-worth c = margin_is_worth c.args.board.now c.requires.limits c.requires.houses c.own_store.ensures c.other_store.ensures

pub returns-clause-small : goal.returns-clause-small
returns-clause-small c = margin_is_small c.args.board.now c.requires.limits c.requires.houses c.own_store.ensures c.other_store.ensures
