use Rattle.std.proofs.Common.{rules}
use Rattle.kalah_rules.proofs.KeyLemmas.{of_key_same, of_key_found}
use Rattle.kalah_rules.proofs.houses.Houses.of_key.Goals as goal

pub returns-clause-same : goal.returns-clause-same
returns-clause-same c =
    let valid = rw (c.cells_of.ensures, c.cells_of-2.ensures) at c.new.ensures.valid in
    let value = rw (c.cells_of.ensures, c.cells_of-2.ensures) at c.new.ensures.value in
    of_key_same c.args.key _ (search rules) c.new.result valid value

pub returns-clause-found : goal.returns-clause-found
returns-clause-found c =
    let valid = rw (c.cells_of.ensures, c.cells_of-2.ensures) at c.new.ensures.valid in
    let value = rw (c.cells_of.ensures, c.cells_of-2.ensures) at c.new.ensures.value in
    of_key_found c.args.key _ (search rules) c.new.result valid value
