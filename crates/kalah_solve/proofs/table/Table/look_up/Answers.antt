use Rattle.std.proofs.Common.{◌∙◌, rules, sym}
use Rattle.lru.proofs.CallerLemmas.{Contains-promoted}
use Rattle.kalah_solve.proofs.EntryLemmas.{found_encloses_worth}
use Rattle.kalah_solve.proofs.table.Table.look_up.Goals as goal

pub invariant_of-self : goal.invariant_of-self
invariant_of-self g c = (
  rw c.get.follows.holds-at-none (λ e h. c.self.invariant.0 e (Contains-promoted _ c.self.inside.entries.entries e h)),
  search rules,
)

pub returns-clause-holds : goal.returns-clause-holds
returns-clause-holds g c =
    found_encloses_worth c.self.inside.entries.entries c.args.houses.now c.key-key.result c.self.invariant.0 c.key-key.ensures.limits
    c.key-key.ensures.key
    c.copied.result (sym c.get.ensures.value ∙ sym c.copied.ensures)
