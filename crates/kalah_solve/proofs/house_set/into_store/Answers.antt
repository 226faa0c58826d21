use Rattle.std.proofs.{Common.{◌≡◌, ◌≤◌, ◌==◌, ℕ, arith, bit_xor, get_or, refl, true}, lemmas.Bool.{agree_below_at, eqb-true}}
use Rattle.kalah_rules.specs.Fields.{ones}
use Rattle.kalah_solve.{specs.{all_into_store, declared.house_set.TheConstants.{ALL_INTO_STORE}}, proofs.HouseSetLemmas.{mask_into_store}}
use Rattle.kalah_solve.proofs.house_set.into_store.Goals as goal

-- each cell of the list is the row whose houses all end in the store
row_into_store : (m : ℕ) → m ≤ 6 → get_or ALL_INTO_STORE m 0 ≡ all_into_store m
row_into_store m few =
    eqb-true _ _ (agree_below_at (λ m. get_or ALL_INTO_STORE m 0 == all_into_store m) (λ m. true) 7 m refl (omega arith))

pub returns : goal.returns
returns c =
    let are : bit_xor c.filled.result c.one_each.result ≡ bit_xor c.filled.result (ones c.args.m) = rw c.one_each.ensures.value refl in
    mask_into_store c.args.row c.requires (rw (row_into_store c.args.m c.requires) at c.filled.ensures) are
