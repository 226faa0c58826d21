use Rattle.std.proofs.Common.{arith, ◌%◌, ◌*◌, ◌^◌, ◌≡◌, refl}
use Rattle.kalah_solve.proofs.EndingLemmas.{digit_fits, word_with_digit_fits}
use Rattle.kalah_solve.proofs.table.ending_table.words.with_stored.Goals as goal

-- the shifted digit loses no bit
whole : (c : goal.Start) → c.args.stored * 2 ^ (4 * c.args.at) % 2 ^ 64 ≡ c.args.stored * 2 ^ (4 * c.args.at)
whole c = omega (arith, digit_fits c.args.at c.args.stored c.requires.place c.requires.small)

pub overflow_add-result : goal.overflow_add-result
overflow_add-result c =
    let fits = word_with_digit_fits _ _ _ c.requires.place c.requires.nothing c.requires.small (omega arith) in
    omega (arith, whole c)

pub returns : goal.returns
returns c = rw (whole c) refl
