use Rattle.std.proofs.Common.{arith, ◌+◌, ◌*◌, ◌%◌}
use Rattle.kalah_rules.proofs.KeyLemmas.{own_gain, up_to_past}
use Rattle.kalah_rules.proofs.houses.numbers.own_gains.Goals as goal

pub returns-clause-value : goal.returns-clause-value
returns-clause-value c =
    let m = c.args.m in
    let h = c.args.h in
    let count = c.args.count in
    let round = rw c.saturating_sub.ensures at c.ones_up_to-2.ensures.value in
    let past = up_to_past m h (h + count % (2 * m + 1)) c.requires.last (omega arith) in
    omega (arith, own_gain m h count c.requires.first c.requires.last)
