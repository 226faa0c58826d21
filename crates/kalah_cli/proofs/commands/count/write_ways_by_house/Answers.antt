-- After i moves their lines were given, and the total is the sum of their ways: at most 6 ^ 19 for each, so that no sum wraps.
use Rattle.std.proofs.{Common.{◌≡◌, ◌<◌, ◌≤◌, ◌+◌, ◌-◌, ◌^◌, ◌∙◌, ℕ, List, add-one, ap, arith, length, suc, sym, take, sum_by, take_all}, lemmas.List.{Elements.{Contains-get_or}, Sums.{sum_by_more}}, Math.Nat.{le_trans, pow-le-pow_right}}
use Rattle.kalah_rules.specs.{Limits.{most_depth, most_houses}, Play.{legal_houses}, Position.{Position}, Ways.{ways, ways_by}}
use Rattle.kalah_rules.proofs.WaysLemmas.{legal_few, ways-suc}
use Rattle.kalah_solve.proofs.SolverLemmas.{house_small}
use Rattle.kalah_cli.specs.{house_line}
use Rattle.kalah_jobs.proofs.SinkLemmas.{given_all, given_all_after_failure, given_then_flush, given_more}
use Rattle.kalah_cli.proofs.commands.count.write_ways_by_house.Goals as goal

-- the sum of the ways that begin with a legal move is the number of all
all_counted : {depth total : ℕ} {moves : List ℕ} (p : Position) (n : ℕ) → depth ≡ n + 1 → moves ≡ legal_houses p → (i : ℕ)
    → length moves ≤ i → total ≡ sum_by (ways_by n p) (take i moves) → total ≡ ways depth p
all_counted {moves = moves} p n more same i complete sum =
    rw (sum, take_all i moves complete, same, more, add-one n, ways-suc n p)

-- at most 6 ^ 19 ways begin with a house, so the sum of six fits sixty-four bits
few_ways : (n depth : ℕ) → n ≤ most_houses ^ (depth - 1) → depth ≤ most_depth → n ≤ 6 ^ 19
few_ways n depth few high = le_trans few (pow-le-pow_right {n = 6} (omega arith) {i = depth - 1} {j = 19} (omega arith))

pub loop-i-preserved : goal.loop-i-preserved
loop-i-preserved g c =
    let within : c.loop-i.i < length c.legal-moves.result = omega arith in
    let line = rw c.ways_by-ways.ensures.ways at (given_then_flush _ c.write_ways.ensures c.flush_unless_failed.ensures.given) in
    let few = few_ways c.ways_by-ways.result c.args.depth c.ways_by-ways.ensures.small c.requires in
    record {
      same = c.loop-i.invariant.same;
      sum = rw (c.ways_by-ways.ensures.ways, c.get-house.ensures, c.loop-i.invariant.sum)
          (sym (sum_by_more (ways_by (c.args.depth - 1) c.args.board.now) c.legal-moves.result c.loop-i.i 0 within));
      few = omega arith;
      given = given_more _ (house_line (c.args.depth - 1) c.args.board.now) c.loop-i.invariant.same c.loop-i.i _ _
          c.loop-i.invariant.given _ c.get-house.result within c.get-house.ensures line;
    }

pub write_ways-requires : goal.write_ways-requires
write_ways-requires g c =
    house_small c.legal-moves.ensures.limits
    (rw (← c.loop-i.invariant.same, c.get-house.ensures)
    (Contains-get_or c.legal-moves.result c.loop-i.i 0 (omega arith)))

pub overflow_add-total : goal.overflow_add-total
overflow_add-total g c =
    let few = few_ways c.ways_by-ways.result c.args.depth c.ways_by-ways.ensures.small c.requires in
    omega (arith, ap length c.loop-i.invariant.same, legal_few c.args.board.now)

pub returns-then-failed-clause-given : goal.returns-then-failed-clause-given
returns-then-failed-clause-given g c =
    let positive : c.args.depth ≡ suc (c.args.depth - 1) = omega arith in
    rw positive (given_all_after_failure _ (house_line (c.args.depth - 1) c.args.board.now) c.loop-i.invariant.same c.loop-i.i _ _
    c.loop-i.invariant.given (sym c.failed.ensures ∙ c.if-failed.true))

pub returns-clause-total : goal.returns-clause-total
returns-clause-total g c sound =
    all_counted c.args.board.now (c.args.depth - 1) (omega arith) c.loop-i.invariant.same c.loop-i.i
    (omega arith) c.loop-i.invariant.sum

pub returns-clause-given : goal.returns-clause-given
returns-clause-given g c =
    let positive : c.args.depth ≡ suc (c.args.depth - 1) = omega arith in
    rw positive (given_all _ (house_line (c.args.depth - 1) c.args.board.now) c.loop-i.invariant.same c.loop-i.i _ _
    c.loop-i.invariant.given (omega arith))
