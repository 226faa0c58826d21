-- Best play wins at least `most`, and a move outside the set at most that; so best play wins it once no move is left or it is all seeds.
use Rattle.std.proofs.Common.{arith, rules, ◌∙◌}
use Rattle.kalah_solve.proofs.{BoundsLemmas.{won_of_houses}, WorthLemmas.{played_leads_on}, HouseSetLemmas.{without_last_less, seeded_is_legal, movable_before_last, last_is_legal}, EndingLemmas.{most_at_start, most_with_last, most_is_all, won_is_most}}
use Rattle.kalah_solve.proofs.table.ending_table.EndingTable.+won.Goals as goal

pub most_won-loop-house-init : goal.most_won-loop-house-init
most_won-loop-house-init g t c =
    let set = c.filled-untried.ensures in
    record {
      movable = record { legal = λ i some. seeded_is_legal i set.limits c.requires.ongoing.going ((set.members i).0 some) };
      most_is = most_at_start set.members;
    }

pub most_won-move_wins-requires : goal.most_won-move_wins-requires
most_won-move_wins-requires g t c κs within =
    let legal = last_is_legal c.loop-house.invariant.movable c.in-Some.ensures.0 in
    (omega arith, (within, (search rules, (legal, (c.requires.ongoing.variant_is, c.requires.ending)))))

pub most_won-returns-then-most-seeds : goal.most_won-returns-then-most-seeds
most_won-returns-then-most-seeds g t c =
    let last = c.in-Some.ensures.0 in
    let before = c.loop-house.invariant in
    let limits = c.seeds-seeds.ensures.limits in
    let most_is = most_with_last limits before.most_is last (last_is_legal before.movable last) c.move_wins.ensures c.max-most.ensures in
    most_is_all limits most_is (omega arith)

pub most_won-loop-house-preserved : goal.most_won-loop-house-preserved
most_won-loop-house-preserved g t c =
    let last = c.in-Some.ensures.0 in
    let before = c.loop-house.invariant in
    rw c.in-Some.ensures.1 (record {
      movable = movable_before_last before.movable last;
      most_is = most_with_last c.seeds-seeds.ensures.limits before.most_is last (last_is_legal before.movable last) c.move_wins.ensures
          c.max-most.ensures;
    })

pub most_won-loop-house-smaller : goal.most_won-loop-house-smaller
most_won-loop-house-smaller g t c = without_last_less c.in-Some.ensures

pub most_won-returns : goal.most_won-returns
most_won-returns g t c =
    won_is_most c.seeds-seeds.ensures.limits c.requires.ongoing.going c.loop-house.invariant.most_is c.in_default.ensures

pub move_wins-won-requires : goal.move_wins-won-requires
move_wins-won-requires g t c κs within =
    let next = played_leads_on c.play_with.ensures.limits c.requires.legal (rw c.in-Again.is at c.play_with.ensures.step) in
    (omega arith, (within, (search rules, (record { going = next.going; variant_is = next.same ∙ c.requires.variant }, omega arith))))

pub move_wins-overflow_add-result : goal.move_wins-overflow_add-result
move_wins-overflow_add-result g t c =
    let next = played_leads_on c.play_with.ensures.limits c.requires.legal (rw c.in-Again.is at c.play_with.ensures.step) in
    omega (arith, (won_of_houses next.limits).few)

pub move_wins-won-requires-in-Turn : goal.move_wins-won-requires-in-Turn
move_wins-won-requires-in-Turn g t c κs within =
    let next = played_leads_on c.play_with.ensures.limits c.requires.legal (rw c.in-Turn.is at c.play_with.ensures.step) in
    (omega arith, (within, (search rules, (record { going = next.going; variant_is = next.same ∙ c.requires.variant }, omega arith))))

pub move_wins-overflow_sub-result : goal.move_wins-overflow_sub-result
move_wins-overflow_sub-result g t c =
    let next = played_leads_on c.play_with.ensures.limits c.requires.legal (rw c.in-Turn.is at c.play_with.ensures.step) in
    omega (arith, (won_of_houses next.limits).few)

pub move_wins-overflow_add-result-in-Turn : goal.move_wins-overflow_add-result-in-Turn
move_wins-overflow_add-result-in-Turn g t c =
    let next = played_leads_on c.play_with.ensures.limits c.requires.legal (rw c.in-Turn.is at c.play_with.ensures.step) in
    omega arith
