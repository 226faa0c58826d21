use Rattle.std.proofs.Common.{arith, ◌∙◌, ◌≡◌, ◌%◌, subst}
use Rattle.kalah_solve.{specs.{rank_of_houses, HoldsWon, stored_at}, proofs.EndingLemmas.{stored_is_won}}
use Rattle.kalah_solve.proofs.table.ending_table.EndingTable.look_up.Goals as goal

pub returns : goal.returns
returns g c =
    let a = c.args.houses.now in
    let word = c.load_new_seat-word.result.0 in
    let at : c.stored_at-stored.result ≡ stored_at word (rank_of_houses a % 16) = rw (← c.requires.rank) c.stored_at-stored.ensures in
    let states = subst (λ i. HoldsWon i word) c.word_index.ensures.word c.load_new_seat-word.ensures.2 in
    let right = stored_is_won _ _ states c.word_index.ensures.limits c.requires.ending (λ none. c.if-stored-eq0.false (at ∙ none)) in
    omega arith
