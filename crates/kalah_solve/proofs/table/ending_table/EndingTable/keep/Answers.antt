use Rattle.std.proofs.Common.{arith, rules, sym, ◌∙◌}
use Rattle.kalah_solve.proofs.{EndingLemmas.{ending_may_be_written}, BoundsLemmas.{won_of_houses}}
use Rattle.kalah_solve.proofs.table.ending_table.EndingTable.keep.Goals as goal

pub with_stored-word-requires-clause-small : goal.with_stored-word-requires-clause-small
with_stored-word-requires-clause-small g c = omega (arith, (won_of_houses c.word_index-at.ensures.limits).few)

pub swap_new_seat-requires : goal.swap_new_seat-requires
swap_new_seat-requires g c =
    let at = c.word_index-at.ensures in (
      search rules,
      ending_may_be_written _ _ c.load_new_seat-word.ensures.2 at.word at.limits c.requires.ending c.requires.rank c.requires.known
          (sym c.stored_at.ensures ∙ c.if-stored_at-eq0.true) c.with_stored-word.ensures,
    )
