-- A put adds the entry, which is true, or leaves all as they were, so all entries stay true.
use Rattle.kalah_solve.proofs.EntryLemmas.{put_replaces, put_leaves, put_or_same, true_after_put}
use Rattle.kalah_solve.proofs.table.Table.keep.Goals as goal

pub invariant_of-self : goal.invariant_of-self
invariant_of-self g c = (
  true_after_put c.self.inside.entries c.args.houses.now c.key-key.result c.args.interval c.self.invariant.0 c.key-key.ensures.limits
      c.key-key.ensures.key c.requires
      c.put.result c.put.new.self c.put.ensures.entries c.put.ensures.err,
  rw (put_leaves c.put.result _ _ _ c.put.ensures.entries c.put.ensures.err) c.self.invariant.1,
)

pub returns-clause-kept : goal.returns-clause-kept
returns-clause-kept g c =
    rw (← c.self.view_is, ← c.key-key.ensures.key)
    (put_or_same c.put.result c.self.inside.entries c.put.new.self c.key-key.result c.args.interval c.put.ensures.entries c.put.ensures.err)

pub returns-clause-again : goal.returns-clause-again
returns-clause-again g c =
    rw (← c.self.view_is, ← c.key-key.ensures.key)
    (put_replaces c.put.result c.self.inside.entries c.put.new.self c.key-key.result c.args.interval c.put.ensures.entries
    c.put.ensures.succeeds)
