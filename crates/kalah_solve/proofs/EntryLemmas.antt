-- What the entries of a table state of the worth of houses stays true.
use Rattle.std.proofs.Common.{ℕ, ◌≡◌, arith, sym, List, ◌∙◌, eqb-true, Option, Some, None, Result, nat_eq, IfSome, IsSome, IsOk, OnOk, OnErr, ◌⊎◌}
use Rattle.kalah_rules.{specs.{Position.{HousesState, AreWithinLimits}, Key.{key_of}}, proofs.KeyLemmas.{key-injective}}
use Rattle.std.specs.{Map.{lookup}, Cmp.{nat_eq_equiv}}
use Rattle.lru.specs.LruCache.{LruCache, lru_cache, put_entries}
use Rattle.lru.proofs.CallerLemmas.{lookup-put_entries, Contains-lookup, Contains-put_entries}
use Rattle.kalah_solve.specs.{houses_worth, Encloses, TableState, IsTrueEntry, AreTrueEntries, declared.bounds.interval.Interval.{Interval}}

-- what a look-up finds encloses the worth of the houses
pub found_encloses_worth : (es : List (ℕ × Interval)) (a : HousesState) (k : ℕ) → AreTrueEntries es → AreWithinLimits a
    → k ≡ key_of a → (o : Option Interval) → lookup (nat_eq k) es ≡ o → IfSome o (λ i. Encloses i (houses_worth a))
found_encloses_worth es a k entries limits key None found = tt
found_encloses_worth es a k entries limits key (Some i) found =
    let at = Contains-lookup _ es i found in
    let entry = entries _ at.1 in
    let same = key-injective entry.1 limits (entry.2 ∙ sym (eqb-true _ _ at.2) ∙ key) in
    rw same at entry.3

module _ (c : LruCache ℕ Interval) (a : HousesState) (k : ℕ) (i : Interval) (entries : AreTrueEntries c.entries)
    (limits : AreWithinLimits a) (key : k ≡ key_of a) (holds : Encloses i (houses_worth a)) where
  put_entry : (e : ℕ × Interval) → e.1 ≡ i → e.0 ≡ k → IsTrueEntry e
  put_entry e value key_is = grind arith

  put_keeps_true : AreTrueEntries (put_entries nat_eq c k i)
  put_keeps_true = λ e h. grind (arith, Contains-put_entries nat_eq c k i e h, put_entry, eqb-true)

  -- both outcomes of a put
  pub true_after_put : {X E : Type 0} (r : Result X E) (new : LruCache ℕ Interval)
      → OnOk r (new ≡ lru_cache (put_entries nat_eq c k i) c.cap) → OnErr r (new ≡ c) → AreTrueEntries new.entries
  true_after_put r new ok err = grind (arith, put_keeps_true)

-- a put leaves the room for entries
pub put_leaves : {X E : Type 0} (r : Result X E) (c new : LruCache ℕ Interval) (es : List (ℕ × Interval))
    → OnOk r (new ≡ lru_cache es c.cap) → OnErr r (new ≡ c) → new.cap ≡ c.cap
put_leaves r c new es ok err = grind arith

-- the table whose entries a cache has
abbrev pub table_of : LruCache ℕ Interval → TableState
table_of c = record { entries = c.entries; capacity = c.cap }

-- after a put the entry is there, or all is as before
pub put_or_same : {X E : Type 0} (r : Result X E) (c new : LruCache ℕ Interval) (k : ℕ) (i : Interval)
    → OnOk r (new ≡ lru_cache (put_entries nat_eq c k i) c.cap) → OnErr r (new ≡ c)
    → (lookup (nat_eq k) new.entries ≡ Some i) ⊎ (table_of new ≡ table_of c)
put_or_same r c new k i ok err = let found = lookup-put_entries nat_eq c k i nat_eq_equiv in grind arith

-- if there was one, the put succeeds
pub put_replaces : {X E : Type 0} (r : Result X E) (c new : LruCache ℕ Interval) (k : ℕ) (i : Interval)
    → OnOk r (new ≡ lru_cache (put_entries nat_eq c k i) c.cap) → (IsSome (lookup (nat_eq k) c.entries) → IsOk r)
    → IsSome (lookup (nat_eq k) c.entries) → lookup (nat_eq k) new.entries ≡ Some i
put_replaces r c new k i ok succeeds some = let found = lookup-put_entries nat_eq c k i nat_eq_equiv in grind arith
