-- The views of seats or passes, each at its place: what holds of each view still does after a change of one, and with one more.
use Rattle.std.proofs.Common.{◌≡◌, ◌≢◌, ℕ, zero, suc, ◌<◌, List, [], ◌∷◌, ◌++◌, length, get_or, set, refl, sym, ap, arith, ◌⊎◌, inl, inr}
use mathlib.Core.Option.{some, some-injective, some-ne-none}
use lib.ListN.{get_elem?}
use Rattle.atomic_table.proofs.Lists.{at_set}

module _ {V : Type 0} where
  -- a fact of each view at its place
  abbrev pub Each : (ℕ → V → Type 0) → List V → Type 0
  Each F views = (place : ℕ) (v : V) → get_elem? views place ≡ some v → F place v

  -- a place that has a view is below the number of views
  pub in_views : (views : List V) (place : ℕ) {v : V} → get_elem? views place ≡ some v → place < length views
  in_views [] place {v} has_view = absurd (some-ne-none v (sym has_view))
  in_views (x ∷ xs) zero has_view = omega arith
  in_views (x ∷ xs) (suc place) has_view = omega (arith, in_views xs place has_view)

  -- what stands there is that view
  pub view_at : (views : List V) (place : ℕ) {v : V} (d : V) → get_elem? views place ≡ some v → get_or views place d ≡ v
  view_at [] place {v} d has_view = absurd (some-ne-none v (sym has_view))
  view_at (x ∷ xs) zero {v} d has_view = some-injective x v has_view
  view_at (x ∷ xs) (suc place) d has_view = view_at xs place d has_view

  -- a view of a list with one more stood there before, or is the one more
  before_or_last : (views : List V) (a b : V) (place : ℕ) → get_elem? (views ++ a ∷ []) place ≡ some b
      → (get_elem? views place ≡ some b) ⊎ ((place ≡ length views) × (a ≡ b))
  before_or_last [] a b zero has_b = inr (refl, some-injective a b has_b)
  before_or_last [] a b (suc place) has_b = absurd (some-ne-none b (sym has_b))
  before_or_last (x ∷ xs) a b zero has_b = inl has_b
  before_or_last (x ∷ xs) a b (suc place) has_b =
      elim (before_or_last xs a b place has_b) [ inl before ↦ inl before | inr last ↦ inr (ap suc last.0, last.1) ]

  -- if one view changes, its fact is shown anew and the others' may change with it
  pub each_set : (F : ℕ → V → Type 0) (views : List V) (place : ℕ) (w : V) → F place w
      → ((j : ℕ) (u : V) → j ≢ place → get_elem? views j ≡ some u → F j u) → Each F (set views place w)
  each_set F views place w has_fact others j u has_u =
      elim (at_set views place j w u has_u) [
        | inl here ↦ rw (here.0, ← here.1) has_fact
        | inr elsewhere ↦ others j u elsewhere.0 elsewhere.1
      ]

  -- one view more, at the end
  pub each_more : (F : ℕ → V → Type 0) (views : List V) (w : V) → Each F views → F (length views) w → Each F (views ++ w ∷ [])
  each_more F views w each has_fact j u has_u =
      elim (before_or_last views w u j has_u) [ inl before ↦ each j u before | inr last ↦ rw (last.0, ← last.1) has_fact ]

  -- what another place has after a change of one, it had before
  pub was_there : (views : List V) (place other : ℕ) (w : V) {u : V} → other ≢ place → get_elem? (set views place w) other ≡ some u
      → get_elem? views other ≡ some u
  was_there views place other w {u} apart has_u =
      elim (at_set views place other w u has_u) [ inl here ↦ absurd (apart here.0) | inr elsewhere ↦ elsewhere.1 ]
