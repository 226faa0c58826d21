-- What a search is asked, where its steps lead, and what is known of some moves while the others are still to be tried.
use Rattle.std.specs.Prelude.{◌≡◌, ℕ, ◌+◌, ◌-◌, ◌<◌, ◌≤◌, false, List, Contains, slice_index, slice_index_or}
use Rattle.kalah_rules.specs.{Limits.{most_seeds}, Position.{HousesState, AreWithinLimits, storeless, total_seeds, is_over}, Sowing.{EndsDirectlyInStore}, Play.{legal_houses}, HousesStep.{houses_step}, Key.{variant_of}, declared.step.HousesStep.{HousesStep, TheVariants.{Over, Again, Turn}}}
use Rattle.kalah_solve.specs.Bounds.Won.{won, won_by_step}

-- a fail-soft bound of a number: from `beta` on the number is no less than the bound, and below `beta` no more
pub record IsSoftBound (beta number bound : ℕ) : Type 0 where
  pub lower : beta ≤ bound → bound ≤ number
  pub upper : bound < beta → number ≤ bound

-- the move of house h wins at most `most` seeds
abbrev pub WinsAtMost : HousesState → ℕ → ℕ → Type 0
WinsAtMost a most h = won_by_step (houses_step a h) ≤ most

-- house h may be moved, and its move is a turn after which the opponent has b
pub record IsTurnOf (a : HousesState) (h : ℕ) (b : HousesState) : Type 0 where
  pub legal : Contains (legal_houses (storeless a)) h
  pub step : houses_step a h ≡ Turn (total_seeds a - total_seeds b) b

-- what waits are turns, those of house 1 at place 0
abbrev pub AreTurns : HousesState → List ℕ → List HousesState → Type 0
AreTurns a priorities turns = (k : ℕ) → 0 < slice_index priorities k → (d : HousesState) → IsTurnOf a (k + 1) (slice_index_or turns k d)

-- If `most` is enough, best play wins at least `most`. What waits are turns. If `most` isn't enough, no move wins more except those that
-- wait or that end in the store without a lap.
pub record AreWaiting (a : HousesState) (beta most : ℕ) (priorities : List ℕ) (turns : List HousesState) : Type 0 where
  pub lower : beta ≤ most → most ≤ won a
  pub waiting : AreTurns a priorities turns
  pub others : most < beta → (h : ℕ) → Contains (legal_houses (storeless a)) h → slice_index priorities (h - 1) ≡ 0
      → ¬ EndsDirectlyInStore a h →
      WinsAtMost a most h

-- ---- where a step leads

-- the game goes on in these houses, which are of this variant
pub record IsOngoing (variant : ℕ) (a : HousesState) : Type 0 where
  pub going : is_over (storeless a) ≡ false
  pub variant_is : variant_of a ≡ variant

-- a step that brought `gained` seeds to the store leads on to these houses
pub record GoesOnAt (variant gained : ℕ) (b : HousesState) : Type 0 where
  pub ongoing : IsOngoing variant b
  pub few : gained + total_seeds b ≤ most_seeds
  pub limits : AreWithinLimits b

-- the houses to which a step leads are of this variant, and the game goes on there; at its end no player has too many seeds
abbrev pub IsStepInVariant : ℕ → HousesStep → Type 0
IsStepInVariant variant (Over own other) = own + other ≤ most_seeds
IsStepInVariant variant (Again gained b) = GoesOnAt variant gained b
IsStepInVariant variant (Turn gained b) = GoesOnAt variant gained b
