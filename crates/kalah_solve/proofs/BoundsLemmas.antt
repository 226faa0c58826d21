-- How many seeds are won, and the margins and windows that they make.
use Rattle.std.proofs.{Common.{◌≡◌, ◌↔◌, ℕ, ◌+◌, ◌≤◌, arith, zero, suc, ◌-◌, ◌<◌, inl, inr, ◌∙◌, ap, max, min, ℤ, pos, ◌+ℤ◌, ◌≤ℤ◌, false, sum, ◌<ℤ◌}, lemmas.{Int.{ints, clamps}, Bool.{cases_Bool}}}
use Rattle.std.specs.Int.{int_max, int_min}
use Rattle.kalah_rules.specs.{Limits.{most_seeds}, Position.{HousesState, AreWithinLimits, total_seeds, is_over, storeless}, Measure.{moves_left}, HousesStep.{houses_step}, declared.step.HousesStep.{HousesStep, TheVariants.{Over, Again, Turn}}}
use Rattle.kalah_solve.specs.{IsHalf, clamped, margin_of, least_margin, most_margin, Encloses, houses_worth, value_of_move, won, won_by_step, declared.bounds.{window.Window.{Window}, interval.Interval.{Interval}, seed_bounds.SeedBounds.{SeedBounds}}}
use Rattle.kalah_rules.proofs.PlayLemmas.{IsLegal, legal_going}
use Rattle.kalah_solve.proofs.WorthLemmas.{worth_of_step, LeadsOnAt, LeadsOn, worth_of_over, value_is, leads_on, worth_is_most_of_moves}

-- ==== Bounds of seeds and the margins that they make

module _ (window : Window) (n low high : ℕ) (is_low : IsHalf (window.lo +ℤ pos n) low)
    (is_high : IsHalf (window.hi +ℤ pos 1 +ℤ pos n) high) where
  pub bounds_ordered : low ≤ high
  bounds_ordered = omega (arith, ints, clamps)

  pub bounds_high : n ≤ most_seeds → high ≤ most_seeds
  bounds_high few = omega (arith, ints, clamps)

  -- a number that is raised and lowered to them makes the same margin in the window
  pub bounds_apart : (t : ℕ) → t ≤ n
      → clamped window.lo window.hi (margin_of (max low (min high t)) n) ≡ clamped window.lo window.hi (margin_of t n)
  bounds_apart t few = omega (arith, ints, clamps)

-- the bounds of an interval's ends
module _ (interval : Interval) (n least most : ℕ) (few : n ≤ most_seeds) (is_least : IsHalf (interval.lo +ℤ pos 1 +ℤ pos n) least)
    (is_most : IsHalf (interval.hi +ℤ pos n) most) where
  -- hold each number whose margin is in it
  pub bounds_held : (t : ℕ) → t ≤ n → Encloses interval (margin_of t n) → (least ≤ t) × (t ≤ min most most_seeds)
  bounds_held t all holds = omega (arith, ints, clamps)

  -- and no other: a number that they hold has its margin in it, if the interval doesn't end below -n
  pub bounds_exact : pos 0 ≤ℤ (interval.hi +ℤ pos n) → (t : ℕ) → t ≤ n → least ≤ t → t ≤ min most most_seeds
      → Encloses interval (margin_of t n)
  bounds_exact some t all low high = omega (arith, ints, clamps)

-- ==== How many seeds a player wins: by houses, by a step, and by the best move

-- a margin is that of a player who wins t of n seeds
pub record IsWonOf (n : ℕ) (z : ℤ) (t : ℕ) : Type 0 where
  pub few : t ≤ n
  pub margin : z +ℤ pos n ≡ pos (t + t)

-- some number is won by a step, if some is of the houses that it leads to
some_won_by_step : (a : HousesState) (s : HousesStep) → LeadsOn a s
    → ((b : HousesState) (gained : ℕ) → LeadsOnAt a gained b → (t : ℕ) × IsWonOf (total_seeds b) (houses_worth b)
    t) → (t : ℕ) × IsWonOf (total_seeds a) (worth_of_step s) t
some_won_by_step a (Over own other) leads each = (own, omega (arith, ints))
some_won_by_step a (Again gained b) leads each =
    let on = each b _ leads in
    (gained + on.0, omega (arith, ints))
some_won_by_step a (Turn gained b) leads each =
    let on = each b _ leads in
    (gained + total_seeds b - on.0, omega (arith, ints))

-- what houses are worth is the margin of some number of their seeds, by the moves left
some_won : (n : ℕ) (a : HousesState) → AreWithinLimits a → moves_left (storeless a) < n
    → (t : ℕ) × IsWonOf (total_seeds a) (houses_worth a) t
some_won zero a limits few = absurd (omega arith)
some_won (suc n) a limits few = elim (cases_Bool _) [
  | inl over ↦ (sum a.own, rw (worth_of_over _ over) (omega (arith, ints)))
  | inr going ↦
      let at = (worth_is_most_of_moves (storeless a) (omega arith) going).reached in
      rw (← at.2, value_is a at.0 limits at.1) (some_won_by_step a _ (leads_on a at.0 limits at.1)
      (λ b _ on. some_won n b on.limits (omega arith)))
]

-- the worth of houses is the margin of a mover who wins `won` seeds
pub won_of_houses : {a : HousesState} → AreWithinLimits a → IsWonOf (total_seeds a) (houses_worth a) (won a)
unfolding won
won_of_houses {a} limits =
    let bounds = some_won (suc (moves_left (storeless a))) a limits (omega arith) in
    let named : won a ≡ bounds.0 = rw bounds.1.margin (omega arith) in
    rw named bounds.1

-- houses are worth what the mover wins less the others
pub worth_of_won : {a : HousesState} → AreWithinLimits a → houses_worth a ≡ margin_of (won a) (total_seeds a)
worth_of_won {a} limits = omega (arith, ints, won_of_houses limits)

pub worth_low : {a : HousesState} → AreWithinLimits a → least_margin ≤ℤ houses_worth a
worth_low {a} limits = omega (arith, ints, won_of_houses limits)

pub worth_high : {a : HousesState} → AreWithinLimits a → houses_worth a ≤ℤ most_margin
worth_high {a} limits = omega (arith, ints, won_of_houses limits)

-- the mover wins half of what the houses are worth and hold together
pub half_is_won : {a : HousesState} {worth : ℤ} {half : ℕ} → AreWithinLimits a → worth ≡ houses_worth a
    → IsHalf (worth +ℤ pos (total_seeds a)) half → half ≡ won a
half_is_won {a} {worth} {half} limits worth_is half_is = grind (arith, won_of_houses)

won_of_step : (a : HousesState) (s : HousesStep) → LeadsOn a s
    → IsWonOf (total_seeds a) (worth_of_step s) (won_by_step s)
won_of_step a (Over own other) leads = omega (arith, ints)
won_of_step a (Again gained b) leads = omega (arith, ints, won_of_houses leads.limits)
won_of_step a (Turn gained b) leads = omega (arith, ints, won_of_houses leads.limits)

module _ {a : HousesState} (limits : AreWithinLimits a) where
  -- what is won by the move of house h
  pub won_of_move : (h : ℕ) → IsLegal a h
      → IsWonOf (total_seeds a) (value_of_move (storeless a) h) (won_by_step (houses_step a h))
  won_of_move h legal = rw (value_is a h limits legal) (won_of_step a _ (leads_on a h limits legal))

  pub won_at_most : (h : ℕ) → IsLegal a h → won_by_step (houses_step a h) ≤ won a
  won_at_most h legal =
      let most = (worth_is_most_of_moves (storeless a) (omega arith) (legal_going (storeless a) h legal)).most h legal in
      omega (arith, ints, won_of_move h legal, won_of_houses limits)

  -- some move wins what best play wins
  pub won_reached : is_over (storeless a) ≡ false → (h : ℕ) × IsLegal a h × (won_by_step (houses_step a h) ≡ won a)
  won_reached going =
      let at = (worth_is_most_of_moves (storeless a) (omega arith) going).reached in
      (at.0, at.1, omega (arith, ints, at.2, won_of_move at.0 at.1, won_of_houses limits))

-- ==== The answer of the search in a window

-- a margin that is clamped to a window is in it
pub clamped_within : (lo hi z : ℤ) → lo <ℤ hi → (lo ≤ℤ clamped lo hi z) × (clamped lo hi z ≤ℤ hi)
clamped_within lo hi z ordered = omega (arith, ints, clamps)

-- from the greater first number of two intervals to the lower last one stands what is in both
pub in_both : (i j : Interval) {lo hi : ℤ} → lo ≡ int_max i.lo j.lo → hi ≡ int_min i.hi j.hi → (z : ℤ)
    → Encloses (record { lo = lo; hi = hi }) z ↔ (Encloses i z × Encloses j z)
in_both i j lo_is hi_is z = (λ within. omega (arith, ints, clamps), λ both. omega (arith, ints, clamps))

-- an interval that leaves some of it open leaves the answers
pub narrowed_answers : (lo hi z : ℤ) (k : Interval) {new_lo new_hi : ℤ} → Encloses k z → new_lo ≡ int_max lo k.lo
    → new_hi ≡ int_min hi k.hi → new_lo <ℤ new_hi → clamped new_lo new_hi z ≡ clamped lo hi z
narrowed_answers lo hi z k holds lo_is hi_is ordered = omega (arith, ints, clamps)

-- an interval that leaves nothing of it open answers
pub known_answers : (lo hi z : ℤ) (k : Interval) → lo <ℤ hi → Encloses k z → int_min hi k.hi ≤ℤ int_max lo k.lo
    → clamped lo hi k.lo ≡ clamped lo hi z
known_answers lo hi z k ordered holds none = omega (arith, ints, clamps)

-- what the mover wins, raised and lowered to the bounds that a window distinguishes, makes the worth in the window
pub worth_by_bounds : {a : HousesState} (lo hi : ℤ) (asked : SeedBounds) {m : ℤ} {n t : ℕ} → AreWithinLimits a
    → n ≡ total_seeds a → asked.least ≤ asked.most
    → ((u : ℕ) → u ≤ n → clamped lo hi (margin_of (max asked.least (min asked.most u)) n) ≡ clamped lo hi (margin_of u n))
    → t ≡ max asked.least (min asked.most (won a)) → m ≡ margin_of t n → clamped lo hi m ≡ clamped lo hi (houses_worth a)
worth_by_bounds {a} lo hi asked {n = n} limits all ordered apart t_is m_is =
    let worth_is : margin_of (won a) n ≡ houses_worth a = omega (arith, ints, worth_of_won limits) in
    rw (m_is, t_is) (apart _ (omega (arith, (won_of_houses limits).few)) ∙ ap (clamped lo hi) worth_is)

-- the margin of what the mover wins is the worth of the houses
pub margin_of_won_is_worth : {a : HousesState} {m : ℤ} {n t : ℕ} → AreWithinLimits a → n ≡ total_seeds a
    → t ≡ won a → m ≡ margin_of t n → m ≡ houses_worth a
margin_of_won_is_worth {a} limits all t_is m_is = omega (arith, ints, worth_of_won limits)
