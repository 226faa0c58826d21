-- Moves on the numbers of two rows, and the cells of the table of sowings.
use Rattle.kalah_rules.specs.Position as position
use Rattle.std.proofs.Common.{◌≡◌, ℕ, zero, suc, ◌+◌, ◌-◌, ◌*◌, ◌/◌, ◌%◌, ◌^◌, ◌<◌, ◌≤◌, inl, inr, length, arith, ap, sym, ◌∙◌, refl, subst, eq-eqb, List, true, false, sum, ◌==◌, ◌&&◌, Option, Some, MatchBool, slice_set, bit_and, length-set}
use Rattle.std.proofs.{lemmas.{Nat.{mod_below, div-add-mod', and_block, and_mask, and_le_r, pow_pos}, Bool.{cases_Bool, cases_eq, cases_lt, and_parts, eqb-true}, List.{get_or-set_same, get_or-set_other}}, Math.{Nat.{div-eq_of_lt, mod-eq_of_lt, div-div-eq-div-mul}}}
use Rattle.kalah_rules.specs.{HousesState, AreWithinLimits, side_length, seeds, opposite, seeds_in_houses, storeless, houses_in, HoldsSeeds, lifted, lap_length, own_distance, other_distance, store_distance, sow, sown, last_distance, moves_again, captures, can_capture, after_capture, after, Position.{Position}}
use Rattle.kalah_rules.specs.{packed_row, packed_rows, ShowsPosition, ones, AreFieldsOf, own_gains, other_gains, store_gains, last_house, last_place, IsLastHouse, IsNoHouse, IsSowing, IsSowingCell, AreSowings, declared.{houses.{play.RowNumbers.{RowNumbers}, sowing_table.Sowing.{Sowing}}, rule.Rule.{Rule}}}
use Rattle.kalah_rules.proofs.{PlayLemmas.{sum-set_zero, sow_side, sow_keeps, own_distance_past, own_distance_back, last_house_own, last_house_store, last_house_other, after_at}, KeyLemmas.{packed_row-small, pow_five, pow_other, own_house_of_rows, moved_across_fits, placed_small, packed_row-set, packed_row-all, packed_row-up_to, read_seeds, own_sown, other_sown, own_gain, other_gain}}

-- ==== A move on the numbers of two rows

-- what a move keeps: the seeds of the own store and the houses together, the other store, both sides, the rule
pub record KeepsSeeds (p q : Position) : Type 0 where
  pub play : q.own_store + seeds_in_houses q ≡ p.own_store + seeds_in_houses p
  pub other_store : q.other_store ≡ p.other_store
  pub side : length q.own ≡ length p.own
  pub other_side : length q.other ≡ length p.other
  pub rule : q.rule ≡ p.rule

-- both rows, without what is taken from them
record AreLeft (rows taken own other : ℕ) : Type 0 where
  within : taken ≤ rows
  own_is : (rows - taken) % 2 ^ 30 ≡ own
  other_is : (rows - taken) / 2 ^ 30 ≡ other

-- x is taken from the own row, and y from the other
left_of_rows : (rows x y : ℕ) {own other own_new other_new : ℕ} → rows % 2 ^ 30 ≡ own → rows / 2 ^ 30 ≡ other
    → own_new + x ≡ own → other_new + y ≡ other → AreLeft rows (x + 2 ^ 30 * y) own_new other_new
left_of_rows rows x y own_is other_is less other_less = omega arith

-- the seeds across from the last house of a sowing
abbrev pub seeds_across : RowNumbers → Sowing → ℕ
seeds_across r s = r.rows / 2 ^ s.across_bit % 32

-- what is captured of the rows after a sowing: the last seed, if it is alone in its house, and the seeds across, as the rule says. They are
-- taken where they stand in both rows
abbrev pub HasCaptured : Rule → RowNumbers → Sowing → ℕ → ℕ → Type 0
HasCaptured rule r s taken count =
    MatchBool ((bit_and r.rows s.last_mask == s.last_seed) && captures rule (seeds_across r s))
    ((taken ≡ s.last_seed + seeds_across r s * 2 ^ s.across_bit % 2 ^ 64) × (count ≡ 1 + seeds_across r s)) ((taken ≡ 0) × (count ≡ 0))

-- the rows that are left show this position
pub record LeavesRows (r : RowNumbers) (seeds count : ℕ) (p : Position) : Type 0 where
  pub within : seeds ≤ r.rows
  pub shows : ShowsPosition (record { rows = r.rows - seeds; store = r.store + count }) p

house_bits : (rows k : ℕ) → bit_and rows (31 * 32 ^ k) ≡ rows / 32 ^ k % 32 * 32 ^ k
house_bits rows k =
    let p = 2 ^ (5 * k) in
    let low = mod_below rows p (pow_pos (5 * k)) in
    let none : bit_and (rows % p) 0 ≡ 0 = omega (arith, and_le_r (rows % p) 0) in
    let both = and_block (5 * k) (rows / p) 31 (rows % p) 0 low (pow_pos (5 * k)) in
    let mask : 31 * p + 0 ≡ 31 * p = omega arith in
    let all : bit_and rows (31 * p) ≡ rows / p % 32 * p = rw (div-add-mod' rows p, mask, and_mask _ 5) at both ∙ omega arith in
    rw (pow_five k) at all

-- a multiple of a number is this number exactly if it is taken once
times_is_same_at_one : (x p : ℕ) → 0 < p → (x * p == p) ≡ (x == 1)
times_is_same_at_one zero p some = grind arith
times_is_same_at_one (suc zero) p some = grind arith
times_is_same_at_one (suc (suc x)) p some = grind arith

-- the five bits of a house are one exactly if it has one seed
one_seed_at : (rows k : ℕ) → (bit_and rows (31 * 32 ^ k) == 32 ^ k) ≡ (rows / 32 ^ k % 32 == 1)
one_seed_at rows k =
    let bits = house_bits rows k in
    rw bits (times_is_same_at_one _ _ (rw (← pow_five k) (pow_pos (5 * k))))

-- what a sowing of c seeds of house h adds if it ends in the store without a lap
record GainsIntoStore (m h c : ℕ) : Type 0 where
  own : own_gains m h c + ones h ≡ ones m
  other : other_gains m h c ≡ 0
  store : store_gains m h c ≡ 1

-- such a sowing gives each later own house and the store one seed, and the opponent none
gains_into_store : (m h c : ℕ) → 1 ≤ h → h ≤ m → c + h ≡ m + 1 → GainsIntoStore m h c
gains_into_store m h c low high ends = grind (arith, div-eq_of_lt, mod-eq_of_lt, packed_row-all, packed_row-up_to, own_gain, other_gain)

-- a house of houses within their limits that holds seeds
pub record CanSow (a : HousesState) (h : ℕ) : Type 0 where
  pub limits : AreWithinLimits a
  pub holds : HoldsSeeds (storeless a) h

module _ {a : HousesState} {h : ℕ} (can : CanSow a h) where
  -- the position after the sowing
  abbrev after_sowing : Position
  after_sowing = sown (storeless a) h

  sown_keeps : KeepsSeeds (storeless a) after_sowing
  unfolding sow
  sown_keeps =
      let side = sow_side (storeless a) h (seeds a.own h) in
      let keeps = sow_keeps (storeless a) h can.holds.first can.holds.last can.limits.same_side (seeds a.own h) in
      record {
        play = omega arith;
        other_store = refl;
        side = side.0;
        other_side = side.1 ∙ sym can.limits.same_side;
        rule = refl;
      }

  -- the own row after the sowing
  packed_row-sown_own : packed_row after_sowing.own + 32 ^ (h - 1) * seeds a.own h
      ≡ packed_row a.own + own_gains (length a.own) h (seeds a.own h)
  unfolding sow
  packed_row-sown_own = own_sown _ _ _ can.holds.first can.holds.last

  -- the other row
  pub packed_row-sown_other : packed_row after_sowing.other ≡ packed_row a.other + other_gains (length a.own) h (seeds a.own h)
  unfolding sow
  packed_row-sown_other = rw can.limits.same_side at (other_sown a.other h (seeds a.own h))

  sown_own_store : after_sowing.own_store ≡ store_gains (length a.own) h (seeds a.own h)
  unfolding sow
  sown_own_store = omega arith

  -- the row without the house's seeds
  pub packed_row-lifted : packed_row (lifted (storeless a) h).own + 32 ^ (h - 1) * seeds a.own h ≡ packed_row a.own
  packed_row-lifted = omega (arith, packed_row-set)

  few : sum after_sowing.own + sum after_sowing.other ≤ 31
  few = omega (arith, sown_keeps.play)

  own_small : packed_row after_sowing.own < 2 ^ 30
  own_small = grind (arith, packed_row-small, sown_keeps)

  other_small : packed_row after_sowing.other < 2 ^ 30
  other_small = grind (arith, packed_row-small, sown_keeps)

  -- both rows without the house's seeds, and with what they gain
  sown_rows : (rows house gains : ℕ) → rows ≡ packed_rows a → house ≡ 32 ^ (h - 1) * seeds a.own h
      → gains ≡ own_gains (length a.own) h (seeds a.own h) + 2 ^ 30 * other_gains (length a.own) h (seeds a.own h)
      → rows - house + gains ≡ packed_rows (houses_in after_sowing)
  sown_rows rows house gains rows_are house_is gains_are = omega (arith, packed_row-sown_own, packed_row-sown_other, packed_row-lifted)

  -- after a sowing the rows are both rows, less what they lose
  sown_less : (rows loses : ℕ) → rows ≡ packed_rows a → loses < 2 ^ 64
      → (loses + (own_gains (length a.own) h (seeds a.own h) + 2 ^ 30 * other_gains (length a.own) h (seeds a.own h))) % 2 ^ 64
      ≡ 32 ^ (h - 1) * seeds a.own h → (rows + (2 ^ 64 - loses)) % 2 ^ 64 ≡ packed_rows (houses_in after_sowing)
  sown_less rows loses rows_are loses_small loses_is = omega (arith, packed_row-sown_own, packed_row-sown_other, own_small, other_small)

  -- rows and a store with what a sowing adds show the position after it
  rows_show : (rows store : ℕ) → rows ≡ packed_rows (houses_in after_sowing) →
      store ≡ store_gains (length a.own) h (seeds a.own h) → ShowsPosition (record { rows = rows; store = store }) after_sowing
  rows_show rows store rows_are store_is' = omega (arith, own_small, sown_own_store)

  -- a house whose last seed falls into the store without a lap
  pub into_store : (rows house own_more : ℕ) → seeds a.own h + h ≡ length a.own + 1 → rows ≡ packed_rows a →
      house ≡ 32 ^ (h - 1) * seeds a.own h → own_more + ones h ≡ ones (length a.own)
      → ShowsPosition (record { rows = rows - house + own_more; store = 1 }) after_sowing
  into_store rows house own_more ends rows_are house_is own_more_is =
      let gains = gains_into_store _ _ _ can.holds.first can.holds.last ends in
      rows_show _ 1 (sown_rows _ house _ rows_are house_is (omega arith)) (omega arith)

  -- a house read off the numbers
  read_own : (r : RowNumbers) (i bit : ℕ) → ShowsPosition r after_sowing → 1 ≤ i → i ≤ length a.own → bit ≡ 5 * (i - 1)
      → r.rows / 2 ^ bit % 32 ≡ seeds after_sowing.own i
  read_own r i bit shows low high bit_is = grind (arith, pow_five, own_house_of_rows, read_seeds, sown_keeps)

  -- the house across
  read_across : (r : RowNumbers) (i bit : ℕ) → ShowsPosition r after_sowing → 1 ≤ i → i ≤ length a.own
      → bit ≡ 30 + 5 * (opposite after_sowing i - 1) → r.rows / 2 ^ bit % 32 ≡ seeds after_sowing.other (opposite after_sowing i)
  read_across r i bit shows low high bit_is =
      let side = sown_keeps.side in
      let other_side = sown_keeps.other_side in
      rw (bit_is, pow_other) (ap (λ n. n % 32) (sym (div-div-eq-div-mul _ (2 ^ 30) _))
      ∙ ap (λ n. n / 32 ^ (opposite after_sowing i - 1) % 32) shows.other ∙ read_seeds _ _ (omega arith) (omega (arith, few)))

  -- what a capture does to the rows, read and written by bits: the last seed falls into own house i
  module _ (r : RowNumbers) (s : Sowing) (i taken count : ℕ) (shows : ShowsPosition r after_sowing) (first : 1 ≤ i)
      (last : i ≤ length a.own) (house : IsLastHouse (length a.own) i s.last_mask s.last_seed s.across_bit)
      (by_rule : HasCaptured a.rule r s taken count) where
    -- the house across
    abbrev across : ℕ
    across = opposite after_sowing i

    -- its seeds
    abbrev there : ℕ
    there = seeds after_sowing.other across

    across_at : s.across_bit ≡ 30 + 5 * (across - 1)
    across_at = omega (arith, house.across, sown_keeps.side)

    -- the seeds are taken if and only if the rule lets the last seed capture
    taken_by_rule : MatchBool (can_capture after_sowing i) ((taken ≡ s.last_seed + there * 2 ^ s.across_bit % 2 ^ 64) ×
        (count ≡ 1 + there)) ((taken ≡ 0) × (count ≡ 0))
    taken_by_rule =
        let single : (bit_and r.rows s.last_mask == s.last_seed) ≡ (seeds after_sowing.own i == 1) =
        rw (house.house, house.seed, ← read_own r i (5 * (i - 1)) shows first last refl, pow_five (i - 1)) (one_seed_at r.rows (i - 1)) in
        rw sown_keeps.rule (rw (single, read_across r i s.across_bit shows first last across_at) at by_rule)

    -- without a capture the rows stay
    rows_if_kept : can_capture after_sowing i ≡ false → LeavesRows r taken count (after_capture after_sowing (Some i))
    rows_if_kept kept = grind (arith, taken_by_rule)

    -- by a capture both houses are emptied
    rows_if_captured : can_capture after_sowing i ≡ true → LeavesRows r taken count (after_capture after_sowing (Some i))
    rows_if_captured alone =
        let both = rw alone at taken_by_rule in
        let one : seeds after_sowing.own i ≡ 1 = eqb-true (seeds after_sowing.own i) 1 (and_parts _ _ alone).0 in
        let one_at : 32 ^ (i - 1) * seeds after_sowing.own i ≡ 32 ^ (i - 1) * 1 = ap (λ n. 32 ^ (i - 1) * n) one in
        let own_set = packed_row-set after_sowing.own (i - 1) 0 (omega (arith, sown_keeps.side)) in
        let other_set = packed_row-set after_sowing.other (across - 1) 0
        (omega (arith, sown_keeps.side, sown_keeps.other_side, can.limits.same_side)) in
        let far : across - 1 ≤ 5 = omega (arith, sown_keeps.side, can.limits.at_most_six) in
        let stands : there * 2 ^ s.across_bit % 2 ^ 64 ≡ 2 ^ 30 * (32 ^ (across - 1) * there) = rw (across_at, pow_other (across - 1))
        (moved_across_fits _ _ far (omega (arith, read_across r i s.across_bit shows first last across_at))) in
        let taken_are : taken ≡ 32 ^ (i - 1) + 2 ^ 30 * (32 ^ (across - 1) * there) = both.0 ∙ omega (arith, stands, house.seed) in
        let left : AreLeft r.rows (32 ^ (i - 1) + 2 ^ 30 * (32 ^ (across - 1) * there))
        (packed_row (slice_set after_sowing.own (i - 1) 0)) (packed_row (slice_set after_sowing.other (across - 1) 0)) =
        left_of_rows r.rows _ _ shows.own shows.other (omega arith) (omega arith) in
        record {
          within = rw taken_are left.within;
          shows = rw (taken_are, alone) (record { own = left.own_is; other = left.other_is; store = omega (arith, both.1) });
        }

    capture_shows : LeavesRows r taken count (after_capture after_sowing (Some i))
    capture_shows = elim (cases_Bool (can_capture after_sowing i)) [ inl alone ↦ rows_if_captured alone | inr kept ↦ rows_if_kept kept ]

-- ---- the whole move
-- a capture keeps what a sowing keeps
captured_keeps : {p q : Position} (o : Option ℕ) → KeepsSeeds p q → KeepsSeeds p (after_capture q o)
captured_keeps o k = grind (arith, cases_Bool, sum-set_zero, length-set)

-- a move keeps what `KeepsSeeds` lists
pub after_keeps : {a : HousesState} {h : ℕ} → AreWithinLimits a → HoldsSeeds (storeless a) h
    → KeepsSeeds (storeless a) (after (storeless a) h)
unfolding after
after_keeps {a} {h} limits holds = captured_keeps _ (sown_keeps (record { limits = limits; holds = holds }))

-- where the last seed falls, by its place
module _ (p : Position) (h : ℕ) (holds : HoldsSeeds p h) where
  -- its place
  abbrev place : ℕ
  place = last_place (side_length p) h (seeds p.own h)

  last_low : 1 ≤ last_distance p h
  last_low = omega arith

  last_high : last_distance p h ≤ lap_length (side_length p)
  last_high = omega arith

  -- of fewer seeds than a lap has cells the last goes as far as their number
  pub short_distance : seeds p.own h ≤ lap_length (side_length p) → last_distance p h ≡ seeds p.own h
  short_distance few = omega (arith, mod-eq_of_lt)

  -- the place of a last seed that doesn't come round
  place_near : h + last_distance p h ≤ lap_length (side_length p) → place ≡ h + last_distance p h
  place_near near = grind arith

  -- the place of a last seed that comes round
  place_round : lap_length (side_length p) < h + last_distance p h → place ≡ h + last_distance p h - lap_length (side_length p)
  place_round round = grind arith

  -- an own house where it falls is as far as it goes
  own_at : place ≤ side_length p → own_distance (side_length p) h (place) ≡ last_distance p h
  own_at own = grind (arith, cases_lt, place_round, own_distance_back, last_high, place_near, own_distance_past, last_low)

  -- what shows the position after the capture shows that after the move
  shows_after : {r : RowNumbers} {o : Option ℕ} → last_house p h ≡ o → ShowsPosition r (after_capture (sown p h) o)
      → ShowsPosition r (after p h)
  shows_after last_is shows = subst (ShowsPosition _) (after_at p h last_is) shows

  -- it falls into an own house, and may capture
  after_own : (r : RowNumbers) → place ≤ side_length p
      → ShowsPosition r (after_capture (sown p h) (Some (place))) → ShowsPosition r (after p h)
  after_own r own shows = shows_after (last_house_own holds (omega arith) own (own_at own)) shows

  -- the place of any other cell is its distance past the house
  place_past : side_length p < place → (place ≡ h + last_distance p h) × (h + last_distance p h ≤ lap_length (side_length p))
  place_past past = grind (arith, place_round)

  -- it falls into the store or beyond
  pub after_past : (r : RowNumbers) → side_length p < place → ShowsPosition r (sown p h) → ShowsPosition r (after p h)
  after_past r past shows =
      let at = place_past past in
      elim (cases_eq (h + last_distance p h) (side_length p + 1)) [
        | inl store ↦
            let far : store_distance _ h ≡ last_distance p h = omega arith in
            shows_after (last_house_store holds far) shows
        | inr other ↦
            let j = h + last_distance p h - (side_length p + 1) in
            let low : 1 ≤ j = omega arith in
            let high : j ≤ side_length p = omega arith in
            let far : other_distance _ h j ≡ last_distance p h = omega arith in
            shows_after (last_house_other _ holds low high far) shows
      ]

  pub again_at : moves_again p h ≡ (place == side_length p + 1)
  again_at = grind (arith, cases_eq, place_past, eq-eqb, place_near)

-- a last seed that falls into no own house captures nothing
none_captured : (rule : Rule) (r : RowNumbers) (s : Sowing) {taken count : ℕ} {p : Position}
    → IsNoHouse s.last_mask s.last_seed s.across_bit →
    HasCaptured rule r s taken count → ShowsPosition r p → LeavesRows r taken count p
none_captured rule r s elsewhere has_captured shows = grind (arith, and_le_r)

-- the bit across lies within a key
pub across_within : {m : ℕ} (h c : ℕ) (s : Sowing) → IsSowing m h c s → m ≤ 6 → s.across_bit < 64
across_within {m} h c s sowing few = grind arith

-- rows after a sowing, and what came to the store
abbrev pub rows_sown : ℕ → Sowing → RowNumbers
rows_sown rows s = record { rows = (rows + (2 ^ 64 - s.loses)) % 2 ^ 64; store = s.store }

-- the rows after the move are those of the sowing, less what is captured
pub move_leaves : {a : HousesState} {h rows seeds variant : ℕ} {s : Sowing} {rule : Rule} {taken count : ℕ}
    → AreFieldsOf a rows seeds variant → HoldsSeeds (storeless a) h → IsSowing (length a.own) h (position.seeds a.own h) s
    → s.loses < 2 ^ 64 → rule ≡ a.rule → HasCaptured rule (rows_sown rows s) s taken count
    → LeavesRows (rows_sown rows s) taken count (after (storeless a) h)
move_leaves {a} {h} {rows} {s = s} fields holds sowing fits same has_captured =
    let r = rows_sown rows s in
    let can : CanSow a h = record { limits = fields.limits; holds = holds } in
    let shows = rows_show can _ _ (sown_less can _ _ (sym fields.rows_are) fits sowing.loses) sowing.store in
    let by_rule = rw same at has_captured in
    elim (cases_lt _ (last_place _ h _)) [
      | inl past ↦ none_captured a.rule r s (sowing.elsewhere past) by_rule (after_past _ h holds r past shows)
      | inr own ↦
          let leaves = capture_shows can r s _ _ _ shows (omega arith) own (sowing.own own) by_rule in
          record { within = leaves.within; shows = after_own _ h holds _ own leaves.shows }
    ]

-- the last seed and the seeds across fit into 64 bits
pub captured_fits : {m : ℕ} (h c x : ℕ) (s : Sowing) → IsSowing m h c s → m ≤ 6 → x < 32
    → s.last_seed + x * 2 ^ s.across_bit % 2 ^ 64 < 2 ^ 64
captured_fits {m} h c x s sowing side small = elim (cases_lt m (last_place m h c)) [
  | inl past ↦
      let no = sowing.elsewhere past in
      let there : x * 2 ^ s.across_bit % 2 ^ 64 ≡ x = rw no.across (omega arith) in
      omega (arith, no.seed)
  | inr own ↦
      let i = last_place m h c in
      let at = sowing.own own in
      let seed : s.last_seed < 2 ^ 30 = omega (arith, at.seed, placed_small (i - 1) 1 (omega arith) (omega arith)) in
      let there : x * 2 ^ s.across_bit % 2 ^ 64 ≡ 2 ^ 30 * (32 ^ (m - i) * x) =
      rw (at.across, pow_other (m - i)) (moved_across_fits _ _ (omega arith) small) in
      omega (arith, placed_small (m - i) x (omega arith) small)
]

-- ==== The cells of the table of sowings

-- one cell more
pub sowings_more : (cells : List Sowing) (i : ℕ) (s : Sowing) → i < length cells → AreSowings i cells
    → ((m h c : ℕ) → IsSowingCell m h c i → IsSowing m h c s) → AreSowings (i + 1) (slice_set cells i s)
sowings_more cells i s inside before sown m h c k d cell below = elim (cases_eq k i) [
  | inl same ↦ rw (same, get_or-set_same) (sown m h c (rw same at cell))
  | inr other ↦ rw (get_or-set_other cells i k s d other) (before m h c k d cell (omega arith))
]
