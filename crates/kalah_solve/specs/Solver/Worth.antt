-- The margin of best play, and the house that attains it.
use Rattle.std.specs.{Prelude.{ℕ, zero, suc, if◌then◌else◌, List, [], ◌∷◌, map, fold, find, unwrap_or, ℤ, pos, neg_ℤ}, Int.{int_max}, Ordering.{int_eq}}
use Rattle.kalah_rules.specs.{Position.{Position, HousesState, storeless, is_over, final_margin, swapped}, Sowing.{after, moves_again}, Play.{legal_houses}, Measure.{moves_left}}

-- the margin that the mover gets by house h, where `worth_of` is the margin of best play of what follows
abbrev pub value_by : (Position → ℤ) → Position → ℕ → ℤ
value_by worth_of p h =
    let q = after p h in
    if is_over q then final_margin q else (if moves_again p h then worth_of q else neg_ℤ (worth_of (swapped q)))

-- the greatest of some numbers
abbrev pub greatest : List ℤ → ℤ
greatest [] = pos 0
greatest (x ∷ xs) = fold int_max x xs

-- the margin of best play, if at most n moves are left
unfoldable pub worth_within : ℕ → Position → ℤ
worth_within zero p = final_margin p
worth_within (suc n) p = if is_over p then final_margin p else greatest (map (value_by (worth_within n) p) (legal_houses p))

-- the margin of best play
unfoldable pub worth : Position → ℤ
worth p = worth_within (moves_left p) p

-- the margin of best play after the move of house h
abbrev pub value_of_move : Position → ℕ → ℤ
value_of_move p h = value_by worth p h

-- the lowest-numbered house that attains the margin of best play
abbrev pub best_house : Position → ℕ
best_house p = unwrap_or (find (λ h. int_eq (value_of_move p h) (worth p)) (legal_houses p)) 0

-- the margin of best play of houses without their stores
abbrev pub houses_worth : HousesState → ℤ
houses_worth a = worth (storeless a)
