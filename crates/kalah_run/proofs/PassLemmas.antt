-- Lists of passes: those that a desk and a queue hand out, one by one.
use Rattle.std.proofs.{Common.{◌≡◌, ℕ, zero, get_or, inl, inr, suc, ◌+◌, List, [], ◌∷◌, ◌++◌, length, sym, ap, ◌∙◌, arith, length-append, ◌<◌, All}, lemmas.{Bool.{cases_lt}, List.{get_or_push, get_or_append_left, length-map}}}
use Rattle.kalah_run.specs.{drawn_numbers, PassState, DeskState, new_pass, AreNewPasses, drawn_rows, PutPassState, ArePassesFrom}
use Rattle.atomic_table.specs.Seated.{TableId}

-- if the elements are those that are given, in order, so are they with the next one at the end
pub next_goes_last : {X : Type 0} (xs : List X) (x d : X) (given : ℕ → X) → ((k : ℕ) → k < length xs → given k ≡ get_or xs k d)
    → given (length xs) ≡ x → (k : ℕ) → k < length (xs ++ x ∷ []) → given k ≡ get_or (xs ++ x ∷ []) k d
next_goes_last xs x d given same next k low = elim (cases_lt k (length xs)) [
  | inl old ↦ same k old ∙ sym (get_or_append_left xs (x ∷ []) d k old)
  | inr new ↦
      let k_is : k ≡ length xs = omega (arith, length-append xs (x ∷ [])) in
      ap given k_is ∙ next ∙ sym (get_or_push xs x d k (sym k_is))
]

-- ==== Of a desk

-- one new pass more
pub draw_pass_more : (desk : DeskState) (count : ℕ) (passes : List PassState) (p : PassState) → AreNewPasses desk count passes
    → p ≡ new_pass desk count → AreNewPasses desk (count + 1) (passes ++ p ∷ [])
draw_pass_more desk count passes p handed_out p_is =
    let many : length (passes ++ p ∷ []) ≡ count + 1 = omega (arith, length-append passes (p ∷ []), handed_out.0) in (
      many,
      λ k d within. sym (next_goes_last passes p d (new_pass desk) (λ j low. sym (handed_out.1 j d (omega (arith, handed_out.0))))
          (ap (new_pass desk) handed_out.0 ∙ sym p_is) k (omega arith)),
    )

-- new passes but the last, and the last
pub last_new_pass : (desk : DeskState) (count : ℕ) (passes : List PassState) {all : List PassState} (p : PassState) → all ≡ passes ++ p ∷ []
    → AreNewPasses desk (count + 1) all → AreNewPasses desk count passes × (p ≡ new_pass desk count)
last_new_pass desk count passes p all_is new =
    let many : length passes ≡ count = omega (arith, new.0, ap length all_is, length-append passes (p ∷ [])) in
    let both = rw all_is at new.1 in (
      (many, λ k d low. sym (get_or_append_left passes (p ∷ []) d k (omega arith)) ∙ both k d (omega arith)),
      sym (get_or_push passes p p count many) ∙ both count p (omega arith),
    )

-- there are as many rows of numbers as passes
pub length-drawn_numbers : (passes : List PassState) → length (drawn_numbers (drawn_rows passes)) ≡ length passes
length-drawn_numbers passes = length-map (drawn_rows passes) (λ r. r.numbers)
    ∙ length-map passes (λ p. p.row)

-- ==== Of a queue

-- one pass more, of the next worker
pub put_pass_more : (id : TableId) (n : ℕ) (ps : List PutPassState) (p : PutPassState) → ArePassesFrom id n ps → p.queue ≡ id
    → p.number ≡ n + length ps → ArePassesFrom id n (ps ++ p ∷ [])
put_pass_more id n [] p from same_queue number_is = (same_queue, omega arith, tt)
put_pass_more id n (x ∷ xs) p from same_queue number_is = (from.0, from.1, put_pass_more id (suc n) xs p from.2 same_queue (omega arith))

-- the passes to put to one queue are all of that queue
pub all_are_of : (id : TableId) (n : ℕ) (ps : List PutPassState) → ArePassesFrom id n ps → All (λ p. p.queue ≡ id) ps
all_are_of id n [] from k d lt = absurd (omega arith)
all_are_of id n (x ∷ xs) from zero d lt = from.0
all_are_of id n (x ∷ xs) from (suc k) d lt = all_are_of id (suc n) xs from.2 k d (omega arith)
