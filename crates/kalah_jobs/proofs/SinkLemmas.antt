-- What a sink is given: prefixes of bytes, bytes that are written in part, and texts one after the other.
use Rattle.std.proofs.{Common.{ℕ, ◌<◌, ◌≤◌, length, arith, ◌≡◌, List, ◌++◌, sym, refl, ◌+◌, [], ap, ◌∙◌, take, drop, append_assoc, get_or, flat_map, append-nil, Bool, true, false, ◌-◌, Option, ◌↔◌, IsErr, Ok, Err, OnOk, Result}, KnownBytes.{Appends-kept, Appends-nil, Appends-trans}, Math.Seq.{take-append-add}, lemmas.{Grind.{flat_map-append}, List.{take-append-drop, length-drop, flat_map_more, take_more, take_all}}}
use Rattle.std.specs.Io.KnownBytes.{Appends, Keeps}
use Rattle.kalah_jobs.specs.{AppendsPrefix, SinkState, WasGiven}

-- ==== Prefixes of what was to be written

-- the empty text is a prefix of every text
pub prefix_none : (old : Option (List ℕ)) (text : List ℕ) → AppendsPrefix old old text
prefix_none old text = (0, Appends-nil old)

-- a first part of the bytes, and then a prefix of the rest
pub prefix_then : (old between new : Option (List ℕ)) (text done rest : List ℕ) → text ≡ done ++ rest → Appends old between done
    → AppendsPrefix between new rest → AppendsPrefix old new text
prefix_then old between new text done rest parts first start = (
  length done + start.0,
  rw (parts, take-append-add) (Appends-trans _ _ _ done (take start.0 rest) first start.1),
)

-- a prefix is also one of what is longer
pub prefix_longer : (old new : Option (List ℕ)) (text more : List ℕ) → AppendsPrefix old new text → AppendsPrefix old new (text ++ more)
prefix_longer old new text more start =
    prefix_then _ _ _ (text ++ more) (take start.0 text) (drop start.0 text ++ more)
    (cc (take-append-drop start.0 text, append_assoc (take start.0 text) (drop start.0 text) more)) start.1
    (prefix_none new (drop start.0 text ++ more))

-- what keeps the bytes keeps the prefix
pub prefix_kept : (old between new : Option (List ℕ)) (text : List ℕ) → AppendsPrefix old between text → Keeps between new
    → AppendsPrefix old new text
prefix_kept old between new text start kept = (start.0, Appends-kept old between new (take start.0 text) start.1 kept)

-- ==== Bytes that are written in part

-- the first of the bytes were written, and the rest is left
pub record IsPartWritten (old now : Option (List ℕ)) (bytes rest : List ℕ) : Type 0 where
  pub done : List ℕ
  pub parts : bytes ≡ done ++ rest
  pub written : Appends old now done

-- before any call all bytes are left
pub left_all : (old : Option (List ℕ)) (bytes : List ℕ) → IsPartWritten old old bytes bytes
left_all old bytes = record { done = []; parts = refl; written = Appends-nil old }

module _ {old now : Option (List ℕ)} (next : Option (List ℕ)) {bytes rest : List ℕ} (left : IsPartWritten old now bytes rest) where
  -- a prefix of the rest was written
  pub left_prefix : AppendsPrefix now next rest → AppendsPrefix old next bytes
  left_prefix start = prefix_then _ _ _ bytes left.done rest left.parts left.written start

  -- the rest was written
  pub left_whole : Appends now next rest → Appends old next bytes
  left_whole adds = rw left.parts (Appends-trans _ _ _ left.done rest left.written adds)

  -- a part of the rest was written
  pub left_part : (taken : ℕ) → Appends now next (take taken rest)
      → IsPartWritten old next bytes (take (length rest - taken) (drop taken rest))
  left_part taken part =
      let others = take_all (length rest - taken) (drop taken rest) (omega (arith, length-drop taken rest)) in
      let parts = ap (take taken rest ++◌) others ∙ take-append-drop taken rest in
      record {
        done = left.done ++ take taken rest;
        parts = left.parts ∙ ap (left.done ++◌) (sym parts) ∙ sym (append_assoc left.done (take taken rest) _);
        written = Appends-trans _ _ _ left.done (take taken rest) left.written part;
      }

-- what writing bytes in parts needs
pub ruleset parts_written = (left_all, left_whole, left_part)

-- ==== Texts that are given to a sink in sequence

module _ {O : Type 0} (state : O → SinkState) where
  pub given_none : (out : O) → WasGiven state out out []
  given_none out = record {
    start = prefix_none (state out).written [];
    whole = λ sound. (sound, Appends-nil (state out).written);
    quiet = λ failed. refl;
  }

  -- a text by one call, which is not made after a failure
  pub given_once : {A E : Type 0} (r : Result A E) (old new : O) (text : List ℕ) → (state old).has_failed ≡ false
      → IsErr r ↔ ((state new).has_failed ≡ true) → OnOk r (Appends (state old).written (state new).written text)
      → AppendsPrefix (state old).written (state new).written text → WasGiven state old new text
  given_once (Ok x) old new text sound fails adds start = record { start = start; whole = λ still. (sound, adds); quiet = λ failed. cc }
  given_once (Err e) old new text sound fails adds start =
      record { start = start; whole = λ still. absurd (cc (fails.0 refl)); quiet = λ failed. cc }

  -- no text by a flush
  pub flush_gives_nothing : (old new : O) → (state old).has_failed ≡ false → Keeps (state old).written (state new).written
      → WasGiven state old new []
  flush_gives_nothing old new sound keeps = record {
    start = prefix_kept _ _ _ [] (prefix_none _ []) keeps;
    whole = λ still. (sound, Appends-kept _ _ _ [] (Appends-nil (state old).written) keeps);
    quiet = λ failed. cc;
  }

  -- a sink that has failed is given any text
  pub given_after_failure : (out : O) (text : List ℕ) → (state out).has_failed ≡ true → WasGiven state out out text
  given_after_failure out text failed =
      record { start = prefix_none (state out).written text; whole = λ sound. absurd cc; quiet = λ _. refl }

  -- a text, and then another
  pub given_then : {old between new : O} {text more : List ℕ} → WasGiven state old between text → WasGiven state between new more
      → WasGiven state old new (text ++ more)
  given_then {old} {between} {new} {text} {more} first second = record {
    start = by (state between).has_failed refl;
    whole = λ sound. (
      (first.whole (second.whole sound).0).0,
      Appends-trans _ _ _ text more (first.whole (second.whole sound).0).1 (second.whole sound).1,
    );
    quiet = λ failed. let was = first.quiet failed in second.quiet (ap (λ o. (state o).has_failed) was ∙ failed) ∙ was;
  } where
    by : (b : Bool) → (state between).has_failed ≡ b → AppendsPrefix (state old).written (state new).written (text ++ more)
    by true failed = rw (second.quiet failed) (prefix_longer _ _ text more first.start)
    by false sound = prefix_then _ _ _ (text ++ more) text more refl (first.whole sound).1 second.start

  -- a text, and then another, which needs to be the right one only if no call has failed
  pub given_then_if_sound : (old between new : O) (text more right : List ℕ) → WasGiven state old between text
      → ((state between).has_failed ≡ false → more ≡ right) → WasGiven state between new more → WasGiven state old new (text ++ right)
  given_then_if_sound old between new text more right first same second = by (state between).has_failed refl where
    by : (b : Bool) → (state between).has_failed ≡ b → WasGiven state old new (text ++ right)
    by true failed = given_then first (rw (second.quiet failed) (given_after_failure between right failed))
    by false sound = given_then first (rw (same sound) at second)

  -- a text, and then a flush
  pub given_then_flush : {old between new : O} {text : List ℕ} → WasGiven state old between text → WasGiven state between new []
      → WasGiven state old new text
  given_then_flush first second = rw append-nil at (given_then first second)

  -- a text that goes on after a failure
  pub given_more_after_failure : {old between : O} {text : List ℕ} (more : List ℕ) → WasGiven state old between text
      → (state between).has_failed ≡ true → WasGiven state old between (text ++ more)
  given_more_after_failure {old} {between} {text} more first failed = given_then first (given_after_failure between more failed)

  -- the texts of the first elements were given
  module _ (one : ℕ → List ℕ) {elements all : List ℕ} (same : elements ≡ all) (i : ℕ) (old between : O)
      (so_far : WasGiven state old between (flat_map one (take i elements))) where
    -- the text of one more element was given
    pub given_more : (new : O) (element : ℕ) → i < length elements → element ≡ get_or elements i 0
        → WasGiven state between new (one element) → WasGiven state old new (flat_map one (take (i + 1) elements))
    given_more new element within element_is more =
        rw (take_more elements i 0 within, ← element_is, ← flat_map_more one [] (take i elements) element) (given_then so_far more)

    -- a call had failed, so the sink was given all
    pub given_all_after_failure : (state between).has_failed ≡ true → WasGiven state old between (flat_map one all)
    given_all_after_failure failed =
        rw (← same, ← take-append-drop i elements, flat_map-append one (take i elements) (drop i elements))
        (given_then so_far (given_after_failure between (flat_map one (drop i elements)) failed))

    -- there are no more elements
    pub given_all : length elements ≤ i → WasGiven state old between (flat_map one all)
    given_all end = rw (take_all i elements end ∙ same) at so_far
