-- What a sink has of the bytes that it was given, and when its caller may wait.
use Rattle.std.specs.{Io.KnownBytes.{Appends}, Prelude.{◌≡◌, ℕ, Bool, true, false, List, Option, take}}

-- known bytes stay at the front and grow by a prefix of the text: by its first n bytes, for some n
abbrev pub AppendsPrefix : Option (List ℕ) → Option (List ℕ) → List ℕ → Type 0
AppendsPrefix old new text = (n : ℕ) × Appends old new (take n text)

-- what a contract sees of a sink: the bytes written so far, if they are known; whether a call has failed; whether all that was
-- written is flushed; and whether it may keep bytes in its buffer while the caller waits
pub record SinkState : Type 0 where
  pub written : Option (List ℕ)
  pub has_failed : Bool
  pub is_flushed : Bool
  pub may_buffer : Bool

-- the caller may wait: unless the sink has failed, or may keep bytes while the caller waits, it keeps none
abbrev pub IsReady : SinkState → Type 0
IsReady sink = sink.has_failed ≡ false → sink.may_buffer ≡ false → sink.is_flushed ≡ true

-- The text was given to a sink, from one state to another. It has all of it, unless a call of it has failed; and then it has a prefix of
-- it, and nothing else. If a call had failed before, it was not called again.
module _ {O : Type 0} (state : O → SinkState) where
  pub record WasGiven (old new : O) (text : List ℕ) : Type 0 where
    pub start : AppendsPrefix (state old).written (state new).written text
    pub whole : (state new).has_failed ≡ false
        → ((state old).has_failed ≡ false) × Appends (state old).written (state new).written text
    pub quiet : (state old).has_failed ≡ true → new ≡ old
