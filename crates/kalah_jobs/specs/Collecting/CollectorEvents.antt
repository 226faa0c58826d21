-- What offers and takes do, and what a list of them determines without the collector.
use Rattle.std.specs.{List.{enumerate_from}, Prelude.{◌≡◌, ℕ, ◌+◌, ◌<◌, ◌≤◌, ◌==◌, if◌then◌else◌, List, [], ◌∷◌, length, map, Option, Some, None, Result, MatchOption, MatchResult, IsSomeAnd, Contains}}
use Rattle.kalah_jobs.specs.{Collecting.{CollectorState.{ArrivalsState, state_of, front, IsNext, HasNoNext, after_offer, after_take}, OutcomeState.{OutcomeState}, Refusals.{IsWanted, IsRefusedFor}}, Files.JobList.{JobsState, entries_of, entry_at, line_job}, Types.{Entry, Taken, Refusal}, Writing.Answer.{answer_of}}

-- an offer is accepted: the answer of its entry is kept, and `ready` lines of its file became ready
pub record Accepts (jobs : JobsState) (files : List ArrivalsState) (o : OutcomeState) (ready : ℕ) (after : List ArrivalsState)
    : Type 0 where
  pub wanted : IsWanted jobs files o
  pub kept : after ≡ after_offer files o.file o.line (answer_of o.entry)
  pub more_ready : front (state_of after o.file) ≡ front (state_of files o.file) + ready

-- an offer is refused: for the first refusal that holds, and nothing is changed
pub record Refuses (jobs : JobsState) (files : List ArrivalsState) (o : OutcomeState) (refusal : Refusal)
    (after : List ArrivalsState) : Type 0 where
  pub cause : IsRefusedFor jobs files o refusal
  pub unchanged : after ≡ files

-- the result of an offer, and the files after it
abbrev pub Offers : JobsState → List ArrivalsState → OutcomeState → Result ℕ Refusal → List ArrivalsState → Type 0
Offers jobs files o result after = MatchResult result (λ ready. Accepts jobs files o ready after)
    (λ refusal. Refuses jobs files o refusal after)

-- a take returns the next line of the file
pub record Gives (files : List ArrivalsState) (f : ℕ) (result : Taken) (after : List ArrivalsState) : Type 0 where
  pub file_there : f < length files
  pub next_line : IsNext (state_of files f) result
  pub kept : after ≡ after_take files f

-- a take returns nothing, and nothing is changed
pub record GivesNothing (files : List ArrivalsState) (f : ℕ) (after : List ArrivalsState) : Type 0 where
  pub none_ready : HasNoNext (state_of files f)
  pub unchanged : after ≡ files

-- the result of a take of file f, and the files after it
abbrev pub Takes : List ArrivalsState → ℕ → Option Taken → List ArrivalsState → Type 0
Takes files f result after = MatchOption result (GivesNothing files f after) (λ taken. Gives files f taken after)

-- an offer with the answer to it, or a take of a file with its result
pub data Event : Type 0 where
  Offered : OutcomeState → Result ℕ Refusal → Event
  Took : ℕ → Option Taken → Event

-- what was offered, in order, accepted or refused
abbrev pub offered_in : List Event → List OutcomeState
offered_in [] = []
offered_in (Offered o result ∷ events) = o ∷ offered_in events
offered_in (Took f result ∷ events) = offered_in events

-- the result of a take of file g, put before `rest` if the file is f
abbrev pub with_taken : ℕ → ℕ → Option Taken → List Taken → List Taken
with_taken f g None rest = rest
with_taken f g (Some t) rest = if g == f then t ∷ rest else rest

-- the results of the takes of file f, in order
abbrev pub taken_in : ℕ → List Event → List Taken
taken_in f [] = []
taken_in f (Offered o result ∷ events) = taken_in f events
taken_in f (Took g result ∷ events) = with_taken f g result (taken_in f events)

-- line k of file f was offered with its entry
abbrev pub HasArrived : JobsState → List Event → ℕ → ℕ → Type 0
HasArrived jobs events f k = IsSomeAnd (entry_at jobs f k) (λ e. Contains (offered_in events) (line_job f k e))

-- n is the greatest number, at most the count of lines of file f, with all lines below it come
pub record IsFront (jobs : JobsState) (events : List Event) (f n : ℕ) : Type 0 where
  pub within : n ≤ length (entries_of jobs f)
  pub below : (k : ℕ) → k < n → HasArrived jobs events f k
  pub greatest : (m : ℕ) → m ≤ length (entries_of jobs f) → ((k : ℕ) → k < m → HasArrived jobs events f k) → m ≤ n

-- a line with its number and the answer of its entry
abbrev pub answered_line : ℕ × Entry → Taken
answered_line p = record { line = p.0; answer = answer_of p.1 }

-- all lines with these entries in order, each with its answer
abbrev pub answered_lines : List Entry → List Taken
answered_lines entries = map answered_line (enumerate_from 0 entries)
