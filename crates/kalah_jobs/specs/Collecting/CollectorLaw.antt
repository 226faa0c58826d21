-- The law of a collector: after any list of offers and takes its state is the one that the list determines.
use Rattle.std.specs.Prelude.{◌≡◌, ℕ, ◌≤◌, ◌↔◌, List, [], ◌∷◌, take, IsSome}
use Rattle.kalah_jobs.specs.{Collecting.{CollectorEvents.{Event, Offered, Took, Offers, Takes, taken_in, HasArrived, IsFront, answered_lines}, CollectorState.{ArrivalsState, state_of, new_files, front, arrived_for, HasLinesOf}}, Files.JobList.{JobsState, entries_of}}

-- the files after an event
abbrev pub IsAfterEvent : JobsState → List ArrivalsState → Event → List ArrivalsState → Type 0
IsAfterEvent jobs files (Offered o result) after = Offers jobs files o result after
IsAfterEvent jobs files (Took f result) after = Takes files f result after

-- one event after the other
abbrev pub IsAfterEvents : JobsState → List ArrivalsState → List Event → List ArrivalsState → Type 0
IsAfterEvents jobs files [] after = files ≡ after
IsAfterEvents jobs files (e ∷ events) after =
    (between : List ArrivalsState) × IsAfterEvent jobs files e between × IsAfterEvents jobs between events after

-- The files are as the events determine: they have the jobs' lines, those have arrived that were offered with their entry, each file is
-- ready as far as they have arrived without a gap, and what was taken are its first lines, each with the answer of its entry.
pub record AreAsDetermined (jobs : JobsState) (events : List Event) (files : List ArrivalsState) : Type 0 where
  pub counts : HasLinesOf jobs files
  pub arrived : (f k : ℕ) → IsSome (arrived_for (state_of files f) k) ↔ HasArrived jobs events f k
  pub furthest : (f : ℕ) → IsFront jobs events f (front (state_of files f))
  pub taken : (f : ℕ) → taken_in f events ≡ take (state_of files f).taken (answered_lines (entries_of jobs f))
  pub taken_within : (f : ℕ) → (state_of files f).taken ≤ front (state_of files f)

-- the law, over every list of offers and takes
abbrev pub KeepsItsLaw : Type 0
KeepsItsLaw = (jobs : JobsState) (events : List Event) (files : List ArrivalsState)
    → IsAfterEvents jobs (new_files jobs) events files → AreAsDetermined jobs events files
