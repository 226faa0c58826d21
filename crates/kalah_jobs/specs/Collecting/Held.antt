-- What a collector holds after a list of offers.
use Rattle.std.specs.Prelude.{◌≡◌, ℕ, ◌≤◌, List, Some, Contains}
use Rattle.kalah_jobs.specs.{Collecting.{CollectorState.{ArrivalsState, state_of, arrived_for, front, HasLinesOf}, OutcomeState.{OutcomeState}}, Files.JobList.{JobsState, entry_at, line_job}, Types.{Entry, Answer}, Writing.Answer.{answer_of}}

-- line k of file f is one of the jobs, the answer is that of its entry, and it was offered with that entry
pub record IsOffered (jobs : JobsState) (past : List OutcomeState) (f k : ℕ) (answer : Answer) : Type 0 where
  pub entry : Entry
  pub entry_is : entry_at jobs f k ≡ Some entry
  pub answer_is : answer ≡ answer_of entry
  pub offered : Contains past (line_job f k entry)

-- What has arrived are the answers of the lines that were offered with their entry, and nothing else.
pub record HoldsOffered (jobs : JobsState) (past : List OutcomeState) (files : List ArrivalsState) : Type 0 where
  pub counts : HasLinesOf jobs files
  pub arrived : (f k : ℕ) (e : Entry) → entry_at jobs f k ≡ Some e → Contains past (line_job f k e) →
      arrived_for (state_of files f) k ≡ Some (answer_of e)
  pub only : (f k : ℕ) (a : Answer) → arrived_for (state_of files f) k ≡ Some a → IsOffered jobs past f k a

-- It holds what was offered, and no more was taken than is ready.
pub record AgreeWithOffers (jobs : JobsState) (past : List OutcomeState) (files : List ArrivalsState) : Type 0 where
  pub offered : HoldsOffered jobs past files
  pub within : (f : ℕ) → (state_of files f).taken ≤ front (state_of files f)
