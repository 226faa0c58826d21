-- Which offers are accepted, and which refusal each other one meets: the first that holds.
use Rattle.std.specs.Prelude.{◌≡◌, ◌≢◌, ◌<◌, ◌≤◌, List, length, Some, None, IsSome}
use Rattle.kalah_jobs.specs.{Collecting.{CollectorState.{ArrivalsState, state_of, line_count, arrived_for, HasEnded}, OutcomeState.{OutcomeState}}, Files.JobList.{JobsState, entry_at}, Types.{Refusal}, declared.collecting.refusal.Refusal.TheVariants.{NoSuchFile, FileEnded, NoSuchLine, WrongPosition, Double}}

-- the offer is of a file that is there
abbrev pub HasFile : List ArrivalsState → OutcomeState → Type 0
HasFile files o = o.file < length files

-- the offer is of a file that is there and has not ended
abbrev pub HasOpenFile : List ArrivalsState → OutcomeState → Type 0
HasOpenFile files o = HasFile files o × ¬ HasEnded (state_of files o.file)

-- the offer is of a file that has not ended, and of a line of it
abbrev pub HasLine : List ArrivalsState → OutcomeState → Type 0
HasLine files o = HasOpenFile files o × (o.line < line_count (state_of files o.file))

-- the offer is of such a line, and has its entry
abbrev pub HasEntry : JobsState → List ArrivalsState → OutcomeState → Type 0
HasEntry jobs files o = HasLine files o × (entry_at jobs o.file o.line ≡ Some o.entry)

-- the offer is the first of a line, with its entry, of a file that has not ended: none of the refusals holds
pub record IsWanted (jobs : JobsState) (files : List ArrivalsState) (o : OutcomeState) : Type 0 where
  pub file_there : o.file < length files
  pub not_ended : ¬ HasEnded (state_of files o.file)
  pub line_there : o.line < line_count (state_of files o.file)
  pub entry_is : entry_at jobs o.file o.line ≡ Some o.entry
  pub first : arrived_for (state_of files o.file) o.line ≡ None

-- the refusal holds, and none of those before it
abbrev pub IsRefusedFor : JobsState → List ArrivalsState → OutcomeState → Refusal → Type 0
IsRefusedFor jobs files o NoSuchFile = length files ≤ o.file
IsRefusedFor jobs files o FileEnded = HasFile files o × HasEnded (state_of files o.file)
IsRefusedFor jobs files o NoSuchLine = HasOpenFile files o × (line_count (state_of files o.file) ≤ o.line)
IsRefusedFor jobs files o WrongPosition = HasLine files o × (entry_at jobs o.file o.line ≢ Some o.entry)
IsRefusedFor jobs files o Double = HasEntry jobs files o × IsSome (arrived_for (state_of files o.file) o.line)

-- An offer that is wanted meets no refusal, and no offer meets two: so each is answered in one way only.
pub record AnswersInOneWay : Type 0 where
  pub wanted : (jobs : JobsState) (files : List ArrivalsState) (o : OutcomeState) (r : Refusal) → IsWanted jobs files o
      → IsRefusedFor jobs files o r → ⊥
  pub one : (jobs : JobsState) (files : List ArrivalsState) (o : OutcomeState) (q r : Refusal) → IsRefusedFor jobs files o q →
      IsRefusedFor jobs files o r → q ≡ r
