-- What a solver finds for an entry.
use Rattle.kalah_solve.specs.declared.solver.Verdict.TheVariants.{Best, Over}
use Rattle.kalah_jobs.specs.{Types.{Entry, Answer}, Writing.Answer.{answer_of}, declared.collecting.found.Found.{Found, TheVariants.{Verdict, Values, Nothing}}}
use Rattle.kalah_jobs.specs.declared.writing.answer.Answer.TheVariants as answer

-- what a solver finds for an answer
abbrev pub found_for : Answer → Found
found_for (answer.Best margin house) = Verdict (Best margin house)
found_for (answer.Over margin) = Verdict (Over margin)
found_for (answer.Values values) = Values values
found_for (answer.Steps p) = Nothing
found_for (answer.Fault fault) = Nothing

-- what it finds for an entry
abbrev pub found_of : Entry → Found
found_of entry = found_for (answer_of entry)
