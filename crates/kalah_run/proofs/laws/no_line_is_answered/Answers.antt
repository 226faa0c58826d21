use Rattle.kalah_run.proofs.AnsweringLemmas.{nothing_answered}
use Rattle.kalah_run.proofs.laws.no_line_is_answered.Goals as goal

pub returns : goal.returns
returns g c question files old new result answers none = nothing_answered question files none _ old new result answers
