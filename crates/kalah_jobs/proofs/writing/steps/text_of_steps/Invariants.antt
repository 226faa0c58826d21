use Rattle.std.proofs.Common.{◌≡◌, ◌++◌, take, string_bytes}
use Rattle.kalah_jobs.{specs.{house_step_text}, proofs.TextLemmas.{joined_lines}}
use Rattle.kalah_jobs.proofs.writing.steps.text_of_steps.Given as goal

abbrev pub invariant-loop-i : goal.invariant-loop-i
invariant-loop-i l = string_bytes l.text
    ≡ joined_lines (l.name ++ l.place) (house_step_text l.board) (take l.i l.moves)
