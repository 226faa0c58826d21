use Rattle.std.proofs.Common.{take}
use Rattle.kalah_jobs.{specs.{house_step_text, WasGiven}, proofs.TextLemmas.{texts_in_line}}
use Rattle.kalah_jobs.proofs.writing.steps.write_steps_in_line.Given as goal

abbrev pub invariant-loop-i : goal.invariant-loop-i
invariant-loop-i g l = WasGiven g.W.Sink.state l.initial.out l.out
    (texts_in_line (house_step_text l.board) (take l.i l.moves))
