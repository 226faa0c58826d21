use Rattle.std.proofs.Common.{◌++◌, ◌∷◌, [], flat_map, take}
use Rattle.kalah_jobs.specs.{line_feed, house_step_text, WasGiven}
use Rattle.kalah_jobs.proofs.writing.steps.write_steps.Given as goal

abbrev pub invariant-loop-i : goal.invariant-loop-i
invariant-loop-i g l = WasGiven g.W.Sink.state l.initial.out l.out
    (flat_map (λ h. ((l.fn.name ++ l.fn.place) ++ house_step_text l.board h) ++ line_feed ∷ []) (take l.i l.moves))
