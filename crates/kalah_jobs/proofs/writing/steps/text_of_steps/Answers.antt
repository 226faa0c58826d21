-- After i moves the text has their lines, with a line feed between any two.
use Rattle.std.proofs.Common.{◌≡◌, ◌++◌, ◌<◌, ◌∙◌, ℕ, List, ap, ap₂, append_assoc, append-nil, length, sym, take_all}
use Rattle.kalah_rules.specs.Play.{step_of}
use Rattle.kalah_jobs.{specs.{step_text_of, house_step_text}, proofs.TextLemmas.{joined_lines, move_is_legal, one_line_more}}
use Rattle.kalah_jobs.proofs.writing.steps.text_of_steps.Goals as goal

-- a line after what is there
line_pushed : (old before name place step : List ℕ) {start line text : List ℕ} → start ≡ old → line ≡ place ++ step
    → text ≡ start ++ (before ++ (name ++ line)) → text ≡ old ++ (before ++ ((name ++ place) ++ step))
line_pushed old before name place step start_is line_is text_is = text_is ∙ simp (start_is, line_is, append_assoc)

pub loop-i-preserved : goal.loop-i-preserved
loop-i-preserved c =
    let text : ℕ → List ℕ = house_step_text c.args.board.now in
    let moves = c.legal-moves.result in
    let low : c.loop-i.i < length moves = rw c.len-i-end.ensures at c.loop-i-test.true in
    let step = c.text_of_step-step.ensures.text ∙ append-nil _
    ∙ ap₂ step_text_of c.get-h.ensures (c.apply.ensures.step ∙ ap (step_of c.args.board.now) c.get-h.ensures) in
    let line = c.as_str.ensures ∙ c.prepend.ensures.piece ∙ ap (c.args.place.now ++◌) step in
    line_pushed _ _ c.args.name.now c.args.place.now _ c.loop-i.invariant line c.in_ok-push_line.ensures
    ∙ sym (one_line_more (c.args.name.now ++ c.args.place.now) text moves c.loop-i.i low)

pub apply-requires : goal.apply-requires
apply-requires c =
    move_is_legal c.loop-i.i c.legal-moves.ensures.moves (rw c.len-i-end.ensures at c.loop-i-test.true) c.get-h.ensures

pub returns : goal.returns
returns c =
    let moves = c.legal-moves.result in
    let high = rw c.len-i-end.ensures at c.loop-i-test.false in
    let all = take_all c.loop-i.i moves high ∙ c.legal-moves.ensures.moves in
    c.loop-i.invariant ∙ ap (joined_lines (c.args.name.now ++ c.args.place.now) (house_step_text c.args.board.now)) all
