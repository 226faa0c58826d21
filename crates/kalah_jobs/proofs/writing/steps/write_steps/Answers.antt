-- After i moves their lines were given, each with its line feed; all of them are the lines joined, and one more line feed.
use Rattle.std.proofs.Common.{◌≡◌, ◌++◌, ◌∷◌, [], ◌<◌, ◌∙◌, ℕ, List, ap, append_assoc, arith, length, map, subst, sym}
use Rattle.std.specs.List.{join_with_byte}
use Rattle.kalah_jobs.specs.{line_feed, step_text_of, house_step_text, WasGiven}
use Rattle.kalah_jobs.proofs.{SinkLemmas.{given_all, given_more, given_none}, TextLemmas.{move_is_legal, lines_end_in_feeds}}
use Rattle.kalah_jobs.proofs.writing.steps.write_steps.Goals as goal

-- the line that is put together from its end
line_of_step : (name place step : List ℕ) {text line : List ℕ} → text ≡ step ++ line_feed ∷ [] → line ≡ place ++ text
    → name ++ line ≡ ((name ++ place) ++ step) ++ line_feed ∷ []
line_of_step name place step text_is line_is = rw (line_is, text_is) (simp append_assoc)

pub loop-i-preserved : goal.loop-i-preserved
loop-i-preserved g c =
    let place = c.args.name.now ++ c.args.place.now in
    let one : ℕ → List ℕ = λ h. (place ++ house_step_text c.args.board.now h) ++ line_feed ∷ [] in
    let step = c.text_of_step-text.ensures.text ∙ ap (λ s. step_text_of c.get-h.result s ++ line_feed ∷ []) c.apply.ensures.step in
    let line = rw (line_of_step c.args.name.now c.args.place.now _ step c.prepend.ensures.piece) at c.write_named.ensures in
    given_more _ one c.legal-moves.ensures.moves c.loop-i.i _ _ c.loop-i.invariant _ c.get-h.result
    (rw c.len-count.ensures at c.loop-i-test.true) c.get-h.ensures line

pub loop-i-init : goal.loop-i-init
loop-i-init g c = given_none _ _

pub apply-requires : goal.apply-requires
apply-requires g c =
    move_is_legal c.loop-i.i c.legal-moves.ensures.moves (rw c.len-count.ensures at c.loop-i-test.true) c.get-h.ensures

pub returns : goal.returns
returns g c =
    let place = c.args.name.now ++ c.args.place.now in
    let text : ℕ → List ℕ = house_step_text c.args.board.now in
    let moves = c.legal-moves.result in
    let some : 0 < length moves = omega (arith, c.if-count-eq0.false, c.len-count.ensures) in
    subst (WasGiven g.W.Sink.state c.args.out.now c.loop-i.out)
    (sym (lines_end_in_feeds place text moves some)
    ∙ ap (λ ms. join_with_byte line_feed (map (place ++◌) (map text ms)) ++ line_feed ∷ []) c.legal-moves.ensures.moves)
    (given_all _ (λ h. (place ++ text h) ++ line_feed ∷ []) (let same : moves ≡ moves = λ _. moves in same) c.loop-i.i _ _
    c.loop-i.invariant (rw c.len-count.ensures at c.loop-i-test.false))
