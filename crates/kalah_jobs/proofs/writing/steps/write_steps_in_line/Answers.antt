-- After i moves their texts were given, with `; ` between any two.
use Rattle.std.proofs.Common.{◌++◌, [], ◌==◌, ◌∙◌, ℕ, List, ap, codes, cond, subst, sym, take, take_all}
use Rattle.kalah_jobs.specs.{house_step_text, WasGiven}
use Rattle.kalah_jobs.proofs.{SinkLemmas.{given_none, given_then}, TextLemmas.{move_is_legal, one_text_more, texts_in_line}}
use Rattle.kalah_jobs.proofs.writing.steps.write_steps_in_line.Goals as goal

pub loop-i-preserved : goal.loop-i-preserved
loop-i-preserved g c =
    let text : ℕ → List ℕ = house_step_text c.args.board.now in
    let moves = c.legal-moves.result in
    let i = c.loop-i.i in
    let more = one_text_more text moves i (rw c.len-i-end.ensures at c.loop-i-test.true) in
    subst (WasGiven g.W.Sink.state c.args.out.now c.write_to.new.out)
    (ap (texts_in_line text (take i moves) ++◌) c.next_text.ensures
    ∙ sym (more ∙ ap (λ h. texts_in_line text (take i moves) ++ (cond (i == 0) [] (codes "; ") ++ text h)) (sym c.get.ensures)))
    (given_then _ c.loop-i.invariant c.write_to.ensures)

pub next_text-requires : goal.next_text-requires
next_text-requires g c =
    move_is_legal c.loop-i.i c.legal-moves.ensures.moves (rw c.len-i-end.ensures at c.loop-i-test.true) c.get.ensures

pub loop-i-init : goal.loop-i-init
loop-i-init g c = given_none _ _

pub returns : goal.returns
returns g c =
    let text : ℕ → List ℕ = house_step_text c.args.board.now in
    let moves = c.legal-moves.result in
    let high = rw c.len-i-end.ensures at c.loop-i-test.false in
    let all = take_all c.loop-i.i moves high ∙ c.legal-moves.ensures.moves in
    rw all at (given_then _ c.loop-i.invariant c.write_unless_failed.ensures)
