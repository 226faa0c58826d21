-- The lines of the moves of all ranks so far were given, the best first.
use Rattle.std.proofs.{Common.{◌≡◌, ◌<◌, ◌≤◌, ◌+◌, ◌∙◌, ap, arith, length, refl, sym}, lemmas.List.FromFn.{get_or-range_with_len, length-range_with_len}}
use Rattle.kalah_solve.specs.Solver.MoveValues.{values_of}
use Rattle.kalah_jobs.proofs.SinkLemmas.{given_all, given_more}
use Rattle.kalah_cli.{specs.{ranked_line}, proofs.GameSolverLemmas.{variations_go_on}}
use Rattle.kalah_cli.proofs.commands.show.write_variations.Goals as goal

pub loop-rank-preserved : goal.loop-rank-preserved
loop-rank-preserved g c =
    let n = length (values_of c.args.board.now) in
    let few : c.loop-rank.rank < n = omega (arith, ap length c.requires.values) in
    let from_zero : c.loop-rank.rank ≡ 0 + c.loop-rank.rank = omega arith in
    record {
      shown = variations_go_on c.write_variation.ensures.begun c.loop-rank.invariant.shown c.write_variation.ensures.line;
      given = given_more _ (ranked_line c.args.board.now) refl c.loop-rank.rank _ _ c.loop-rank.invariant.given _ c.loop-rank.rank
          (omega (arith, length-range_with_len 0 n)) (from_zero ∙ sym (get_or-range_with_len 0 n c.loop-rank.rank 0 few))
          c.write_variation.ensures.line;
    }

pub returns : goal.returns
returns g c =
    let n = length (values_of c.args.board.now) in
    let done : n ≤ c.loop-rank.rank = omega (arith, ap length c.requires.values) in
    given_all _ (ranked_line c.args.board.now) refl c.loop-rank.rank _ _ c.loop-rank.invariant.given
    (omega (arith, length-range_with_len 0 n))
