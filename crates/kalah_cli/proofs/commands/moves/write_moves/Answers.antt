-- After i moves their lines were given, in order.
use Rattle.std.proofs.Common.{None, arith}
use Rattle.kalah_rules.specs.Play.{step_of}
use Rattle.kalah_jobs.proofs.SinkLemmas.{given_all, given_more}
use Rattle.kalah_cli.{specs.{move_lines}, proofs.EndsLemmas.{printed_flushed}}
use Rattle.kalah_cli.proofs.commands.moves.write_moves.Goals as goal

pub loop-i-preserved : goal.loop-i-preserved
loop-i-preserved g c =
    let line = rw c.apply.ensures.step at c.write_move.ensures in
    record {
      same = c.loop-i.invariant.same;
      given = given_more _ (λ h. move_lines c.args.boards None h (step_of c.args.board.now h)) c.loop-i.invariant.same c.loop-i.i _ _
          c.loop-i.invariant.given _ c.get-house.result (omega arith) c.get-house.ensures line;
    }

pub returns : goal.returns
returns g c =
    printed_flushed (given_all _ (λ h. move_lines c.args.boards None h (step_of c.args.board.now h)) c.loop-i.invariant.same c.loop-i.i _ _
    c.loop-i.invariant.given (omega arith)) c.flush_unless_failed.ensures.given c.flush_unless_failed.ensures.all_flushed
