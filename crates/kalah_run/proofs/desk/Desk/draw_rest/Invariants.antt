use Rattle.std.proofs.Common.{◌≡◌, ◌+◌, ◌-◌, ◌*◌, ◌≤◌, length}
use Rattle.kalah_run.{proofs.WorkerLemmas.{least_above}, specs.{IsPassAt}}
use Rattle.kalah_run.proofs.desk.Desk.draw_rest.Given as goal

-- each number that is drawn is above the earlier ones, so there are no more than the total
abbrev pub invariant-loop-drawn : goal.invariant-loop-drawn
invariant-loop-drawn l = record {
  own : IsPassAt l.self l.pass;
  number : l.pass.number ≡ l.fn.pass.number;
  counted : length l.pass.row.numbers ≡ length l.fn.pass.row.numbers + l.drawn;
  few : l.drawn + (l.self.total - least_above l.pass.row.numbers) ≤ 2 * l.self.total;
}

abbrev pub decreases-loop-drawn : goal.decreases-loop-drawn
decreases-loop-drawn l = l.self.total - least_above l.pass.row.numbers
