use Rattle.std.proofs.Common.{◌-◌}
use Rattle.kalah_rules.specs.Position.{side_length}
use Rattle.kalah_jobs.proofs.writing.position_text.+prepend_side.Given as goal

abbrev pub decreases-prepend_side : goal.decreases-prepend_side
decreases-prepend_side l = side_length l.board.now - l.i
