use Rattle.std.proofs.Common.{◌-◌, length}
use Rattle.kalah_jobs.proofs.writing.answer_line.+prepend_values.Given as goal

abbrev pub decreases-prepend_values : goal.decreases-prepend_values
decreases-prepend_values l = length l.values.now - l.i
