use Rattle.std.proofs.Common.{◌-◌, length}
use Rattle.kalah_jobs.proofs.writing.values_line.+prepend_value_columns.Given as goal

abbrev pub decreases-prepend_value_columns : goal.decreases-prepend_value_columns
decreases-prepend_value_columns l = length l.values.now - l.i
