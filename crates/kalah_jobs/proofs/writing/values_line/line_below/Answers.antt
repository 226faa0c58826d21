use Rattle.kalah_jobs.proofs.TextLemmas.{are_small}
use Rattle.kalah_jobs.proofs.writing.values_line.line_below.Goals as goal

pub prepend_value_columns-requires-clause-small : goal.prepend_value_columns-requires-clause-small
prepend_value_columns-requires-clause-small c = are_small _ _ c.requires c.is_over.ensures.limits
