use Rattle.kalah_jobs.proofs.TextLemmas.{value_at_right, value_longer, value_room}
use Rattle.kalah_jobs.proofs.writing.values_line.prepend_value_column.Goals as goal

pub overflow_sub-end : goal.overflow_sub-end
overflow_sub-end c = value_room _ c.requires.small c.from.ensures c.prepend_margin.ensures.margin c.len-end.ensures c.len.ensures

pub returns-clause-column : goal.returns-clause-column
returns-clause-column c =
    value_at_right _ c.requires.small c.from.ensures c.prepend_margin.ensures.margin c.len-end.ensures
    c.len.ensures _ c.prepend_blanks.ensures.blanks

pub returns-clause-longer : goal.returns-clause-longer
returns-clause-longer c =
    value_longer _ c.requires.small c.from.ensures c.prepend_margin.ensures.margin c.len-end.ensures
    c.len.ensures _ c.prepend_blanks.ensures.longer
