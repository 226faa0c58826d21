-- Columns are put in front of those after them: the column of a value, after blanks for the houses without a move before it.
use Rattle.std.proofs.Common.{◌++◌, ◌+◌, ◌∙◌, ap, arith, drop, sym}
use Rattle.kalah_jobs.{specs.{empty_columns, value_columns}, proofs.{ListLemmas.{items_from}, TextLemmas.{column_before, next_value}}}
use Rattle.kalah_jobs.proofs.writing.values_line.+prepend_value_columns.Goals as goal

pub overflow_add-value : goal.overflow_add-value
overflow_add-value t c =
    omega (arith, (next_value c.args.filled c.args.values.now c.args.i c.get-value.ensures c.requires.ascend c.requires.small).value.last)

pub prepend_value_columns-requires : goal.prepend_value_columns-requires
prepend_value_columns-requires t c =
    let next = next_value c.args.filled c.args.values.now c.args.i c.get-value.ensures c.requires.ascend c.requires.small in (
      omega (arith, c.decreases),
      (c.requires.room, (omega arith, (omega (arith, next.value.last), (next.ascend, next.small)))),
    )

pub prepend_value_column-requires-clause-small : goal.prepend_value_column-requires-clause-small
prepend_value_column-requires-clause-small t c =
    (next_value c.args.filled c.args.values.now c.args.i c.get-value.ensures c.requires.ascend c.requires.small).value.small

pub returns-clause-columns : goal.returns-clause-columns
returns-clause-columns t c =
    let value = c.get-value.result in
    let old = c.args.text.now in
    column_before c.args.filled value (drop (c.args.i + 1) c.args.values.now) old c.prepend_value_columns.ensures.columns
    c.prepend_value_column.ensures.column
    (c.prepend_blanks.ensures.blanks ∙ ap (λ n. empty_columns n ++ c.prepend_value_column.new.text) c.from.ensures)
    ∙ ap (λ values. value_columns c.args.filled values ++ old) (sym (items_from c.args.values.now c.args.i value c.get-value.ensures))
