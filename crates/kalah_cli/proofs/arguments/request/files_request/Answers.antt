-- All three subcommands have `--workers` and FILE, two of them `--table`: so their rows have a file, and numbers that are in range.
use Rattle.std.proofs.{Common.{[], ◌∙◌, ◌≡◌, ap, arith, codes, inl, inr, is_some, length, map, refl, suc, sym, unwrap_or}, lemmas.List.{length-map}}
use Rattle.clap.{specs.Words.{found_of}, proofs.{CallerLemmas.{some_of_text}, WalkLemmas.{raw_values-rows}}}
use Rattle.kalah_solve.specs.Table.Entries.{IsTableSize}
use Rattle.kalah_cli.specs.{table_entries_asked, rows_in}
use Rattle.kalah_cli.proofs.{RequestLemmas.{may_have_number, takes_files, takes_table, value_given, values_are}, arguments.request.files_request.Goals.{in-BestMove, in-Steps}}
use Rattle.kalah_cli.proofs.arguments.request.files_request.Goals as goal

pub worker_count-requires : goal.worker_count-requires
worker_count-requires c = may_have_number (codes "workers") c.requires (takes_files c.args.question).0 refl

pub table_entries-requires : goal.table_entries-requires
table_entries-requires c = may_have_number (codes "table") c.requires (takes_table c.args.question c.in-BestMove.is) refl

pub unwrap-requires : goal.unwrap-requires
unwrap-requires c =
    some_of_text _ c.get_strs.result _ (c.get_strs.ensures ∙ raw_values-rows (found_of c.args.matches.now) (codes "file"))
    (ap is_some (value_given (codes "file") c.requires (takes_files c.args.question).1 refl).all)

pub returns-clause-asked : goal.returns-clause-asked
returns-clause-asked c =
    let files = values_are (found_of c.args.matches.now) (codes "file") c.get_strs.ensures c.unwrap.ensures
    (c.in_ok-to_vec.ensures.items_if_clones_equal (λ x y h. h)) in
    let table : c.match-question.result ≡ table_entries_asked c.args.question (rows_in c.args.matches.now) =
    elim c.match-question.branch [
      | in-BestMove w ↦ elim w.in-BestMove.is [
        | inl best ↦ rw (best, w.result-is) w.table_entries.ensures.number
        | inr values ↦ rw (values, w.result-is) w.table_entries.ensures.number
      ]
      | in-Steps w ↦ rw (w.in-Steps.is, w.result-is) refl
    ] in
    rw (table, c.worker_count.ensures.number, files, c.is_set.ensures) refl

pub returns-clause-range : goal.returns-clause-range
returns-clause-range c =
    let names = values_are (found_of c.args.matches.now) (codes "file") c.get_strs.ensures c.unwrap.ensures
    (c.in_ok-to_vec.ensures.items_if_clones_equal (λ x y h. h)) in
    let file = value_given (codes "file") c.requires (takes_files c.args.question).1 refl in
    let count : length (map (λ f. f.now) c.in_ok-to_vec.field-0.items) ≡ suc (length file.more) =
    ap (λ o. length (unwrap_or o [])) (sym names ∙ file.all) in
    let table : IsTableSize c.match-question.result = elim c.match-question.branch [
      | in-BestMove w ↦ rw w.result-is w.table_entries.ensures.range
      | in-Steps w ↦ rw w.result-is (omega arith, omega arith)
    ] in
    (c.worker_count.ensures.range, table, omega (arith, simp length-map at count))
