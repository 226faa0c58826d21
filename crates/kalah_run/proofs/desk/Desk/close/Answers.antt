-- Each pass that is joined adds its row to those of the closing seat. With all joined, the last word says which numbers the rows hold.
use Rattle.std.proofs.{Common.{rules, List, [], ◌∷◌, ◌++◌, ◌≡◌, Some, sym, ap, ◌∙◌}, lemmas.List.{length-map, map-append, append_assoc, Elements.{All-pop}}}
use Rattle.kalah_run.specs.{PassState, drawn_rows, Desk.Protocol.{rows_in}, declared.desk.protocol.DeskView.TheVariants.{Closing}}
use Rattle.kalah_run.proofs.DeskLemmas.{Determines, rows_at_end, start_closing_is_lawful}
use Rattle.kalah_run.proofs.desk.Desk.close.Goals as goal

-- no pass is left, so the seat has the rows of all
closed : (c : goal.After-drop-rest) → c.loop-pass.closer.me.0 ≡ Closing (drawn_rows c.args.passes.items)
closed c =
    let none : c.loop-pass.rest.items ≡ [] = search rules in
    c.loop-pass.invariant.closing
    ∙ ap Closing (ap (λ l. drawn_rows l ++ rows_in c.loop-pass.closer.me.0) (sym none) ∙ c.loop-pass.invariant.rows)

-- the last word, and the rows
last : (c : goal.After-drop-rest) → Determines c.word-word.result c.self.inside.table.shared.key.total (drawn_rows c.args.passes.items)
last c = rows_at_end _ _ (closed c) c.close_with-closed.ensures.values.2
    (length-map c.args.passes.items (λ p. p.row) ∙ c.requires.all ∙ sym (ap (λ d. d.passes) c.self.view_is)) c.word-word.ensures

pub returns-clause-deals : goal.returns-clause-deals
returns-clause-deals c = rw (c.min.ensures, ← ap (λ d. d.total) c.self.view_is, ← c.self.invariant.2) (last c).deals

pub returns-clause-spent : goal.returns-clause-spent
returns-clause-spent c = rw c.self.invariant.2 at (last c).spent

pub loop-pass-preserved : goal.loop-pass-preserved
loop-pass-preserved c =
    let left : List PassState = c.pop.new.self.items in
    let parts : c.loop-pass.rest.items ≡ left ++ c.in-Some.pass ∷ [] = c.in-Some.ensures.items in
    let past = rows_in c.loop-pass.closer.me.0 in
    let row : rows_in c.join_seat.new.seat.me.0 ≡ c.in-Some.pass.row ∷ past = search rules in
    record {
      table = search rules;
      passes = (All-pop (λ p. p.desk ≡ c.self.inside.table.shared.table_id) _ left (Some c.in-Some.pass) parts
          c.loop-pass.invariant.passes).0;
      closing = search rules;
      rows = ap (drawn_rows left ++◌) row
          ∙ sym (append_assoc (drawn_rows left) (c.in-Some.pass.row ∷ []) past)
          ∙ ap (◌++ past) (sym (map-append (λ p. p.row) left (c.in-Some.pass ∷ []))
          ∙ ap drawn_rows (sym parts))
          ∙ c.loop-pass.invariant.rows;
    }

pub load_new_seat-closer-requires : goal.load_new_seat-closer-requires
load_new_seat-closer-requires c = (search rules, start_closing_is_lawful _ _)
