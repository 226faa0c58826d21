-- The files are those of the names, so a batch answers their lines; its tally says whether one has a fault.
use Rattle.std.proofs.{Common.{map, refl}, lemmas.Bool.{false_from_ne_true}}
use Rattle.kalah_cli.specs.{AreFilesOf}
use Rattle.kalah_cli.proofs.EndsLemmas.{files_answered, files_failed, files_refused, statuses_differ}
use Rattle.kalah_cli.proofs.commands.files.run_files.Goals.{else-tally-eq0, then-tally-eq0}
use Rattle.kalah_cli.proofs.commands.files.run_files.Goals as goal

pub returns-in-Err : goal.returns-in-Err
returns-in-Err g c = files_refused refl c.requires.not_failed

pub returns-in-Err-answered : goal.returns-in-Err-answered
returns-in-Err-answered g c =
    files_failed c.as_slice-files.result.now (rw c.as_slice-files.ensures.value (rw c.as_slice.ensures.value at c.in-Ok.ensures.files)) _
    c.in-Err-answered.ensures.answers refl c.requires.not_failed

pub returns : goal.returns
returns g c =
    let read : AreFilesOf (g.R.Sources.may_give c.args.rt.now) (map (λ name. name.now) c.args.request.now.names.items) c.as_slice-files.result.now =
    rw c.as_slice-files.ensures.value (rw c.as_slice.ensures.value at c.in-Ok.ensures.files) in
    let no_line_feed = false_from_ne_true _ (λ found. cc ((rw c.as_slice.ensures.value at c.in-Ok.ensures.line_feed).1 found)) in
    let answers = c.in-Ok-answered.ensures.answers in
    elim c.if-tally-eq0.branch [
      | then-tally-eq0 w ↦ rw w.status-is (files_answered _ read answers no_line_feed statuses_differ.0
          ((λ _. w.if-tally-eq0.true), (λ _. refl)))
      | else-tally-eq0 w ↦ rw w.status-is (files_answered _ read answers no_line_feed statuses_differ.1
          ((λ clean. absurd (statuses_differ.2 clean)), (λ none. absurd (w.if-tally-eq0.false none))))
    ]
