use Rattle.std.proofs.{lemmas.Bool.{false_from_ne_true}, Common.{◌∙◌, sym}}
use Rattle.kalah_cli.proofs.{EndsLemmas.{statuses_differ}, run.end_without_request.Goals.{in-DisplayHelp, in-DisplayVersion}}
use Rattle.kalah_cli.proofs.run.end_without_request.Goals as goal

pub returns-clause-no_request : goal.returns-clause-no_request
returns-clause-no_request g c = record {
  usage = λ help version. elim c.match-kind.branch [
    | in-DisplayHelp w ↦ absurd (help (sym w.in-DisplayHelp.ensures))
    | in-DisplayVersion w ↦ absurd (version (sym w.in-DisplayVersion.ensures))
  ];
  version = λ help clean. elim c.match-kind.branch [
    | in-DisplayHelp w ↦ absurd (help (sym w.in-DisplayHelp.ensures))
    | in-DisplayVersion w ↦
        let printed = rw (← w.out-is) at w.print_text-in-DisplayVersion.ensures in
        let sound = false_from_ne_true _ (λ failed. statuses_differ.0 (sym clean ∙ c.status_of_sink.ensures.failed.0 failed)) in
        (printed.given.whole sound).1
  ];
  no_line = c.status_of_sink.ensures.no_line;
}
