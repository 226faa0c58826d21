-- A parse without a fault enters a subcommand. Two getters return its name and its rows, which are those of the parse.
use Rattle.std.proofs.{Common.{◌∙◌, ap, map, refl, sym, option_and_then}, lemmas.Result.{IfOk-weaker}}
use Rattle.clap.proofs.{CallerLemmas.{some_of_text}, FaultLemmas.{failed_up, fails_by_memory}}
use Rattle.kalah_cli.specs.{AreMatches, IsAcceptedAs, rows_in, task_of, task_of_matches}
use Rattle.kalah_cli.proofs.{RequestLemmas.{faulty, pair_got, parsed}, arguments.request.parse.{Goals.{After-unwrap}, Given.{Over}}}
use Rattle.kalah_cli.proofs.arguments.request.parse.Goals as goal

pub unwrap-requires : goal.unwrap-requires
unwrap-requires g c =
    let read = parsed c.in_ok-command.ensures c.in_ok-parsed.ensures.kinds c.in_ok-parsed.ensures.matches in
    c.subcommand.ensures.variant ∙ some_of_text _ _ _ refl read.entered

-- the arguments that were parsed, without a fault
matched : (g : Over) (c : After-unwrap g) → AreMatches c.unwrap.result.0.now (rows_in c.unwrap.result.1.now)
matched g c =
    let read = parsed c.in_ok-command.ensures c.in_ok-parsed.ensures.kinds c.in_ok-parsed.ensures.matches in
    let same = pair_got _ _ _ _ _ c.subcommand.ensures.name c.subcommand.ensures.rows c.unwrap.ensures in
    (map g.S.AsStr.text c.args.arguments.now, read.no_fault, sym read.matches ∙ same)

pub requested-requires : goal.requested-requires
requested-requires g c = matched g (goal.at.requested-requires g c).After-unwrap

pub returns-clause-accepted : goal.returns-clause-accepted
unfolding matched
returns-clause-accepted g c =
    let matches = matched g (goal.at.returns-clause-accepted g c).After-unwrap in
    IfOk-weaker c.requested.result _ (λ r. IsAcceptedAs (map g.S.AsStr.text c.args.arguments.now) (task_of r))
    (λ r asked. (matches.1, ap (option_and_then task_of_matches) matches.2 ∙ asked)) c.requested.ensures.asked

pub returns-clause-kinds : goal.returns-clause-kinds
unfolding matched
returns-clause-kinds g c =
    let matches = matched g (goal.at.returns-clause-kinds g c).After-unwrap in
    fails_by_memory c.requested.result _ matches.1 c.requested.ensures.memory

pub returns-in_err-parsed-clause-kinds : goal.returns-in_err-parsed-clause-kinds
returns-in_err-parsed-clause-kinds g c =
    failed_up _ _ _ _ c.from_residual-in_err-parsed.ensures.1
    (faulty _ _ c.in_err-parsed.field-0.0 c.in_ok-command.ensures c.in_err-parsed.ensures.kinds)
