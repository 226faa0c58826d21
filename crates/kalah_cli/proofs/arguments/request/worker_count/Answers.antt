use Rattle.std.proofs.Common.{◌∙◌, ap, arith, codes, unwrap_or}
use Rattle.clap.specs.Words.{found_of}
use Rattle.kalah_run.specs.Limits.{IsWorkerCount, most_workers}
use Rattle.kalah_cli.{specs.{default_workers}, proofs.RequestLemmas.{in_range, number_read, or_default}}
use Rattle.kalah_cli.proofs.arguments.request.worker_count.Goals as goal

pub returns-clause-number : goal.returns-clause-number
returns-clause-number c = c.unwrap_or.ensures ∙ ap (λ o. unwrap_or o default_workers)
    (number_read 32 1 most_workers (found_of c.args.matches.now) (codes "workers") c.get_one.ensures.none
    c.get_one.ensures.value c.requires (omega arith))

pub returns-clause-range : goal.returns-clause-range
returns-clause-range c =
    rw (returns-clause-number c) (or_default IsWorkerCount _ default_workers (in_range _ _ _ c.requires) (omega arith, omega arith))
