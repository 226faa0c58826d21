use Rattle.std.proofs.Common.{◌∙◌}
use Rattle.clap.specs.Words.{found_of}
use Rattle.kalah_cli.proofs.RequestLemmas.{flag_read}
use Rattle.kalah_cli.proofs.arguments.request.is_set.Goals as goal

pub returns : goal.returns
returns c = c.unwrap_or.ensures
    ∙ flag_read _ (found_of c.args.matches.now) c.args.id.now c.get_one.ensures.none c.get_one.ensures.value
