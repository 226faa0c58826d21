use Rattle.std.proofs.Common.{arith}
use Rattle.clap.specs.Words.{found_of}
use Rattle.kalah_cli.proofs.RequestLemmas.{number_read}
use Rattle.kalah_cli.proofs.arguments.request.byte_given.Goals as goal

pub returns : goal.returns
returns c =
    number_read 8 0 255 (found_of c.args.matches.now) c.args.id.now c.get_one.ensures.none c.get_one.ensures.value c.requires (omega arith)
