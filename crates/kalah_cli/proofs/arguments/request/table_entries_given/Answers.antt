use Rattle.std.proofs.Common.{arith, codes}
use Rattle.clap.specs.Words.{found_of}
use Rattle.kalah_solve.specs.Table.Entries.{most_entries}
use Rattle.kalah_cli.proofs.RequestLemmas.{in_range, number_read}
use Rattle.kalah_cli.proofs.arguments.request.table_entries_given.Goals as goal

pub returns-clause-given : goal.returns-clause-given
returns-clause-given c =
    number_read 32 1 most_entries (found_of c.args.matches.now) (codes "table") c.get_one.ensures.none
    c.get_one.ensures.value c.requires (omega arith)

pub returns-clause-range : goal.returns-clause-range
returns-clause-range c = rw (returns-clause-given c) (in_range _ _ _ c.requires)
