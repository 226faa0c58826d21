use Rattle.kalah_jobs.proofs.LineLemmas.{no_line_reads_twice}
use Rattle.kalah_jobs.proofs.line.laws.no_line_reads_twice.Goals as goal

pub returns : goal.returns
returns c = no_line_reads_twice
