use Rattle.std.proofs.KnownBytes.{Keeps-trans}
use Rattle.kalah_jobs.proofs.asking.prompt_reader.read_ahead.Goals as goal

pub loop-preserved : goal.loop-preserved
loop-preserved g c = Keeps-trans _ _ _ c.loop.invariant c.fill_buf.follows.holds-at-none.0

pub returns-in-Err-2-clause-keeps : goal.returns-in-Err-2-clause-keeps
returns-in-Err-2-clause-keeps g c = Keeps-trans _ _ _ c.loop.invariant c.fill_buf.follows.holds-at-none.0
