use Rattle.std.specs.Io.{Buffered.{reader_remaining}, KnownBytes.{Keeps}}
use Rattle.kalah_jobs.proofs.asking.prompt_reader.read_ahead.Given as goal

-- the reader has left what it had
abbrev pub invariant-loop : goal.invariant-loop
invariant-loop g l = Keeps (reader_remaining g.I.Read.remaining l.fn.input) (reader_remaining g.I.Read.remaining l.input)
