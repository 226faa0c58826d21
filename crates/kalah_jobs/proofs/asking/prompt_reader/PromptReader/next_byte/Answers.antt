use Rattle.std.proofs.{Common.{arith}, KnownBytes.{Keeps-refl}, lemmas.Grind.{common_steps}}
use Rattle.kalah_jobs.proofs.asking.prompt_reader.PromptReader.next_byte.Goals as goal

pub returns-then-is_err-clause-untaken : goal.returns-then-is_err-clause-untaken
returns-then-is_err-clause-untaken g c = Keeps-refl _

pub returns-in_default-clause-end : goal.returns-in_default-clause-end
returns-in_default-clause-end g c = grind (arith, common_steps)
