use Rattle.std.proofs.Common.{◌≡◌, ◌==◌, ◌∙◌, ℕ, List, [], ◌∷◌, false, ap, length, refl, sym}
use Rattle.kalah_jobs.{specs.{last_reply, reply, Question}, proofs.SinkLemmas.{given_then_flush}}
use Rattle.kalah_jobs.proofs.asking.reply.write_last_reply.Goals as goal

-- bytes after the last line feed are answered as a line
last_is_line : (question : Question) (line : List ℕ) → false ≡ (length line == 0) → reply question line ≡ last_reply question line
last_is_line question [] some = absurd (cc some)
last_is_line question (byte ∷ line) some = refl

pub returns-clause-given : goal.returns-clause-given
returns-clause-given g c =
    let some = sym c.if-is_empty.false ∙ c.is_empty.ensures ∙ ap (λ (bytes : List ℕ). length bytes == 0) c.bytes.ensures in
    given_then_flush _ (rw (last_is_line c.args.question c.args.line.now some) at c.write_reply-is_read.ensures.given)
    c.flush_unless_failed-2.ensures.given
