-- Bytes past those that are kept change nothing.
use Rattle.std.proofs.{Common.{◌∷◌, [], ◌++◌, ◌∙◌, sym, ap, arith, length, length-append, take}, lemmas.List.{length-take-le, take_all, take-append-le, take_more_set}}
use Rattle.kalah_jobs.specs.{kept_bytes}
use Rattle.kalah_jobs.proofs.asking.line_head.LineHead.push.Goals as goal

pub returns-then-self-lt-KEPT_BYTES : goal.returns-then-self-lt-KEPT_BYTES
returns-then-self-lt-KEPT_BYTES c =
    let head = take c.self.inside.len c.self.inside.bytes in
    let short = c.if-self-lt-KEPT_BYTES.true in
    let kept = length-take-le c.self.inside.len c.self.inside.bytes (omega (arith, c.self.invariant)) in
    let size = length-append head (c.args.byte ∷ []) in
    take_more_set c.self.inside.bytes c.self.inside.len c.args.byte (omega (arith, c.self.invariant))
    ∙ sym (take_all kept_bytes (head ++ c.args.byte ∷ []) (omega arith))
    ∙ ap (λ l. take kept_bytes (l ++ c.args.byte ∷ [])) c.self.view_is

pub returns-else-self-lt-KEPT_BYTES : goal.returns-else-self-lt-KEPT_BYTES
returns-else-self-lt-KEPT_BYTES c =
    let full = c.if-self-lt-KEPT_BYTES.false in
    let kept = length-take-le c.self.inside.len c.self.inside.bytes (omega (arith, c.self.invariant)) in
    let size = ap length c.self.view_is in
    sym (take-append-le kept_bytes c.args.self.now (c.args.byte ∷ []) (omega arith)
    ∙ take_all kept_bytes c.args.self.now (omega (arith, c.self.invariant)))
