use Rattle.std.proofs.Common.{refl}
use Rattle.kalah_cli.proofs.EndsLemmas.{line_answered, line_refused, line_unread}
use Rattle.kalah_cli.proofs.commands.line_command.run_line.Goals as goal

pub returns-in-Ok-print : goal.returns-in-Ok-print
returns-in-Ok-print g c =
    line_answered c.args.command.now c.in-Ok.board (rw c.as_bytes.ensures.value at c.in-Ok.ensures.reads)
    c.in-Ok-print.ensures.printed c.in-Ok-print.ensures.begins c.status_of_sink.ensures.failed c.status_of_sink.ensures.no_line

pub returns-in-Err-print : goal.returns-in-Err-print
returns-in-Err-print g c =
    line_refused c.args.command.now c.in-Ok.board (rw c.as_bytes.ensures.value at c.in-Ok.ensures.reads)
    refl c.requires.not_failed c.in-Err-print.ensures.printed

pub returns-in-Err : goal.returns-in-Err
returns-in-Err g c = line_unread c.args.command.now
    (λ p reads. let no_fault = c.in-Err.ensures.every p (rw c.as_bytes.ensures.value reads) in cc)
    refl c.requires.not_failed
