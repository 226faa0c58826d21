use Rattle.std.proofs.Common.{◌≡◌, [], Some}
use Rattle.kalah_cli.proofs.KnownLemmas.{answers_what_is_known}
use Rattle.kalah_cli.proofs.run.tests.known.run_over.Goals as goal

pub returns : goal.returns
returns g c =
    let before : Some c.new-out.result.writer.items ≡ Some [] = cc (c.new-out.ensures.writer, c.new.ensures.items) in
    let after : Some c.run_words-status.new.out.writer.items ≡ Some c.into_inner.result.items = cc c.into_inner.ensures in
    answers_what_is_known c.args.disk.now c.args.input.now before after c.run_words-status.ensures.accepted
