use Rattle.std.proofs.{Common.{◌≡◌, ◌++◌, append-nil, ap, string_bytes, ◌∙◌}, lemmas.Result.{IfOk-weaker}}
use Rattle.kalah_jobs.{specs.{Reads, line_text_of}, proofs.LineTextLemmas.{every_text_is_read_back}}
use Rattle.kalah_jobs.proofs.writing.position_text.line_text.Goals as goal

pub returns-clause-read_back : goal.returns-clause-read_back
returns-clause-read_back c =
    let board = c.args.board.now in
    let text = line_text_of board in
    let same : c.as_str.result.now ≡ text =
    c.as_str.ensures ∙ c.prepend_board.ensures.line ∙ ap (text ++◌) c.new-text.ensures ∙ append-nil text in
    IfOk-weaker c.from_str.result (λ t. string_bytes t ≡ c.as_str.result.now) (λ t. Reads (string_bytes t) board)
    (λ t e. rw (e, same) (every_text_is_read_back board c.prepend_board.ensures.limits c.requires.own_low c.requires.other_low))
    c.from_str.ensures.ok
