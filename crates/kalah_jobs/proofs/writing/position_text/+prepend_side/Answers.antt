use Rattle.std.proofs.Common.{arith}
use Rattle.kalah_jobs.{specs.{houses_of, store_of}, proofs.TextLemmas.{side_before, length-houses_of}}
use Rattle.kalah_jobs.proofs.writing.position_text.+prepend_side.Goals as goal

pub returns-clause-side : goal.returns-clause-side
returns-clause-side t c =
    let player = c.args.player in
    let board = c.args.board.now in
    side_before (houses_of player board) (store_of player board) c.args.i _
    (omega (arith, length-houses_of player board c.m-m.ensures.limits)) c.seeds-seeds.ensures c.prepend_side.ensures.side
    c.prepend-2.ensures.piece c.prepend_u8-2.ensures.number
