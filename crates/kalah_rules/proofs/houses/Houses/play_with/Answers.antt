use Rattle.std.proofs.Common.{arith, ◌∙◌, ◌≡◌}
use Rattle.kalah_rules.{specs.{seeds, storeless}, proofs.{PlayLemmas.{legal_holds}, KeyLemmas.{read_seeds}}}
use Rattle.kalah_rules.proofs.houses.Houses.play_with.Goals as goal

pub get-requires-clause-last : goal.get-requires-clause-last
get-requires-clause-last c = omega (arith, (legal_holds (storeless c.args.self.now) c.requires).last)

pub play_sown-requires-clause-sowing : goal.play_sown-requires-clause-sowing
play_sown-requires-clause-sowing c =
    let holds = legal_holds (storeless c.args.self.now) c.requires in
    let count : c.seeds_at-count.result ≡ seeds c.args.self.now.own c.args.house =
    rw c.own_row.ensures.value at c.seeds_at-count.ensures ∙ read_seeds _ _ (omega (arith, holds.last)) (omega arith) in
    rw (← count, ← c.m.ensures.side) c.get.ensures
