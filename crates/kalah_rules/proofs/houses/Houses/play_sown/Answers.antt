use Rattle.std.proofs.Common.{◌∙◌, sym}
use Rattle.kalah_rules.{specs.{storeless}, proofs.{PlayLemmas.{legal_holds}, PackedLemmas.{again_at}}}
use Rattle.kalah_rules.proofs.houses.Houses.play_sown.Goals as goal

pub after-requires-clause-holds : goal.after-requires-clause-holds
after-requires-clause-holds c = legal_holds _ c.requires.legal

pub step-requires-clause-again : goal.step-requires-clause-again
step-requires-clause-again c =
    let p = storeless c.args.self.now in
    c.requires.sowing.again ∙ sym (again_at p c.args.house (legal_holds _ c.requires.legal))
