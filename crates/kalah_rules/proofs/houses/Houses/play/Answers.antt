-- A legal house is one of 1 to m, as each call requires.
use Rattle.std.proofs.Common.{arith}
use Rattle.kalah_rules.{specs.{storeless}, proofs.PlayLemmas.{legal_holds}}
use Rattle.kalah_rules.proofs.houses.Houses.play.Goals as goal

pub own-requires : goal.own-requires
own-requires c =
    let holds = legal_holds (storeless c.args.self.now) c.requires in
    record { low = holds.first; high = holds.last }

pub new-sowing-requires-clause-first : goal.new-sowing-requires-clause-first
new-sowing-requires-clause-first c = (legal_holds (storeless c.args.self.now) c.requires).first

pub new-sowing-requires-clause-last : goal.new-sowing-requires-clause-last
new-sowing-requires-clause-last c = omega (arith, (legal_holds (storeless c.args.self.now) c.requires).last)

pub new-requires-clause-first : goal.new-requires-clause-first
new-requires-clause-first c = (legal_holds (storeless c.args.self.now) c.requires).first

pub new-requires-clause-last : goal.new-requires-clause-last
new-requires-clause-last c = omega (arith, (legal_holds (storeless c.args.self.now) c.requires).last)
