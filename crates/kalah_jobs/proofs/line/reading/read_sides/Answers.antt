-- What was read of both sides and the suffix is the text of one position, and a number of at most two digits keeps its limit.
use Rattle.std.proofs.{Common.{◌≡◌, ◌∷◌, ◌-◌, arith, drop, length, refl, sym, take}, lemmas.Grind.{common_steps}}
use Rattle.kalah_rules.specs.Position.{Position}
use Rattle.kalah_jobs.specs.{space}
use Rattle.kalah_jobs.proofs.{LineLemmas.{sides_are_read, line_is_written}, SideLemmas.{houses_are_some, number_at_most_99, rest_is_no_longer}}
use Rattle.kalah_jobs.proofs.line.reading.read_sides.Goals as goal

pub read-requires-2 : goal.read-requires-2
read-requires-2 c = grind (arith, common_steps, c.requires, rest_is_no_longer c.args.text.now c.in_ok-own.ensures.read.read)

pub returns-clause-read : goal.returns-clause-read
returns-clause-read c =
    let own = c.in_ok-own.ensures.read in
    let other = c.in_ok-other.ensures.read in
    let rest = c.in_ok-own.rest.now in
    let space_next : rest ≡ space ∷ take (length rest - 1) (drop 1 rest) = grind (arith, common_steps) in
    let p : Position = record {
      own = own.houses;
      own_store = c.in_ok-own.own.store;
      other = other.houses;
      other_store = c.in_ok-other.other.store;
      rule = c.in_ok-rule.rule;
    } in
    let written = sides_are_read c.args.text.now own.read space_next other.read (sym c.in_ok-rule.ensures) in
    let form = line_is_written c.args.text.now p written in (
      p,
      (
        c.board_of.ensures p (record {
          own_houses = own.are_kept;
          own_store = refl;
          other_houses = other.are_kept;
          other_store = refl;
          same_rule = refl;
          some_house = houses_are_some form.own_side.houses_text p.own form.own_side.houses_written;
          own_store_few = number_at_most_99 form.own_side.store_text p.own_store form.own_side.store_written;
          other_store_few = number_at_most_99 form.other_side.store_text p.other_store form.other_side.store_written;
        }),
        written,
      ),
    )
