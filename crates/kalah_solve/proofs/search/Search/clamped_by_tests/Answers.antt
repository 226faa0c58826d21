-- What is won gives the worth in the narrowed window (`found`), and that the worth in the window that was asked for.
use Rattle.std.proofs.{Common.{refl, rules, ◌≡◌, ◌∙◌, w8, w32, to_z, of_z, SFits}, lemmas.Int.{to_z-of_z}}
use Rattle.kalah_solve.specs.{clamped, houses_worth}
use Rattle.kalah_solve.proofs.{BoundsLemmas.{worth_low, worth_high, clamped_within, worth_by_bounds}, search.Search.clamped_by_tests.Given.{Over}}
use Rattle.kalah_solve.proofs.search.Search.clamped_by_tests.Goals as goal

pub interval_of-requires : goal.interval_of-requires
interval_of-requires g c =
    let within = clamped_within _ _ _ c.in-Some.narrow.ordered in
    rw (to_z-of_z w32 c.clamp-answer.result (search rules), c.clamp-answer.ensures) (record { least = within.0; most = within.1 })

-- the answer is the worth in the window
found : (g : Over) (c : goal.After-intersection g)
    → to_z w32 (of_z w32 c.clamp-answer.result) ≡ clamped c.in-Some.narrow.lo c.in-Some.narrow.hi (houses_worth c.args.houses.now)
found g c =
    let seeds = c.seeds-seeds.ensures in
    to_z-of_z w32 c.clamp-answer.result (search rules) ∙ rw (to_z-of_z w32 c.margin_of.result (search rules)) at c.clamp-answer.ensures
    ∙ worth_by_bounds _ _ c.of_window.result seeds.limits seeds.seeds c.of_window.ensures.ordered c.of_window.ensures.apart
    c.won_within-won.ensures c.margin_of.ensures

pub learn_margins-requires : goal.learn_margins-requires
learn_margins-requires g c =
    let limits = c.seeds-seeds.ensures.limits in
    let worth = houses_worth c.args.houses.now in
    (c.intersection.ensures worth).1 (
      c.interval_of.ensures.held worth (worth_low limits) (worth_high limits) (found g c),
      c.known_margins-known.ensures,
    )

pub returns : goal.returns
returns g c = found g c.before ∙ c.in-Some.ensures.some (houses_worth c.args.houses.now) c.known_margins-known.ensures

pub returns-in_default : goal.returns-in_default
returns-in_default g c =
    let lo_fits : SFits w8 c.known_margins-known.result.lo = search rules in
    to_z-of_z w32 c.clamp.result (search rules)
    ∙ simp (to_z-of_z w32 c.known_margins-known.result.lo (search (rules, lo_fits)), to_z-of_z w8 _ lo_fits) at c.clamp.ensures
    ∙ c.in_default.ensures.none refl _ c.known_margins-known.ensures
