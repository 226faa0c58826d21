-- A move on houses without stores.
use Rattle.std.specs.Prelude.{ℕ, Bool, if◌then◌else◌, ◌+◌, sum}
use Rattle.kalah_rules.specs.{Position.{Position, HousesState, houses_in, storeless, is_over, swapped}, Sowing.{after, moves_again}}
pub use Rattle.kalah_rules.specs.declared.step.HousesStep.{HousesStep}
pub use Rattle.kalah_rules.specs.declared.step.HousesStep.TheVariants.{Over, Again, Turn}

-- what a position after a move leads to, from empty stores: what each player has if the game is over, otherwise what came to
-- the mover's store, with the houses seen by the player who moves next
abbrev pub houses_step_to : Position → Bool → HousesStep
houses_step_to q again =
    if is_over q then Over (q.own_store + sum q.own) (q.other_store + sum q.other) else
    (if again then Again q.own_store (houses_in q) else Turn q.own_store (houses_in (swapped q)))

-- what the move of house h leads to
abbrev pub houses_step : HousesState → ℕ → HousesStep
houses_step a h = houses_step_to (after (storeless a) h) (moves_again (storeless a) h)
