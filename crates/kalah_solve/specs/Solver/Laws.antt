-- Laws over all positions and strategies.
use Rattle.std.specs.Prelude.{◌≡◌, ◌↔◌, ℕ, ◌<◌, ◌≤◌, true, false, List, length, map, Contains, ℤ, pos, ◌+ℤ◌, ◌-ℤ◌, ◌≤ℤ◌}
use Rattle.kalah_rules.specs.{Position.{Position, HasEqualSides, is_over, final_margin, houses_in, storeless}, Play.{legal_houses}, Measure.{moves_left}}
use Rattle.kalah_solve.specs.{Solver.{Worth.{greatest, worth_within, worth, value_of_move, best_house, houses_worth}, BestPlay.{Strategy, IsStrategy, follow, Game, Secures, HoldsTo, IsBestPlay, IsBestMove}, Verdict.{StatesBestPlay}}, declared.solver.Verdict.{Verdict}}

-- a game that is over is worth its final margin
abbrev pub WorthOfOver : Type 0
WorthOfOver = (p : Position) → is_over p ≡ true → worth p ≡ final_margin p

-- any other position is worth the greatest value of a legal move
abbrev pub WorthIsGreatestValue : Type 0
WorthIsGreatestValue = (p : Position) → HasEqualSides p → is_over p ≡ false
    → worth p ≡ greatest (map (value_of_move p) (legal_houses p))

-- a position that goes on has a legal move
abbrev pub GameThatGoesOnHasMove : Type 0
GameThatGoesOnHasMove = (p : Position) → is_over p ≡ false → 0 < length (legal_houses p)

-- in plain words: some legal move gets the worth, and none gets more
pub record IsMostOfMoves (p : Position) (v : ℤ) : Type 0 where
  pub reached : (h : ℕ) × Contains (legal_houses p) h × (value_of_move p h ≡ v)
  pub most : (h : ℕ) → Contains (legal_houses p) h → value_of_move p h ≤ℤ v

abbrev pub WorthIsMostOfMoves : Type 0
WorthIsMostOfMoves = (p : Position) → HasEqualSides p → is_over p ≡ false → IsMostOfMoves p (worth p)

-- the count of moves in the definition of worth plays no part, once it is as high as the moves that are left
abbrev pub CountPlaysNoPart : Type 0
CountPlaysNoPart = (p : Position) (n : ℕ) → HasEqualSides p → moves_left p ≤ n → worth_within n p ≡ worth p

-- the best house is the lowest-numbered legal house whose value is the worth
pub record IsLowestBest (p : Position) (house : ℕ) : Type 0 where
  pub is_legal : Contains (legal_houses p) house
  pub attains : value_of_move p house ≡ worth p
  pub lowest : (h : ℕ) → Contains (legal_houses p) h → value_of_move p h ≡ worth p → house ≤ h

abbrev pub BestHouseIsLowest : Type 0
BestHouseIsLowest = (p : Position) → HasEqualSides p → is_over p ≡ false → IsLowestBest p (best_house p)

-- the worth of a position is what the stores differ by, and the worth of its houses with empty stores
abbrev pub StoresShiftWorth : Type 0
StoresShiftWorth = (p : Position) → worth p ≡ pos p.own_store -ℤ pos p.other_store +ℤ houses_worth (houses_in p)

-- the best house does not depend on the stores
abbrev pub StoresKeepBestHouse : Type 0
StoresKeepBestHouse = (p : Position) → best_house p ≡ best_house (storeless (houses_in p))

-- two strategies play a game to its end
abbrev pub StrategiesPlayAGame : Type 0
StrategiesPlayAGame = (mine theirs : Strategy) → IsStrategy mine → IsStrategy theirs → (p : Position) → HasEqualSides p →
    (houses : List ℕ) × (final : Position) × Game (follow mine) (follow theirs) p houses final

-- two strategies play only one game
abbrev pub StrategiesPlayOneGame : Type 0
StrategiesPlayOneGame = (mine theirs : Strategy) (p : Position) (houses others : List ℕ) (final other : Position) →
    Game (follow mine) (follow theirs) p houses final → Game (follow mine) (follow theirs) p others other → (houses ≡ others)
    × (final ≡ other)

-- a game by the rules ends in a position that is over, after no more moves than are left
pub record EndsInTime (p : Position) (houses : List ℕ) (final : Position) : Type 0 where
  pub over : is_over final ≡ true
  pub short : length houses ≤ moves_left p

abbrev pub GamesEnd : Type 0
GamesEnd = (p : Position) (houses : List ℕ) (final : Position) → HasEqualSides p → Game legal_houses legal_houses p houses final →
    EndsInTime p houses final

-- the worth of a position is its margin of best play
abbrev pub WorthIsBestPlay : Type 0
WorthIsBestPlay = (p : Position) → HasEqualSides p → IsBestPlay p (worth p)

-- there is no other margin of best play
abbrev pub BestPlayIsOne : Type 0
BestPlayIsOne = (p : Position) (v w : ℤ) → HasEqualSides p → IsBestPlay p v → IsBestPlay p w → v ≡ w

-- always moving the lowest-numbered best house is a strategy, and the best for either side in every position
pub record BestHouseIsBestPlay : Type 0 where
  pub is_strategy : IsStrategy best_house
  pub secures : (p : Position) → HasEqualSides p → Secures best_house p (worth p)
  pub holds : (p : Position) → HasEqualSides p → HoldsTo best_house p (worth p)

-- the game of two strategies ends with at least v for the player to move, or with at most v
abbrev pub EndsWithAtLeast : Strategy → Strategy → Position → ℤ → Type 0
EndsWithAtLeast mine theirs p v = (houses : List ℕ) × (final : Position) × Game (follow mine) (follow theirs) p houses final
    × (v ≤ℤ final_margin final)

abbrev pub EndsWithAtMost : Strategy → Strategy → Position → ℤ → Type 0
EndsWithAtMost mine theirs p v = (houses : List ℕ) × (final : Position) × Game (follow mine) (follow theirs) p houses final
    × (final_margin final ≤ℤ v)

-- either player has a strategy that gets the worth or better against each strategy of the other
pub record BestPlayAgainstStrategies : Type 0 where
  pub secured : (p : Position) → HasEqualSides p →
      (mine : Strategy) × IsStrategy mine × ((theirs : Strategy) → IsStrategy theirs → EndsWithAtLeast mine theirs p (worth p))
  pub held : (p : Position) → HasEqualSides p →
      (theirs : Strategy) × IsStrategy theirs × ((mine : Strategy) → IsStrategy mine → EndsWithAtMost mine theirs p (worth p))

-- the best moves are the legal houses whose value is the worth
abbrev pub BestMovesAttain : Type 0
BestMovesAttain = (p : Position) (h : ℕ) → HasEqualSides p →
    IsBestMove p h (worth p) ↔ (Contains (legal_houses p) h × (value_of_move p h ≡ worth p))

-- only one verdict states best play
abbrev pub BestVerdictIsOne : Type 0
BestVerdictIsOne = (p : Position) (v w : Verdict) → HasEqualSides p → StatesBestPlay p v → StatesBestPlay p w → v ≡ w
