-- What best play is: strategies, the games that are played, and the margin that each side can secure.
use Rattle.std.specs.Prelude.{◌≡◌, ℕ, true, false, List, [], ◌∷◌, Contains, ℤ, neg_ℤ, ◌≤ℤ◌}
use Rattle.kalah_rules.specs.{Position.{Position, HasEqualSides, is_over, final_margin, swapped}, Sowing.{after, moves_again}, Play.{legal_houses}}

-- a strategy: the house that a player moves at each position in which it is that player's turn
abbrev pub Strategy : Type 0
Strategy = Position → ℕ

-- it keeps to the rules: it moves a legal house if the game goes on
pub record IsStrategy (s : Strategy) : Type 0 where
  pub moves : (p : Position) → HasEqualSides p → is_over p ≡ false → Contains (legal_houses p) (s p)

-- a policy: the houses that a player may choose from at each position. A player whom the rules alone bind chooses from
-- `legal_houses`, and may remember and change plans; one who follows a strategy has no choice
abbrev pub Policy : Type 0
Policy = Position → List ℕ

abbrev pub follow : Strategy → Policy
follow s p = s p ∷ []

-- a game from p, in which the player to move plays by the policy `mine` and the opponent by `theirs`: the houses that are
-- moved, in order, and the position at the end, seen by the player who is to move at p
pub data Game : Policy → Policy → Position → List ℕ → Position → Type 0 where
  is_at_end : {mine theirs : Policy} {p : Position} → is_over p ≡ true → Game mine theirs p [] p
  moves_on : {mine theirs : Policy} {p : Position} {h : ℕ} {houses : List ℕ} {final : Position} →
      is_over p ≡ false → Contains (mine p) h → moves_again p h ≡ true →
      Game mine theirs (after p h) houses final → Game mine theirs p (h ∷ houses) final
  passes_turn : {mine theirs : Policy} {p : Position} {h : ℕ} {houses : List ℕ} {final : Position} →
      is_over p ≡ false → Contains (mine p) h → moves_again p h ≡ false →
      Game theirs mine (swapped (after p h)) houses final → Game mine theirs p (h ∷ houses) (swapped final)

-- each game in which the player to move follows `mine` ends with at least v for that player, for any play of the opponent
abbrev pub Secures : Strategy → Position → ℤ → Type 0
Secures mine p v = (houses : List ℕ) (final : Position) → Game (follow mine) legal_houses p houses final → v ≤ℤ final_margin final

-- each game in which the opponent follows `theirs` ends with at most v for the player to move, for any play of that player
abbrev pub HoldsTo : Strategy → Position → ℤ → Type 0
HoldsTo theirs p v = (houses : List ℕ) (final : Position) → Game legal_houses (follow theirs) p houses final
    → final_margin final ≤ℤ v

-- v is the margin of best play: the player to move has a strategy that secures it, and the opponent one that allows no more
pub record IsBestPlay (p : Position) (v : ℤ) : Type 0 where
  pub secured : (mine : Strategy) × IsStrategy mine × Secures mine p v
  pub held : (theirs : Strategy) × IsStrategy theirs × HoldsTo theirs p v

-- v is what the move of house h gets in best play, and no more: the margin of best play of the position after it, seen by the player
-- who moved. That of a game that is over is its final margin
pub record IsWorthOfMove (p : Position) (h : ℕ) (v : ℤ) : Type 0 where
  pub again : moves_again p h ≡ true → IsBestPlay (after p h) v
  pub turn : moves_again p h ≡ false → IsBestPlay (swapped (after p h)) (neg_ℤ v)

-- house h is a best move: it may be moved, and gets the margin of best play
pub record IsBestMove (p : Position) (h : ℕ) (v : ℤ) : Type 0 where
  pub best_play : IsBestPlay p v
  pub legal : Contains (legal_houses p) h
  pub worth : IsWorthOfMove p h v
