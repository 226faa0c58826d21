-- How houses are represented, by a distinct number for each value; no part of what is promised to players.
use Rattle.std.specs.Prelude.{ℕ, zero, suc, ◌+◌, ◌*◌, ◌/◌, ◌%◌, ◌^◌, ◌==◌, List, [], ◌∷◌, length, if◌then◌else◌}
use Rattle.kalah_rules.specs.{declared.rule.Rule.{Rule, TheVariants.{Classic, EmptyCapture}}, Position.{HousesState}, Cells.{CanBeHouses, houses_from}}

-- a row as a number, with five bits for each house, house 1 lowest
abbrev pub packed_row : List ℕ → ℕ
packed_row [] = 0
packed_row (x ∷ xs) = x + 32 * packed_row xs

-- the lowest n cells of a number, of five bits each
abbrev pub cells : ℕ → ℕ → List ℕ
cells zero k = []
cells (suc n) k = (k % 32) ∷ cells n (k / 32)

-- the bit that stands for a rule
abbrev pub rule_bit : Rule → ℕ
rule_bit Classic = 0
rule_bit EmptyCapture = 1

-- both rows as a number, the own row lowest
abbrev pub packed_rows : HousesState → ℕ
packed_rows a = packed_row a.own + 2 ^ 30 * packed_row a.other

-- own houses from bit 0, other houses from bit 30, the houses per side from bit 60, the rule at bit 63
abbrev pub key_of : HousesState → ℕ
key_of a = packed_rows a + 2 ^ 60 * length a.own + 2 ^ 63 * rule_bit a.rule

-- the variant of houses: how many there are per side, and 8 more for the empty-capture rule
abbrev pub variant_of : HousesState → ℕ
variant_of a = length a.own + 8 * rule_bit a.rule

-- the houses per side that a key names
abbrev pub side_in_key : ℕ → ℕ
side_in_key k = k / 2 ^ 60 % 8

-- the rule that a key names
abbrev pub rule_in_key : ℕ → Rule
rule_in_key k = if k / 2 ^ 63 == 0 then Classic else EmptyCapture

-- a number below 2^64 is a key: it names 1 to 6 houses a side, its cells past the last house are 0, and they hold at most 31 seeds
abbrev pub IsKey : ℕ → Type 0
IsKey k = CanBeHouses (side_in_key k) (cells 6 k) (cells 6 (k / 2 ^ 30))

-- the houses whose key such a number is
abbrev pub houses_in_key : ℕ → HousesState
houses_in_key k = houses_from (side_in_key k) (cells 6 k) (cells 6 (k / 2 ^ 30)) (rule_in_key k)
