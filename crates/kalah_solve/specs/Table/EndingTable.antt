-- How endings are represented, in words; no part of what is promised to players.
use Rattle.std.specs.Prelude.{◌≡◌, ℕ, ◌+◌, ◌*◌, ◌/◌, ◌%◌, ◌^◌, ◌<◌, ◌≤◌, ◌≢◌, suc, List, length, slice_index}
use Rattle.kalah_rules.specs.{Position.{HousesState, total_seeds, AreWithinLimits}, Key.{rule_bit}}
use Rattle.kalah_solve.specs.{Table.RowRank.{choose, rank_of_houses}, declared.table.ending_table.{TheConstants.{MOST_ENDING_SEEDS, COUNTS, CELLS_OF_PAIR}, words.TheConstants.{FIRST_WORDS, RULE_WORDS}}, Bounds.Won.{won}}

-- the most seeds of an ending
abbrev pub most_ending_seeds : ℕ
most_ending_seeds = MOST_ENDING_SEEDS

-- houses with so few seeds are an ending
abbrev pub IsEnding : HousesState → Type 0
IsEnding a = total_seeds a ≤ most_ending_seeds

-- cell k of the binomials: the number of ways to choose j + 1 of s + j things (a binomial coefficient), where k is COUNTS * j + s
abbrev pub binomial_at : ℕ → ℕ
binomial_at k = choose (k % COUNTS + k / COUNTS) (suc (k / COUNTS))

-- the first n cells hold that
abbrev pub AreBinomials : ℕ → List ℕ → Type 0
AreBinomials n binomials = (k : ℕ) → k < n → slice_index binomials k ≡ binomial_at k

-- cell k of the pairs: what two cells of a row add to its rank, with `past` pairs past them and given numbers of seeds from
-- either on, where k is CELLS_OF_PAIR * past + 32 * from the second on + from the first on
abbrev pub pair_at : ℕ → ℕ
pair_at k = choose (k % 32 + 2 * (k / CELLS_OF_PAIR) + 1) (2 * (k / CELLS_OF_PAIR) + 2)
    + choose (k / 32 % COUNTS + 2 * (k / CELLS_OF_PAIR)) (2 * (k / CELLS_OF_PAIR) + 1)

-- the first n cells hold that, if there are few seeds
abbrev pub ArePairs : ℕ → List ℕ → Type 0
ArePairs n pairs = (k : ℕ) → k < n → k % 32 < COUNTS → slice_index pairs k ≡ pair_at k

-- The index of the word of an ending. First come the variants of the classic rule, those of fewer houses first. Within a variant sixteen
-- endings with consecutive ranks share a word.
abbrev pub word_index : HousesState → ℕ
word_index a = slice_index FIRST_WORDS (length a.own) + RULE_WORDS * rule_bit a.rule + rank_of_houses a / 16

-- a word stores in four bits, for each ending of it, nothing or one more than the mover wins
abbrev pub stored_at : ℕ → ℕ → ℕ
stored_at word at = word / 2 ^ (4 * at) % 16

-- what word i states is what the mover wins
unfoldable pub HoldsWon : ℕ → ℕ → Type 0
HoldsWon i word = (a : HousesState) → AreWithinLimits a → IsEnding a → word_index a ≡ i → stored_at word (rank_of_houses a % 16) ≢ 0 →
    stored_at word (rank_of_houses a % 16) ≡ suc (won a)

-- each word states what is true
abbrev pub AreTrueWords : List ℕ → Type 0
AreTrueWords words = (i : ℕ) → HoldsWon i (slice_index words i)
