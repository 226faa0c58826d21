-- How a batch can be split over machines: by its files, and within a file between two lines.
use Rattle.std.specs.{List.{flat_map, enumerate_from}, Prelude.{◌≡◌, ℕ, ◌+◌, List, [], ◌∷◌, ◌++◌, length}}
use Rattle.kalah_jobs.specs.{Files.{Lines.{lines_of, EndsWithItsLine}, NamedBytes.{NamedBytes}}, Types.{Question, Tally}, Writing.Output.{line_output, output_of, output_for, tally_of}}

-- what two batches count together
abbrev pub counted_together : Tally → Tally → Tally
counted_together one other = record { lines = one.lines + other.lines; faults = one.faults + other.faults }

-- the output for files is the output for the first of them, followed by the output for the others; the counts of lines
-- and faults are the sums of both
pub record OutputSplitsByFiles : Type 0 where
  pub asked : (question : Question) (first others : List NamedBytes) →
      output_for question (first ++ others) ≡ output_for question first ++ output_for question others
  pub best_moves : (first others : List NamedBytes) → output_of (first ++ others) ≡ output_of first ++ output_of others
  pub counts : (first others : List NamedBytes) → tally_of (first ++ others) ≡ counted_together (tally_of first) (tally_of others)

-- what is written for the lines of some bytes of a file, if the first line has this number
abbrev pub output_from : ℕ → Question → List ℕ → List ℕ → List ℕ
output_from number question name bytes = flat_map (line_output question name) (enumerate_from number (lines_of bytes))

-- what is counted of a file with these bytes, for any name
abbrev pub tally_in : List ℕ → Tally
tally_in bytes = tally_of (record { name = []; bytes = bytes } ∷ [])

-- the lines of two parts of a file are those of the first and then those of the second, and so are their answers: the lines of
-- the second have the numbers that come after those of the first; and lines and faults are counted as in both
pub record IsSplit (first second : List ℕ) : Type 0 where
  pub lines : lines_of (first ++ second) ≡ lines_of first ++ lines_of second
  pub output : (number : ℕ) (question : Question) (name : List ℕ) →
      output_from number question name (first ++ second)
      ≡ output_from number question name first ++ output_from (number + length (lines_of first)) question name second
  pub counts : tally_in (first ++ second) ≡ counted_together (tally_in first) (tally_in second)

-- a file has its lines from number 0 on, is counted by its bytes alone, and can be cut between any two lines
pub record FilesSplitBetweenLines : Type 0 where
  pub whole : (question : Question) (file : NamedBytes) → output_for question (file ∷ []) ≡ output_from 0 question file.name file.bytes
  pub counted : (file : NamedBytes) → tally_of (file ∷ []) ≡ tally_in file.bytes
  pub parts : (first second : List ℕ) → EndsWithItsLine first → IsSplit first second
