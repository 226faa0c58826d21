-- The lines of a file: its pieces between line feeds.
use Rattle.std.specs.{List.{flat_map, onto_first}, Prelude.{◌≡◌, ◌≢◌, ◌⊎◌, ◌==◌, if◌then◌else◌, ℕ, List, [], ◌∷◌, ◌++◌, All}}

-- the byte that ends a line
abbrev pub line_feed : ℕ
line_feed = 10

-- none of the bytes ends a line
abbrev pub HasNoLineFeed : List ℕ → Type 0
HasNoLineFeed piece = All (λ byte. byte ≢ line_feed) piece

-- there are no bytes, or the last of them is a line feed
abbrev pub EndsWithItsLine : List ℕ → Type 0
EndsWithItsLine bytes = (bytes ≡ []) ⊎ ((front : List ℕ) × (bytes ≡ front ++ line_feed ∷ []))

-- the pieces in order, each followed by a line feed
abbrev pub with_line_feeds : List (List ℕ) → List ℕ
with_line_feeds pieces = flat_map (λ piece. piece ++ line_feed ∷ []) pieces

-- the bytes are the pieces, each followed by a line feed but for the last, which isn't empty
pub record EndsInOpenLine (bytes : List ℕ) (pieces : List (List ℕ)) : Type 0 where
  pub before : List (List ℕ)
  pub last : List ℕ
  pub pieces_are : pieces ≡ before ++ last ∷ []
  pub bytes_are : bytes ≡ with_line_feeds before ++ last
  pub some_bytes : last ≢ []

-- the bytes are the pieces, each followed by a line feed; only the last may lack it, if it isn't empty
abbrev pub ArePieces : List ℕ → List (List ℕ) → Type 0
ArePieces bytes pieces = (bytes ≡ with_line_feeds pieces) ⊎ EndsInOpenLine bytes pieces

-- the pieces are the lines of the bytes: none of them has a line feed
pub record AreLines (bytes : List ℕ) (pieces : List (List ℕ)) : Type 0 where
  pub whole : All HasNoLineFeed pieces
  pub parts : ArePieces bytes pieces

-- the lines of the bytes: a line feed ends a line, and any other byte stands at the head of the first line of what follows
unfoldable pub lines_of : List ℕ → List (List ℕ)
lines_of [] = []
lines_of (byte ∷ bytes) = if byte == line_feed then [] ∷ lines_of bytes else onto_first byte (lines_of bytes)

-- bytes have lines, and only one list of them
pub record LinesAreOne : Type 0 where
  pub some : (bytes : List ℕ) → AreLines bytes (lines_of bytes)
  pub one : (bytes : List ℕ) (pieces : List (List ℕ)) → AreLines bytes pieces → pieces ≡ lines_of bytes
