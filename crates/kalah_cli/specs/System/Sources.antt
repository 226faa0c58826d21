-- What a run reads: files by their names, and the standard input.
use Rattle.std.specs.Prelude.{◌≡◌, ℕ, All, List, Option, None, Some, find, map, option_map, ⊤, bytes_eq}
use Rattle.kalah_jobs.specs.Files.NamedBytes.{NamedBytes}

-- what can be read: the file of a name, or the standard input
pub data Source : Type 0 where
  file_named : List ℕ → Source
  standard_input : Source

-- each source may give any bytes
abbrev pub any_bytes : Source → List ℕ → Type 0
any_bytes source bytes = ⊤

-- the files have these names, in order, and each may give its bytes
abbrev pub AreFilesOf : (Source → List ℕ → Type 0) → List (List ℕ) → List NamedBytes → Type 0
AreFilesOf may_give names files =
    (map (λ file. file.name) files ≡ names) × All (λ file. may_give (file_named file.name) file.bytes) files

-- all that a reader has left may be given, if a contract can see it; otherwise any bytes may be
abbrev pub MayBeLeft : (List ℕ → Type 0) → Option (List ℕ) → Type 0
MayBeLeft may_give None = (bytes : List ℕ) → may_give bytes
MayBeLeft may_give (Some bytes) = may_give bytes

-- the bytes of the first file of a disk that has this name
abbrev pub bytes_on : List NamedBytes → List ℕ → Option (List ℕ)
bytes_on disk name = option_map (λ file. file.bytes) (find (λ file. bytes_eq file.name name) disk)

-- the sources give these alone: to a name the bytes of the disk's file, and one standard input
abbrev pub known_bytes : List NamedBytes → List ℕ → Source → List ℕ → Type 0
known_bytes disk input (file_named name) bytes = bytes_on disk name ≡ Some bytes
known_bytes disk input standard_input bytes = bytes ≡ input
