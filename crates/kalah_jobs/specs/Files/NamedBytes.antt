-- A file as it was read.
use Rattle.std.specs.Prelude.{ℕ, List}

pub record NamedBytes : Type 0 where
  pub name : List ℕ
  pub bytes : List ℕ
