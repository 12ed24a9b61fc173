use Rattle.std.specs.Prelude.{◌≡◌, ℕ, List, ◌++◌, Option}
use Rattle.std.specs.Io.KnownBytes.{Appends}

-- the bytes grew by a front part of the piece, maybe by none or by all of it; where they aren't known, nothing is said
pub record AppendsPart (old new : Option (List ℕ)) (piece : List ℕ) : Type 0 where
  pub part : List ℕ
  pub rest : List ℕ
  pub split : piece ≡ part ++ rest
  pub appends : Appends old new part
