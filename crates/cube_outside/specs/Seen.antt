use Rattle.std.specs.Prelude.{ℕ, List, Option}

-- what is seen of files at one moment
pub record Seen : Type 0 where
  -- the bytes under each name, where they are known
  pub known : Option (List ℕ → Option (List ℕ))
  -- how many reads have failed; the count stands still at its last value
  pub faults : ℕ
  -- the name of the last read that failed, and empty before the first
  pub missed : List ℕ
  -- the names that were asked for, one for each read, the last one first
  pub asked : List (List ℕ)
