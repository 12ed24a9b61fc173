-- What is left of writes when a later one of a cell takes the place of the earlier ones.
use Rattle.std.specs.Prelude.{ℕ, ℤ, List, [], fold}
use Rattle.std.specs.Ordering.{nat_cmp}
use Rattle.std.specs.BTreeMap.{insert_entry}

-- the writes as a map from cells to numbers, by cell: each comes into it in turn, over an earlier one of its cell
abbrev pub last_writes : List (ℕ × ℤ) → List (ℕ × ℤ)
last_writes writes = fold (λ last write. insert_entry nat_cmp last write.0 write.1) [] writes
