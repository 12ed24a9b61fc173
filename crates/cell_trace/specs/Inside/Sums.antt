-- What is worked out so far of what is added up for the cell.
use Rattle.std.specs.Prelude.{◌≡◌, ◌<◌, ℕ, IfSome, List, ◌∷◌, All, length, slice_index_or}
use Rattle.cell_reader.specs.Snapshots.{version_of}
use Rattle.cell_reader.specs.declared.snapshot.Snapshot.{Snapshot}
use Rattle.cell_trace.specs.declared.known.Known.{Known}
use Rattle.cell_trace.specs.declared.known.SumIn.{SumIn}
use Rattle.cell_trace.specs.declared.line.Line.TheVariants as lines
use Rattle.cell_trace.specs.declared.sums.Summed.{Summed}
use Rattle.cell_trace.specs.Inside.Parts.{own_lines_at, part_lines_at}
use Rattle.cell_trace.specs.Inside.Place.{Place, stet_at, children_at}

-- the sum of the leaf cells below the cell
pub record IsOwnSum (p : Place) (sum : Summed) : Type 0 where
  pub value : sum.value ≡ stet_at p
  pub lines : lines.Sum ∷ sum.lines.items ≡ own_lines_at p

-- the sum over its components in a dimension
pub record IsSumIn (p : Place) (dim : ℕ) (sum : Summed) : Type 0 where
  pub value : sum.value ≡ children_at p dim
  pub lines : sum.lines.items ≡ part_lines_at p dim

-- one of these sums is that in a dimension
pub record IsSumAt (p : Place) (dim : ℕ) (sums : List SumIn) (place : ℕ) : Type 0 where
  pub within : place < length sums
  pub sum : (other : SumIn) → IsSumIn p dim (slice_index_or sums place other).sum

-- what is known is so
pub record IsKnown (p : Place) (known : Known) : Type 0 where
  pub own : IfSome known.own (IsOwnSum p)
  pub children : All (λ one. IsSumIn p one.dim one.sum) known.children.items

-- what is known is so, and the reader is of the cell's version
pub record IsReady (p : Place) (known : Known) (reader : Snapshot) : Type 0 where
  pub sums : IsKnown p known
  pub version : version_of reader ≡ p.version
