use Rattle.std.proofs.Common.{◌≡◌, ◌++◌, All, length, map, not, pos}
use Rattle.std.specs.List.{list_any, range_with_len}
use Rattle.std.specs.Ordering.{int_eq}
use Rattle.cube_fixed.specs.Range.{IsInRange}
use Rattle.cell_store.specs.Entries.{cells_of}
use Rattle.dim_weights.specs.Table.{nonzero_among}
use Rattle.sparse_sum.specs.Walking.{left}
use Rattle.cell_spread.specs.Spread.{part_of, parts_of, is_weighted}
use Rattle.cell_spread.proofs.below.parts_of.Given as goal

-- the parts so far are the first ones, and the weights so far are 1
abbrev pub invariant-leaves : goal.invariant-leaves
invariant-leaves l = record {
  front : l.parts.items ++ nonzero_among (part_of l.how l.store) (map (λ pair. pair.0) (left l.space (cells_of l.store) (range_with_len 0 l.each.size) l.walk)) ≡ parts_of l.space l.store l.how l.cell;
  plain : list_any (λ pair. not (int_eq pair.1 (pos 1))) (left l.space (cells_of l.store) (range_with_len 0 l.each.size) l.walk) ≡ is_weighted l.space l.cell;
  cell : l.walk.cell ≡ l.cell;
  small : All (λ one. IsInRange one.1) l.parts.items;
}

abbrev pub decreases-leaves : goal.decreases-leaves
decreases-leaves l = length (left l.space (cells_of l.store) (range_with_len 0 l.each.size) l.walk)
