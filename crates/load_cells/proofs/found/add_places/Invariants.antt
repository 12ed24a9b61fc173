use Rattle.std.proofs.Common.{◌<◌, length, All}
use Rattle.load_cells.specs.Found.{IsFound}
use Rattle.load_cells.specs.Names.{element_by_text}
use Rattle.load_cells.proofs.found.add_places.Given as goal

-- each name is right, and there is a place once one was added
abbrev pub invariant-loop-place : goal.invariant-loop-place
invariant-loop-place l = record {
  right : All (IsFound (element_by_text l.dimension)) l.names.items;
  some : 0 < l.place → 0 < length l.names.items;
}
