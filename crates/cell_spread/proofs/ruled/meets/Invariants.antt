use Rattle.std.proofs.Common.{◌≡◌, drop}
use Rattle.cube_space.specs.Layout.{axes_of}
use Rattle.cell_spread.specs.Inside.Meets.{meets}
use Rattle.cell_spread.proofs.ruled.meets.Given as goal

-- it is up to the other dimensions
abbrev pub invariant-each : goal.invariant-each
invariant-each l = record {
  same : meets (axes_of l.model.space.dimensions (drop l.place l.dims)) (drop l.place l.at) (drop l.place l.sets) ≡ meets (axes_of l.model.space.dimensions l.dims) l.at l.sets;
}
