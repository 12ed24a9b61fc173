use Rattle.std.proofs.Common.{sym, subst, ℕ, ◌<◌, length}
use Rattle.cube_space.proofs.Places.{cell-place}
use Rattle.model_laws.proofs.Placed.{placed}
use Rattle.rule_dense.proofs.place.place_of.Goals as goal

pub shape-requires : goal.shape-requires
shape-requires c = subst (λ (k : ℕ). k < length c.args.space.now.cubes) (sym c.place-cube.ensures.cube) (cell-place c.args.space.now c.args.cell c.requires).place.there

pub returns : goal.returns
returns c =
    let is = placed c.args.space.now c.args.cell c.place-cube.result c.shape.result.now c.as_slice.result.now c.place-cube.new.at _ c.size-cells.ensures.valid c.requires c.place-cube.ensures.cube c.shape.ensures c.as_slice.ensures c.place-cube.ensures.elements in
    record { cube = c.place-cube.ensures.cube; there = is.there; few = is.few; dims = is.in_range; digits = is.digits; axes = is.its_axes; elements = is.elements }
