use Rattle.std.proofs.Common.{◌<◌, length, sym, subst}
use Rattle.cube_space.specs.Layout.{Layout}
use Rattle.cube_space.proofs.Places.{cell-place}
use Rattle.cell_names.proofs.cells.write_cell_cube.Goals as goal

pub write_cube-requires : goal.write_cube-requires
write_cube-requires c =
    let space = c.args.model.now.space in
    subst (λ (s : Layout). c.place_of-cube.result.0 < length s.cubes) (sym c.space.ensures.space)
    (subst (λ k. k < length space.cubes) (sym c.place_of-cube.ensures.cube) (cell-place space c.args.cell c.requires).place.there)
