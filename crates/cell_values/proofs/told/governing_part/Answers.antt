use Rattle.std.proofs.Common.{sym, ap, ◌∙◌, subst, take, ℕ, ◌<◌, length}
use Rattle.cube_space.specs.Cells.{is_place, cube_of, elements_of}
use Rattle.cube_space.proofs.Places.{cell-place, is_place-from}
use Rattle.cell_values.proofs.told.governing_part.Goals as goal

pub governing_in-requires : goal.governing_in-requires
governing_in-requires c =
    let space = c.args.model.now.space in
    ap (λ k. is_place space k (take c.place_of-cube.result.1 c.place_of-cube.new.at)) c.place_of-cube.ensures.cube
    ∙ ap (is_place space (cube_of space c.args.cell)) c.place_of-cube.ensures.elements
    ∙ is_place-from space (cube_of space c.args.cell) (elements_of space c.args.cell) (cell-place space c.args.cell c.requires.cell).place

pub part_of-requires-clause-cube : goal.part_of-requires-clause-cube
part_of-requires-clause-cube c =
    let space = c.args.model.now.space in
    subst (λ (k : ℕ). k < length space.cubes) (sym c.place_of-cube.ensures.cube) (cell-place space c.args.cell c.requires.cell).place.there
