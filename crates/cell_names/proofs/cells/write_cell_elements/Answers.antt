use Rattle.std.proofs.Common.{◌∙◌, take, ap}
use Rattle.cube_space.specs.Cells.{is_place, cube_of, elements_of}
use Rattle.cube_space.proofs.Places.{is_place-from, cell-place}
use Rattle.cell_names.proofs.cells.write_cell_elements.Goals as goal

pub write_elements-requires : goal.write_elements-requires
write_elements-requires c =
    let space = c.args.model.now.space in
    let cell = c.args.cell in
    ap (λ s. is_place s c.place_of-cube.result.0 (take c.place_of-cube.result.1 c.place_of-cube.new.at)) c.space.ensures.space
    ∙ ap (λ k. is_place space k (take c.place_of-cube.result.1 c.place_of-cube.new.at)) c.place_of-cube.ensures.cube
    ∙ ap (λ es. is_place space (cube_of space cell) es) c.place_of-cube.ensures.elements
    ∙ is_place-from space (cube_of space cell) (elements_of space cell) (cell-place space cell c.requires).place
