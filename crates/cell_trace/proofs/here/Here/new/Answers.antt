use Rattle.std.proofs.Common.{rules, sym, ap, ◌∙◌}
use Rattle.cell_reader.specs.Snapshots.{version_of}
use Rattle.cube_space.specs.Cells.{is_place, cube_of, elements_of}
use Rattle.cube_space.proofs.Places.{cell-place, is_place-from}
use Rattle.cell_trace.proofs.here.Here.new.Goals as goal

pub invariant_of-result : goal.invariant_of-result
invariant_of-result c =
    let space = (version_of c.args.version.now).model.space in
    record {
      is_cell = c.requires.cell;
      own_cube = c.requires.cube;
      own_elements = c.requires.elements;
      placed =
          ap (λ k. is_place space k c.args.elements.now) (sym c.requires.cube)
          ∙ ap (is_place space (cube_of space c.args.cell)) (sym c.requires.elements)
          ∙ is_place-from space (cube_of space c.args.cell) (elements_of space c.args.cell) (cell-place space c.args.cell c.requires.cell).place;
      own_kind = search rules;
    }
