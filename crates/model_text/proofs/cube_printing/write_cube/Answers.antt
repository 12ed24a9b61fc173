use Rattle.std.proofs.Common.{List, ◌++◌}
use Rattle.cube_lex.specs.Written.{Spelling}
use Rattle.cube_lex.proofs.Adding.{then_ends}
use Rattle.model_text.specs.Contents.{dimension_names}
use Rattle.model_text.specs.Spelled.{cube_head_spelled, cube_dimensions_spelled, cube_end_spelled}
use Rattle.model_text.proofs.cube_printing.write_cube.Goals as goal

pub returns : goal.returns
returns c =
    let numbers : List Spelling = cube_dimensions_spelled (dimension_names c.args.dims.now) c.args.cube.now.dims in
    let end : List Spelling = cube_end_spelled c.args.cube.now.rules c.args.cube.now.order in
    then_ends c.write_end.result c.args.out.now.items c.write_head.new.out.items c.write_end.new.out.items (cube_head_spelled c.args.cube.now.name) (numbers ++ end) c.in_ok-write_head.ensures
    (then_ends c.write_end.result c.write_head.new.out.items c.write_numbers.new.out.items c.write_end.new.out.items numbers end (rw c.as_slice.ensures at c.in_ok-write_numbers.ensures) c.write_end.ensures)
