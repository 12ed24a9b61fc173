use Rattle.std.proofs.Common.{◌≡◌, ◌∙◌, Some, map, take, ap, rules}
use Rattle.std.specs.List.{range_with_len}
use Rattle.cube_space.specs.Cells.{cell_number}
use Rattle.cube_space.proofs.Places.{place_number}
use Rattle.view_query.specs.Views.{element_at, elements_at}
use Rattle.view_query.proofs.CellFacts.{cell_is}
use Rattle.view_query.proofs.reading.cell_at.Goals as goal

pub unwrap-requires : goal.unwrap-requires
unwrap-requires c =
    let space = c.args.space.now in
    let view = c.args.view.now in
    let row = c.args.row.now in
    let column = c.args.column.now in
    let count = ap (λ n. map (element_at view row column) (range_with_len 0 n)) c.axis_count-count.ensures.value in
    let there = cell_is space view row column c.requires.view c.requires.row c.requires.column in
    let asked : c.number.result ≡ cell_number space view.cube (take c.axis_count-count.result c.put_elements.new.at) = search rules in
    let is : c.number.result ≡ Some (place_number space view.cube (elements_at space view row column)) =
    asked ∙ ap (cell_number space view.cube) (c.put_elements.ensures ∙ count) ∙ there in
    rw is (search rules)
