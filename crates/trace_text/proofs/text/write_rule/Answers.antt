use Rattle.std.proofs.Common.{◌∙◌, ◌++◌, ◌∷◌, ap, codes, decimal, if◌then◌else◌, slice_index_or, []}
use Rattle.std.proofs.lemmas.Result.{on_ok_weaker}
use Rattle.cube_space.specs.Cells.{cube_of, is_leaf_cell}
use Rattle.cell_names.specs.CellNames.{one_line}
use Rattle.trace_text.proofs.TextFacts.{four_pieces, where_ok}
use Rattle.trace_text.proofs.text.write_rule.Goals as goal

pub returns : goal.returns
returns c =
    let space = c.args.model.now.space in
    let mark = 9 ∷ (if is_leaf_cell space c.args.cell then codes "N" else codes "C") in
    on_ok_weaker c.extend_from_slice-2.result
    (λ h. four_pieces c.args.out.now.items c.extend_from_slice.new.self.items c.write_file.new.out.items c.write_numbered.new.out.items c.extend_from_slice-2.new.self.items
    (10 ∷ codes "rule" ++ 9 ∷ []) (one_line (slice_index_or c.args.files.now (cube_of space c.args.cell) [])) (9 ∷ codes "statement" ++ 9 ∷ decimal c.args.number) mark
    c.in_ok-extend_from_slice.ensures.items c.in_ok-write_file.ensures
    (c.in_ok-write_numbered.ensures ∙ ap (λ n. c.write_file.new.out.items ++ (9 ∷ codes "statement" ++ 9 ∷ decimal n)) c.from.ensures) (h ∙ ap (λ l. c.write_numbered.new.out.items ++ l) c.part_mark.ensures))
    (where_ok c.extend_from_slice-2.result c.extend_from_slice-2.new.self.items (c.write_numbered.new.out.items ++ c.part_mark.result.now) c.write_numbered.new.out.items c.extend_from_slice-2.ensures.items)
