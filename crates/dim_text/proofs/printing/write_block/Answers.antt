use Rattle.std.proofs.Common.{List, ◌++◌, subst, ◌∙◌}
use Rattle.std.specs.List.{flat_map}
use Rattle.cube_lex.specs.Written.{Spelling, Writes}
use Rattle.dim_core.specs.Draft.{Draft}
use Rattle.dim_core.specs.Written.{written}
use Rattle.cube_lex.proofs.Adding.{then_writes}
use Rattle.cube_lex.specs.Positions.{nowhere}
use Rattle.dim_text.specs.Spelled.{head_spelled, element_spelled, attribute_spelled, spelled}
use Rattle.dim_text.specs.Statement.{End, Close}
use Rattle.dim_text.proofs.printing.write_block.Goals as goal

pub returns : goal.returns
returns c =
    let draft : Draft = written c.args.dimension.now in
    let elements : List Spelling = flat_map element_spelled draft.elements in
    let attributes : List Spelling = flat_map attribute_spelled draft.attributes in
    let end : List Spelling = spelled (End nowhere) ++ spelled Close in
    let first : Writes c.args.out.now.items c.write_line.new.out.items (head_spelled draft.name) =
    subst (λ n. Writes c.args.out.now.items c.write_line.new.out.items (head_spelled n)) (c.shown-name.ensures.value ∙ c.name.ensures) c.in_ok-write_line.ensures.ok in
    then_writes c.write_line-2.result c.args.out.now.items c.write_line.new.out.items c.write_line-2.new.out.items (head_spelled draft.name) (elements ++ (attributes ++ end)) first
    (then_writes c.write_line-2.result c.write_line.new.out.items c.write_elements.new.out.items c.write_line-2.new.out.items elements (attributes ++ end) c.in_ok-write_elements.ensures
    (then_writes c.write_line-2.result c.write_elements.new.out.items c.write_attributes.new.out.items c.write_line-2.new.out.items attributes end c.in_ok-write_attributes.ensures c.write_line-2.ensures.ok))
