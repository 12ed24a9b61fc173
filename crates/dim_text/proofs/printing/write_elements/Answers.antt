use Rattle.std.proofs.Common.{◌<◌, ◌≤◌, ℕ, List, [], length, subst, ap, arith}
use Rattle.std.proofs.lemmas.List.{take_all, length-map}
use Rattle.std.specs.List.{flat_map}
use Rattle.cube_lex.specs.Written.{Writes}
use Rattle.dim_core.specs.Outline.{Element, names_of}
use Rattle.dim_core.specs.Written.{written, written_element}
use Rattle.cube_lex.proofs.Spaced.{writes-more}
use Rattle.dim_text.proofs.PrintedParts.{element_at}
use Rattle.dim_text.specs.Spelled.{element_spelled}
use Rattle.dim_text.proofs.printing.write_elements.Goals as goal

pub loop-element-preserved : goal.loop-element-preserved
loop-element-preserved c =
    let none : Element (List ℕ) = record { name = []; components = [] } in
    let there : c.loop-element.element < length c.args.dimension.now.elements = omega (arith, c.loop-element-test.true, c.len-element-end.ensures.len) in
    let within : c.loop-element.element < length (written c.args.dimension.now).elements = omega (arith, there, length-map c.args.dimension.now.elements (written_element (names_of c.args.dimension.now.elements))) in
    writes-more element_spelled c.args.out.now.items c.loop-element.out.items c.write_element.new.out.items (written c.args.dimension.now).elements c.loop-element.element none within c.loop-element.invariant
    (subst (Writes c.loop-element.out.items c.write_element.new.out.items) (element_at c.args.dimension.now c.loop-element.element none there) c.in_ok-write_element.ensures)

pub returns : goal.returns
returns c =
    let past : length (written c.args.dimension.now).elements ≤ c.loop-element.element =
    omega (arith, c.loop-element-test.false, c.len-element-end.ensures.len, length-map c.args.dimension.now.elements (written_element (names_of c.args.dimension.now.elements))) in
    subst (Writes c.args.out.now.items c.loop-element.out.items) (ap (flat_map element_spelled) (take_all c.loop-element.element (written c.args.dimension.now).elements past)) c.loop-element.invariant
