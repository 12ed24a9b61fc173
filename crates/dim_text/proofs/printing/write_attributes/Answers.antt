use Rattle.std.proofs.Common.{subst, ap, sym, ◌∙◌}
use Rattle.std.proofs.lemmas.List.{take_all}
use Rattle.std.proofs.lemmas.List.Folds.{flat_map-map}
use Rattle.std.specs.List.{flat_map}
use Rattle.cube_lex.specs.Written.{Writes}
use Rattle.dim_core.specs.Outline.{names_of}
use Rattle.dim_core.specs.Written.{written_attribute}
use Rattle.cube_lex.proofs.Spaced.{writes-more}
use Rattle.dim_text.proofs.PrintedParts.{attribute_of}
use Rattle.dim_text.specs.Spelled.{attribute_spelled}
use Rattle.dim_text.proofs.printing.write_attributes.Goals as goal

pub loop-attribute-preserved : goal.loop-attribute-preserved
loop-attribute-preserved c = writes-more (attribute_of (names_of c.args.dimension.now.elements)) c.args.out.now.items c.loop-attribute.out.items c.write_attribute.new.out.items
    c.attributes-attribute-items.result.now c.loop-attribute.attribute-index c.attribute-item.result c.loop-attribute-test.true c.loop-attribute.invariant
    (subst (λ a. Writes c.loop-attribute.out.items c.write_attribute.new.out.items (attribute_of (names_of c.args.dimension.now.elements) a)) c.attribute-item.is c.in_ok-write_attribute.ensures)

pub returns : goal.returns
returns c = subst (Writes c.args.out.now.items c.loop-attribute.out.items)
    (ap (flat_map (attribute_of (names_of c.args.dimension.now.elements))) (take_all c.loop-attribute.attribute-index c.attributes-attribute-items.result.now c.loop-attribute-test.false)
    ∙ ap (flat_map (attribute_of (names_of c.args.dimension.now.elements))) c.attributes-attribute-items.ensures
    ∙ sym (flat_map-map attribute_spelled (written_attribute (names_of c.args.dimension.now.elements)) c.args.dimension.now.attributes)) c.loop-attribute.invariant
