use Rattle.std.proofs.Common.{◌≡◌, ◌∙◌, ◌*◌, ap, arith, pos, length}
use Rattle.cube_fixed.specs.Range.{unit}
use Rattle.bind_arguments.specs.Numbers.{number_for}
use Rattle.bind_arguments.specs.declared.element_function.ElementFunction.TheVariants as functions
use Rattle.bind_arguments.proofs.NumbersMade.{one_more, whole}
use Rattle.bind_arguments.proofs.numbers.component_counts.Goals as goal

pub loop-element-preserved : goal.loop-element-preserved
loop-element-preserved c =
    one_more (number_for c.args.dimension.now functions.ComponentCount) c.loop-element.element c.loop-element.numbers.items c.push.new.self.items c.of_units.result
    c.loop-element.invariant (c.of_units.ensures ∙ ap (λ parts. pos (length parts * unit)) c.components.ensures) c.in_ok-push.ensures.items

pub returns : goal.returns
returns c =
    let all : c.loop-element.element ≡ length c.args.dimension.now.elements = omega (arith, c.len-element-end.ensures.len, c.loop-element-test.false, c.loop-element.auto.element-end) in
    whole c.args.dimension.now functions.ComponentCount c.loop-element.element c.loop-element.numbers.items all c.loop-element.invariant
