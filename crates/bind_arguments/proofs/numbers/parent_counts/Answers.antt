use Rattle.std.proofs.Common.{◌≡◌, ◌<◌, ◌∙◌, ◌*◌, ap, sym, arith, pos, length}
use Rattle.cube_fixed.specs.Range.{unit}
use Rattle.bind_arguments.specs.Numbers.{number_for}
use Rattle.bind_arguments.specs.declared.element_function.ElementFunction.TheVariants as functions
use Rattle.bind_arguments.proofs.NumbersMade.{one_more, whole}
use Rattle.bind_arguments.proofs.KinFacts.{kin_of, few_parents}
use Rattle.bind_arguments.proofs.numbers.parent_counts.Goals as goal

pub overflow_cast-own : goal.overflow_cast-own
overflow_cast-own c =
    let d = c.args.dimension.now in
    let e = c.loop-element.element in
    let low : e < length c.in_ok-parents.parents.items = omega (arith, c.loop-element-test.true, c.len-element-end.ensures.len, c.in_ok-parents.ensures.len) in
    let are = sym (kin_of c.in_ok-parents.parents.items e c.index.result.now low c.index.ensures) ∙ c.in_ok-parents.ensures.parents e low in
    let same = ap length are in
    let few = few_parents d e in
    let most = c.len-element-end.ensures.valid.few in
    let own = ap length c.as_slice-own.ensures.value in
    omega (arith, own, same, few, most)

pub loop-element-preserved : goal.loop-element-preserved
loop-element-preserved c =
    let d = c.args.dimension.now in
    let e = c.loop-element.element in
    let low : e < length c.in_ok-parents.parents.items = omega (arith, c.loop-element-test.true, c.len-element-end.ensures.len, c.in_ok-parents.ensures.len) in
    let are = sym (kin_of c.in_ok-parents.parents.items e c.index.result.now low c.index.ensures) ∙ c.in_ok-parents.ensures.parents e low in
    one_more (number_for d functions.ParentCount) e c.loop-element.numbers.items c.push.new.self.items c.of_units.result
    c.loop-element.invariant (c.of_units.ensures ∙ ap (λ n. pos (n * unit)) (ap length (c.as_slice-own.ensures.value ∙ are))) c.in_ok-push.ensures.items

pub returns : goal.returns
returns c =
    let all : c.loop-element.element ≡ length c.args.dimension.now.elements = omega (arith, c.len-element-end.ensures.len, c.in_ok-parents.ensures.len, c.loop-element-test.false, c.loop-element.auto.element-end) in
    whole c.args.dimension.now functions.ParentCount c.loop-element.element c.loop-element.numbers.items all c.loop-element.invariant
