use Rattle.std.proofs.Common.{◌≡◌, ◌∙◌, ap, arith, length}
use Rattle.dim_name.specs.Name.{is_same_name}
use Rattle.bind_arguments.specs.Numbers.{text_for}
use Rattle.bind_arguments.proofs.NumbersMade.{one_more, same_texts, compared}
use Rattle.bind_arguments.proofs.numbers.comparisons.Goals as goal

pub loop-element-preserved : goal.loop-element-preserved
loop-element-preserved c =
    let d = c.args.dimension.now in
    one_more (same_texts d c.args.one.now c.args.other.now) c.loop-element.element c.loop-element.marks.items c.push.new.self.items c.is_same_name-same.result
    c.loop-element.invariant
    (c.is_same_name-same.ensures ∙ ap (λ text. is_same_name text c.text_of-in-loop-element.result.now) c.text_of.ensures
    ∙ ap (is_same_name (text_for d c.args.one.now c.loop-element.element)) c.text_of-in-loop-element.ensures)
    c.in_ok-push.ensures.items

pub returns : goal.returns
returns c =
    let all : c.loop-element.element ≡ length c.args.dimension.now.elements = omega (arith, c.len-element-end.ensures.len, c.loop-element-test.false, c.loop-element.auto.element-end) in
    compared c.args.dimension.now c.args.one.now c.args.other.now c.loop-element.element c.loop-element.marks.items all c.loop-element.invariant
