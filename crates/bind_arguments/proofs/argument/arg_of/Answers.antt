use Rattle.std.proofs.Common.{◌≡◌, ◌∙◌, ap, sym}
use Rattle.bind_arguments.specs.Argument as bindings
use Rattle.bind_arguments.specs.Bound.{element_given}
use Rattle.bind_arguments.proofs.argument.arg_of.Goals as goal

pub returns-in_ok-element-in-None-clause-arg : goal.returns-in_ok-element-in-None-clause-arg
returns-in_ok-element-in-None-clause-arg c =
    let space = c.args.space.now in
    let given : element_given space c.args.dim c.args.argument 0 ≡ c.in_ok-element-in-None.element = sym c.in_ok-element-in-None.ensures.given in
    let follows = sym c.followed.ensures ∙ c.in-None.is in
    c.still.ensures ∙ sym (ap (bindings.arg_following space c.args.cube c.args.dim c.args.argument) follows ∙ ap (bindings.still space c.args.cube) given)
