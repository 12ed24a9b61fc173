use Rattle.std.proofs.Common.{◌∙◌, refl}
use Rattle.bind_arguments.specs.Family.{is_component}
use Rattle.bind_arguments.specs.declared.element_function.ElementFunction.TheVariants as functions
use Rattle.bind_arguments.proofs.NumbersMade.{of_marks}
use Rattle.bind_arguments.proofs.numbers.memberships.Goals as goal

pub returns : goal.returns
returns c =
    c.in_ok-table.ensures ∙ of_marks c.args.dimension.now (functions.ComponentOf c.args.parent) (is_component c.args.dimension.now c.args.parent)
    c.in_ok-marks.marks.items c.in_ok-marks.ensures.len c.in_ok-marks.ensures.marks (λ e. refl)
