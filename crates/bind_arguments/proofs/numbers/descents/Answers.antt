use Rattle.std.proofs.Common.{◌∙◌, refl}
use Rattle.bind_arguments.specs.Numbers.{is_below}
use Rattle.bind_arguments.specs.declared.element_function.ElementFunction.TheVariants as functions
use Rattle.bind_arguments.proofs.NumbersMade.{of_marks}
use Rattle.bind_arguments.proofs.numbers.descents.Goals as goal

pub returns : goal.returns
returns c =
    c.in_ok-table.ensures ∙ of_marks c.args.dimension.now (functions.Below c.args.above) (is_below c.args.dimension.now c.args.above)
    c.in_ok-marks.marks.items c.in_ok-marks.ensures.len c.in_ok-marks.ensures.marks (λ e. refl)
