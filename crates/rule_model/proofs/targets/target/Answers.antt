use Rattle.std.proofs.Common.{◌∙◌, ap, take}
use Rattle.std.specs.Prelude.{option_and_then}
use Rattle.cube_space.specs.Cells.{cell_number}
use Rattle.rule_model.specs.Targets.{elements_by, target}
use Rattle.rule_model.proofs.targets.target.Goals as goal

pub returns-clause-value : goal.returns-clause-value
unfolding target
returns-clause-value c =
    c.target_from.ensures.value
    ∙ ap (λ s. option_and_then (cell_number s c.args.reference.now.cube) (elements_by (take c.place_of-len.result.1 c.place_of-len.new.at) c.args.reference.now.args)) c.space.ensures.space
    ∙ ap (λ es. option_and_then (cell_number c.args.model.now.space c.args.reference.now.cube) (elements_by es c.args.reference.now.args)) c.place_of-len.ensures.elements
