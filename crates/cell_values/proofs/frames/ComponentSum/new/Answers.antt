use Rattle.std.proofs.Common.{◌≤◌, ◌∙◌, refl, ap, subst, pos, ℕ, ℤ, List, length}
use Rattle.cube_space.specs.Layout.{Layout}
use Rattle.dim_core.specs.Outline.{most_components}
use Rattle.rule_model.specs.BoundModel.{BoundModel}
use Rattle.rule_model.specs.Targets.{parts_at}
use Rattle.cell_values.specs.declared.frames.ComponentSum.{ComponentSum}
use Rattle.cell_values.proofs.BeginFacts.{components-begin}
use Rattle.cell_values.proofs.frames.ComponentSum.new.Goals as goal

pub returns-clause-sum : goal.returns-clause-sum
returns-clause-sum c =
    let s : ComponentSum = record { cell = c.args.cell; dim = c.args.dim; sum = c.new.result; next = 0; weight = pos 0 } in
    let space = c.space.ensures.space ∙ ap (λ (m : BoundModel). m.space) c.model.ensures.model in
    let parts = c.parts_at-parts.ensures.parts ∙ ap (λ (s : Layout). parts_at s c.args.cell c.args.dim) space in
    (components-begin c.args.version.now c.args.cell s c.args.dim c.requires.cell c.requires.some (subst (λ (ps : List (ℕ × ℤ)). length ps ≤ most_components) parts c.parts_at-parts.ensures.few) refl refl c.new.ensures refl).0
