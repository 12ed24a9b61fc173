use Rattle.std.proofs.Common.{◌∙◌, arith, sym, ap, subst}
use Rattle.lists.proofs.Found.{none_found}
use Rattle.cube_space.specs.Cells.{IsCell}
use Rattle.cube_space.specs.Layout.{Layout}
use Rattle.rule_model.specs.BoundModel.{BoundModel}
use Rattle.cell_values.specs.Inside.Growth.{grew-later}
use Rattle.cell_values.proofs.BeginFacts.{all-added, skip-zero, skip-none, step-some, stop-some}
use Rattle.cell_values.proofs.frames.ComponentSum.go_on.Goals as goal

pub parts-preserved-then-weight-eq0 : goal.parts-preserved-then-weight-eq0
parts-preserved-then-weight-eq0 g c =
    let space = c.space-space.ensures.space ∙ ap (λ (m : BoundModel). m.space) c.model.ensures.model in
    record {
      advances = skip-zero c.args.version.now c.args.self.now c.parts.self c.space-space.result.now c.parts_at-parts.result.now space c.parts_at-parts.ensures.parts c.parts.invariant.cell c.parts.invariant.dim c.parts.invariant.advances c.parts_at-parts.ensures.weights c.parts-test.true c.if-weight-eq0.true;
      cell = c.parts.invariant.cell;
      dim = c.parts.invariant.dim;
      values = c.parts.invariant.values;
      grew = c.parts.invariant.grew;
    }

pub cell_value-requires-clause-cell : goal.cell_value-requires-clause-cell
cell_value-requires-clause-cell g c =
    let space = c.space-space.ensures.space ∙ ap (λ (m : BoundModel). m.space) c.model.ensures.model in
    subst (λ (l : Layout). IsCell l c.in-Some.component) space c.in-Some.ensures.cell

pub add-requires-clause-room : goal.add-requires-clause-room
add-requires-clause-room g c =
    let space = c.space-space.ensures.space ∙ ap (λ (m : BoundModel). m.space) c.model.ensures.model in
    let stop = stop-some c.args.version.now c.args.self.now c.parts.self c.space-space.result.now c.parts_at-parts.result.now space c.parts_at-parts.ensures.parts c.parts.invariant.cell c.parts.invariant.dim c.parts.invariant.advances c.parts_at-parts.ensures.weights c.parts-test.true c.in-Some.component (sym c.with_element_at.ensures.value ∙ c.in-Some.is) c.if-weight-eq0.false c.in-Some.ensures.cell in
    omega (arith, stop.advances.terms, c.requires.room)

pub parts-preserved-in-Some-cell_value : goal.parts-preserved-in-Some-cell_value
parts-preserved-in-Some-cell_value g c =
    let space = c.space-space.ensures.space ∙ ap (λ (m : BoundModel). m.space) c.model.ensures.model in
    record {
      advances = step-some c.args.version.now c.args.self.now c.parts.self c.space-space.result.now c.parts_at-parts.result.now space c.parts_at-parts.ensures.parts c.parts.invariant.cell c.parts.invariant.dim c.parts.invariant.advances c.parts_at-parts.ensures.weights c.parts-test.true c.in-Some.component (sym c.with_element_at.ensures.value ∙ c.in-Some.is) c.if-weight-eq0.false
          c.add.new.self c.in-Some-cell_value.value c.add.ensures c.in-Some-cell_value.ensures.value;
      cell = c.parts.invariant.cell;
      dim = c.parts.invariant.dim;
      values = c.cell_value.ensures.values ∙ c.parts.invariant.values;
      grew = grew-later (g.M.Memory.known c.args.memory.now) (g.M.Memory.known c.parts.memory) (g.M.Memory.known c.cell_value.new.memory) c.parts.invariant.grew c.cell_value.ensures.grew;
    }

pub returns-in-None-clause-stops : goal.returns-in-None-clause-stops
returns-in-None-clause-stops g c =
    let space = c.space-space.ensures.space ∙ ap (λ (m : BoundModel). m.space) c.model.ensures.model in
    stop-some c.args.version.now c.args.self.now c.parts.self c.space-space.result.now c.parts_at-parts.result.now space c.parts_at-parts.ensures.parts c.parts.invariant.cell c.parts.invariant.dim c.parts.invariant.advances c.parts_at-parts.ensures.weights c.parts-test.true c.in-Some.component (sym c.with_element_at.ensures.value ∙ c.in-Some.is) c.if-weight-eq0.false c.in-Some.ensures.cell

pub parts-preserved : goal.parts-preserved
parts-preserved g c =
    let space = c.space-space.ensures.space ∙ ap (λ (m : BoundModel). m.space) c.model.ensures.model in
    let none = sym c.with_element_at.ensures.value ∙ none_found c.with_element_at.result c.in_default.not-Some in
    record {
      advances = skip-none c.args.version.now c.args.self.now c.parts.self c.space-space.result.now c.parts_at-parts.result.now space c.parts_at-parts.ensures.parts c.parts.invariant.cell c.parts.invariant.dim c.parts.invariant.advances c.parts_at-parts.ensures.weights c.parts-test.true none;
      cell = c.parts.invariant.cell;
      dim = c.parts.invariant.dim;
      values = c.parts.invariant.values;
      grew = c.parts.invariant.grew;
    }

pub returns-clause-stops : goal.returns-clause-stops
returns-clause-stops g c =
    let space = c.space-space.ensures.space ∙ ap (λ (m : BoundModel). m.space) c.model.ensures.model in
    all-added c.args.version.now c.args.self.now c.parts.self c.space-space.result.now c.parts_at-parts.result.now space c.parts_at-parts.ensures.parts c.parts.invariant.cell c.parts.invariant.dim c.parts.invariant.advances c.parts-test.false
