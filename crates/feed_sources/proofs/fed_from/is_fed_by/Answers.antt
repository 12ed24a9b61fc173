use Rattle.std.proofs.Common.{◌≡◌, ◌∙◌, sym, ap, subst, arith, ◌<◌, ◌≤◌, ◌+◌, ◌-◌, length, List, ℕ, true, false}
use Rattle.std.specs.List.{All}
use Rattle.cell_store.proofs.Rising.{Rises-from_increasing}
use Rattle.cube_space.specs.Radix.{product, are_digits, number_of}
use Rattle.cube_space.specs.Layout.{Layout, axes_of, sizes_of, sizes}
use Rattle.cube_space.specs.Cells.{IsSpace, first_cell, cell_count}
use Rattle.cube_space.proofs.Places.{run_within}
use Rattle.rule_model.proofs.Shapes.{dims_few, dims_within, shape_dims}
use Rattle.feed_sources.specs.Inside.Choices.{AreChosen}
use Rattle.feed_sources.proofs.WalkFacts.{IsLeast, next-least, run-at, next-below, few-below, last-below}
use Rattle.feed_sources.proofs.BackFacts.{none-begun, none-ended, none-outside, none-jumped, none-passed}
use Rattle.feed_sources.proofs.FedParts.{fed-parts}
use Rattle.feed_sources.proofs.StepFacts.{where-err}
use Rattle.feed_sources.proofs.fed_from.is_fed_by.Goals.{After-cells-cells, In-Some}
use Rattle.feed_sources.proofs.fed_from.is_fed_by.Goals as goal

first-is : (g : _) (c : After-cells-cells g) → c.first-first.result ≡ first_cell c.args.model.now.space c.args.cube
first-is g c = c.first-first.ensures ∙ ap (λ (l : Layout). first_cell l c.args.cube) c.space-space.ensures.space

cells-is : (g : _) (c : After-cells-cells g) → c.cells-cells.result ≡ cell_count c.args.model.now.space c.args.cube
cells-is g c = c.cells-cells.ensures ∙ ap (λ (l : Layout). cell_count l c.args.cube) c.space-space.ensures.space

-- a cell in the run is below the greatest number of cells
few-cells : (g : _) (c : After-cells-cells g) → c.first-first.result + c.cells-cells.result ≤ 4611686018427387904
few-cells g c =
    let run = run_within c.args.model.now.space c.args.cube c.requires.cube in
    let most = c.space-space.ensures.valid.size in
    omega (arith, run, most, first-is g c, cells-is g c)

pub returns-then-misses-clause-none : goal.returns-then-misses-clause-none
returns-then-misses-clause-none g c = λ _ x _ by.
    c.misses.ensures c.if-misses.true x (fed-parts c.args.model.now c.args.cube x c.args.cell c.args.feeder.now by).stands

pub jumps-init : goal.jumps-init
jumps-init g c = record {
  begun = omega arith;
  none = λ x has low. none-begun c.args.model.now c.args.cube c.args.feeder.now c.args.cell (g.W.CellSet.cells c.args.live.now) x has (let is = first-is g (goal.at.jumps-init g c).After-cells-cells in omega (arith, low, is));
  steps = c.take_step.ensures.steps;
  spent = (let one = c.in_ok-take_step.ensures.one in omega (arith, one));
}

-- the next cell of the set
least : (g : _) (c : In-Some g) → IsLeast (g.W.CellSet.cells c.args.live.now) c.jumps.from c.in-Some.next
least g c = next-least (g.W.CellSet.cells c.args.live.now) c.jumps.from c.in-Some.next (Rises-from_increasing _ c.in-Some.ensures.rising) (sym c.in-Some.ensures.next)

-- it isn't before the run
after-first : (g : _) (c : In-Some g) → c.first-first.result ≤ c.in-Some.next
after-first g c = let from = (least g c).from in omega (arith, from, c.jumps.invariant.begun)

pub overflow_sub-next : goal.overflow_sub-next
overflow_sub-next g c = after-first g c

pub returns-then-next-first-clause-none : goal.returns-then-next-first-clause-none
returns-then-next-first-clause-none g c = λ _.
    let a = goal.at.returns-then-next-first-clause-none g c in
    let low = after-first g a.In-Some in
    none-outside c.args.model.now c.args.cube c.args.feeder.now c.args.cell (g.W.CellSet.cells c.args.live.now) c.jumps.from c.in-Some.next c.jumps.invariant.none (least g a.In-Some)
    (omega (arith, c.if-next-first.true, low, first-is g a.After-cells-cells, cells-is g a.After-cells-cells))

pub overflow_sub-next-in-Some : goal.overflow_sub-next-in-Some
overflow_sub-next-in-Some g c = after-first g (goal.at.overflow_sub-next-in-Some g c).In-Some

valid : (g : _) (c : After-cells-cells g) → IsSpace c.space-space.result.now
valid g c = subst IsSpace (sym c.space-space.ensures.space) c.space-space.ensures.valid

pub jump_from-requires-clause-few : goal.jump_from-requires-clause-few
jump_from-requires-clause-few g c =
    let few = dims_few c.space-space.result.now c.args.cube c.shape.result.now (valid g (goal.at.jump_from-requires-clause-few g c).After-cells-cells) c.shape.ensures in
    omega (arith, few, ap length c.as_slice-dims.ensures)

pub jump_from-requires-clause-dims : goal.jump_from-requires-clause-dims
jump_from-requires-clause-dims g c =
    subst (λ (ds : List ℕ). All (λ dim. dim < length c.space-space.result.now.dimensions) ds) (sym c.as_slice-dims.ensures)
    (dims_within c.space-space.result.now c.args.cube c.shape.result.now (valid g (goal.at.jump_from-requires-clause-dims g c).After-cells-cells) c.shape.ensures)

-- the sizes of the cube's dimensions
sizes-are : (g : _) (c : After-cells-cells g) → sizes c.space-space.result.now c.args.cube ≡ sizes_of (axes_of c.space-space.result.now.dimensions c.as_slice-dims.result.now)
sizes-are g c =
    ap sizes_of (shape_dims c.space-space.result.now c.args.cube c.shape.result.now c.shape.ensures)
    ∙ ap (λ (ds : List ℕ). sizes_of (axes_of c.space-space.result.now.dimensions ds)) (sym c.as_slice-dims.ensures)

pub jump_from-requires-clause-cells : goal.jump_from-requires-clause-cells
jump_from-requires-clause-cells g c = c.cells-cells.ensures ∙ ap product (sizes-are g (goal.at.jump_from-requires-clause-cells g c).After-cells-cells)

pub jumps-smaller-in-Some-jump_from : goal.jumps-smaller-in-Some-jump_from
jumps-smaller-in-Some-jump_from g c =
    let a = goal.at.jumps-smaller-in-Some-jump_from g c in
    let low = after-first g a.In-Some in
    let from = (least g a.In-Some).from in
    let few = few-cells g a.After-cells-cells in
    let later = c.in-Some-jump_from.ensures.later in
    omega (arith, low, from, few, later, c.if-next-first.false, c.saturating_add-from.ensures)

pub jumps-preserved-in-Some-jump_from : goal.jumps-preserved-in-Some-jump_from
jumps-preserved-in-Some-jump_from g c =
    let a = goal.at.jumps-preserved-in-Some-jump_from g c in
    let m = c.args.model.now in
    let low = after-first g a.In-Some in
    let few = few-cells g a.After-cells-cells in
    let first = first-is g a.After-cells-cells in
    let choices = c.choices_of-choices.result in
    let number = c.in-Some.next - c.first-first.result in
    let later = c.in-Some-jump_from.later in
    let same : sizes_of (axes_of c.space-space.result.now.dimensions c.as_slice-dims.result.now) ≡ sizes m.space c.args.cube =
    sym (sizes-are g a.After-cells-cells) ∙ ap (λ (l : Layout). sizes l c.args.cube) c.space-space.ensures.space in
    let passed = subst (λ (s : List ℕ). (elements : List ℕ) → are_digits s elements ≡ true → number ≤ number_of s elements → number_of s elements < later → AreChosen choices elements → ⊥) same c.in-Some-jump_from.ensures.passed in
    record {
      begun = omega (arith, c.saturating_add-from.ensures, few);
      none = none-jumped m c.args.cube c.args.feeder.now c.args.cell (g.W.CellSet.cells c.args.live.now) c.jumps.from c.in-Some.next c.jumps.invariant.none (least g a.In-Some)
          choices number later c.saturating_add-from.result (omega (arith, low, first)) c.choices_of-choices.ensures passed (omega (arith, c.saturating_add-from.ensures, first));
      steps = (let s = c.take_step-in-Some.ensures.steps in omega (arith, s, c.jumps.invariant.steps));
      spent = (let one = c.in_ok-take_step-2.ensures.one in
          let l = least g a.In-Some in
          let on = c.in-Some-jump_from.ensures.later in
          let past : c.in-Some.next < c.saturating_add-from.result = omega (arith, low, few, on, c.if-next-first.false, c.saturating_add-from.ensures) in
          let more = next-below c.jumps.from c.saturating_add-from.result c.in-Some.next (g.W.CellSet.cells c.args.live.now) l.has l.from past in
          omega (arith, one, more, c.jumps.invariant.spent));
    }

pub feeds_by-requires-clause-source : goal.feeds_by-requires-clause-source
feeds_by-requires-clause-source g c =
    let a = goal.at.feeds_by-requires-clause-source g c in
    (run-at c.args.model.now.space c.args.cube c.first-first.result c.cells-cells.result c.in-Some.next c.requires.cube (first-is g a.After-cells-cells) (cells-is g a.After-cells-cells) (after-first g a.In-Some) c.if-next-first.false).cell

pub feeds_by-requires-clause-cube : goal.feeds_by-requires-clause-cube
feeds_by-requires-clause-cube g c =
    let a = goal.at.feeds_by-requires-clause-cube g c in
    (run-at c.args.model.now.space c.args.cube c.first-first.result c.cells-cells.result c.in-Some.next c.requires.cube (first-is g a.After-cells-cells) (cells-is g a.After-cells-cells) (after-first g a.In-Some) c.if-next-first.false).own

pub returns-then-feeds_by-clause-fed : goal.returns-then-feeds_by-clause-fed
returns-then-feeds_by-clause-fed g c = λ _.
    (c.in-Some.next, (least g (goal.at.returns-then-feeds_by-clause-fed g c).In-Some).has, c.feeds_by.ensures.0 c.if-feeds_by.true)

pub overflow_add-from : goal.overflow_add-from
overflow_add-from g c = let few = few-cells g (goal.at.overflow_add-from g c).After-cells-cells in omega (arith, few, c.if-next-first.false)

pub jumps-smaller : goal.jumps-smaller
jumps-smaller g c =
    let a = goal.at.jumps-smaller g c in
    let from = (least g a.In-Some).from in
    let few = few-cells g a.After-cells-cells in
    omega (arith, from, few, c.if-next-first.false)

pub jumps-preserved : goal.jumps-preserved
jumps-preserved g c =
    let a = goal.at.jumps-preserved g c in
    let low = after-first g a.In-Some in
    record {
      begun = omega (arith, low);
      none = none-passed c.args.model.now c.args.cube c.args.feeder.now c.args.cell (g.W.CellSet.cells c.args.live.now) c.jumps.from c.in-Some.next c.jumps.invariant.none (least g a.In-Some)
          (λ by. (let on = c.feeds_by.ensures.1 by in let clash : true ≡ false = sym on ∙ c.if-feeds_by.false in cc));
      steps = (let s = c.take_step-in-Some.ensures.steps in omega (arith, s, c.jumps.invariant.steps));
      spent = (let one = c.in_ok-take_step-2.ensures.one in
          let l = least g a.In-Some in
          let more = next-below c.jumps.from (c.in-Some.next + 1) c.in-Some.next (g.W.CellSet.cells c.args.live.now) l.has l.from (omega arith) in
          omega (arith, one, more, c.jumps.invariant.spent));
    }

pub returns-clause-none : goal.returns-clause-none
returns-clause-none g c = λ _.
    none-ended c.args.model.now c.args.cube c.args.feeder.now c.args.cell (g.W.CellSet.cells c.args.live.now) c.jumps.from c.jumps.invariant.none (sym c.in_default.ensures.next)

pub returns-then-next-first-clause-spent : goal.returns-then-next-first-clause-spent
returns-then-next-first-clause-spent g c = let few = few-below c.jumps.from (g.W.CellSet.cells c.args.live.now) in omega (arith, few, c.jumps.invariant.spent)

pub returns-in_err-take_step-2-clause-enough : goal.returns-in_err-take_step-2-clause-enough
returns-in_err-take_step-2-clause-enough g c =
    let l = least g (goal.at.returns-in_err-take_step-2-clause-enough g c).In-Some in
    let last = last-below c.jumps.from c.in-Some.next (g.W.CellSet.cells c.args.live.now) l.has l.from in
    let none = c.in_err-take_step-2.ensures.none in
    let short : c.args.steps.now < 1 + length (g.W.CellSet.cells c.args.live.now) = omega (arith, last, none, c.jumps.invariant.spent) in
    where-err _ short

pub returns-then-feeds_by-clause-spent : goal.returns-then-feeds_by-clause-spent
returns-then-feeds_by-clause-spent g c =
    let l = least g (goal.at.returns-then-feeds_by-clause-spent g c).In-Some in
    let last = last-below c.jumps.from c.in-Some.next (g.W.CellSet.cells c.args.live.now) l.has l.from in
    let one = c.in_ok-take_step-2.ensures.one in
    omega (arith, last, one, c.jumps.invariant.spent)

pub returns-clause-spent : goal.returns-clause-spent
returns-clause-spent g c = let few = few-below c.jumps.from (g.W.CellSet.cells c.args.live.now) in omega (arith, few, c.jumps.invariant.spent)
