-- The digits of a run's sizes are a place, and the number is the place's.
use Rattle.std.proofs.Common.{◌≡◌, ◌<◌, ◌≤◌, ◌+◌, ◌∙◌, Some, false, length, arith, sym, ap, subst}
use Rattle.std.proofs.lemmas.Bool.{and_left, and_right, le-ltb}
use Rattle.cube_space.specs.Radix.{are_digits}
use Rattle.cube_space.specs.Layout.{sizes}
use Rattle.cube_space.specs.Cells.{Cell, IsSpace, cell_at}
use Rattle.cube_space.proofs.Places.{IsPlace, place_number, place-within, cell_number-place, cell_number-none, cell_at-place}
use Rattle.cube_space.proofs.Runs.{run-at, run-place, run-fits}
use Rattle.cube_space.proofs.space.Space.number.Goals as goal

pub returns-then-cube-cubes-clause-value : goal.returns-then-cube-cubes-clause-value
returns-then-cube-cubes-clause-value c =
    let past : length c.args.self.now.cubes ≤ c.args.cube = omega (arith, c.if-cube-cubes.true, c.cubes.ensures) in
    cell_number-none c.args.self.now c.args.cube c.args.at.now (and_left _ _ (le-ltb c.args.cube (length c.args.self.now.cubes) past))

pub returns-then-not-are_digits-clause-value : goal.returns-then-not-are_digits-clause-value
returns-then-not-are_digits-clause-value c =
    let there : c.args.cube < length c.args.self.now.cubes = omega (arith, c.if-cube-cubes.false, c.cubes.ensures) in
    let run = run-at _ _ _ c.args.cube _ c.self.invariant c.self.view_is there c.index-run.ensures in
    let none : are_digits (sizes c.args.self.now c.args.cube) c.args.at.now ≡ false =
    ap (λ ss. are_digits ss c.args.at.now) (sym (c.as_slice-sizes.ensures ∙ run.sizes)) ∙ sym c.are_digits.ensures ∙ c.if-not-are_digits.true in
    cell_number-none c.args.self.now c.args.cube c.args.at.now (and_right _ _ none)

pub number_of-requires-clause-fits : goal.number_of-requires-clause-fits
number_of-requires-clause-fits c =
    let valid : IsSpace c.args.self.now = subst IsSpace c.self.view_is c.self.invariant.valid in
    let there : c.args.cube < length c.args.self.now.cubes = omega (arith, c.if-cube-cubes.false, c.cubes.ensures) in
    let run = run-at _ _ _ c.args.cube _ c.self.invariant c.self.view_is there c.index-run.ensures in
    omega (arith, run-fits c.args.self.now c.args.cube c.index-run.result.now c.as_slice-sizes.result.now run there c.as_slice-sizes.ensures, valid.size)

place-of : (c : goal.After-number_of) → IsPlace c.args.self.now c.args.cube c.args.at.now × (c.index-run.result.now.first + c.number_of.result ≡ place_number c.args.self.now c.args.cube c.args.at.now)
place-of c =
    let there : c.args.cube < length c.args.self.now.cubes = omega (arith, c.if-cube-cubes.false, c.cubes.ensures) in
    let run = run-at _ _ _ c.args.cube _ c.self.invariant c.self.view_is there c.index-run.ensures in
    let place = run-place c.args.self.now c.args.cube c.index-run.result.now c.as_slice-sizes.result.now c.args.at.now run there c.as_slice-sizes.ensures (sym c.are_digits.ensures ∙ c.if-not-are_digits.false) in
    (place.0, ap (λ n. c.index-run.result.now.first + n) c.number_of.ensures ∙ place.1)

pub overflow_add-result : goal.overflow_add-result
overflow_add-result c =
    let valid : IsSpace c.args.self.now = subst IsSpace c.self.view_is c.self.invariant.valid in
    omega (arith, (place-of c).1, place-within c.args.self.now c.args.cube c.args.at.now (place-of c).0, valid.size)

pub returns-clause-value : goal.returns-clause-value
returns-clause-value c = ap Some (place-of c).1 ∙ sym (cell_number-place c.args.self.now c.args.cube c.args.at.now (place-of c).0)

pub returns-clause-within : goal.returns-clause-within
returns-clause-within c = rw ((place-of c).1) (place-within c.args.self.now c.args.cube c.args.at.now (place-of c).0)

pub returns-clause-cube : goal.returns-clause-cube
returns-clause-cube c =
    ap (λ n. (cell_at c.args.self.now n).cube) (place-of c).1 ∙ ap (λ (cell : Cell). cell.cube) (cell_at-place c.args.self.now c.args.cube c.args.at.now (place-of c).0)

pub returns-clause-elements : goal.returns-clause-elements
returns-clause-elements c =
    ap (λ n. (cell_at c.args.self.now n).elements) (place-of c).1 ∙ ap (λ (cell : Cell). cell.elements) (cell_at-place c.args.self.now c.args.cube c.args.at.now (place-of c).0)
