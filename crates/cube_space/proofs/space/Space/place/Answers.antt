-- The digits that are written are the cell's elements.
use Rattle.std.proofs.Common.{◌≡◌, ◌≤◌, ◌++◌, ◌∙◌, Some, ℕ, length, take, drop, arith, sym, ap, subst}
use Rattle.std.proofs.lemmas.List.{take-append-drop, length-take-le}
use Rattle.cube_space.specs.Radix.{product}
use Rattle.cube_space.specs.Cells.{Cell, IsSpace, cell_at, cell_number, cell_count}
use Rattle.cube_space.proofs.Places.{first_cell-next, cell_number-cell}
use Rattle.cube_space.proofs.Runs.{run-at, few-sizes, written-cell}
use Rattle.cube_space.proofs.space.Space.place.Goals as goal

pub write_digits-requires-clause-few : goal.write_digits-requires-clause-few
write_digits-requires-clause-few c =
    let valid : IsSpace c.args.self.now = subst IsSpace c.self.view_is c.self.invariant.valid in
    let run = run-at _ _ _ c.run_of-cube.result _ c.self.invariant c.self.view_is c.run_of-cube.ensures.within c.index-run.ensures in
    omega (arith, ap length (c.as_slice.ensures ∙ run.sizes), few-sizes c.args.self.now c.run_of-cube.result valid c.run_of-cube.ensures.within)

pub write_digits-requires-clause-within : goal.write_digits-requires-clause-within
write_digits-requires-clause-within c =
    let run = run-at _ _ _ c.run_of-cube.result _ c.self.invariant c.self.view_is c.run_of-cube.ensures.within c.index-run.ensures in
    let count : product c.as_slice.result.now ≡ cell_count c.args.self.now c.run_of-cube.result = ap product (c.as_slice.ensures ∙ run.sizes) in
    omega (arith, count, run.first, first_cell-next c.args.self.now c.run_of-cube.result, c.run_of-cube.ensures.from, c.run_of-cube.ensures.before)

cell-is : (c : goal.After-write_digits) → cell_at c.args.self.now c.args.cell ≡ record { cube = c.run_of-cube.result; elements = take (length c.as_slice.result.now) c.write_digits.new.places }
cell-is c =
    let run = run-at _ _ _ c.run_of-cube.result _ c.self.invariant c.self.view_is c.run_of-cube.ensures.within c.index-run.ensures in
    written-cell c.args.self.now c.run_of-cube.result _ _ _ c.args.cell run c.run_of-cube.ensures.within c.as_slice.ensures c.write_digits.ensures.digits c.write_digits.ensures.number c.run_of-cube.ensures.from

pub returns-clause-cube : goal.returns-clause-cube
returns-clause-cube c = sym (ap (λ (cell : Cell). cell.cube) (cell-is c))

pub returns-clause-elements : goal.returns-clause-elements
returns-clause-elements c =
    let run = run-at _ _ _ c.run_of-cube.result _ c.self.invariant c.self.view_is c.run_of-cube.ensures.within c.index-run.ensures in
    let valid : IsSpace c.args.self.now = subst IsSpace c.self.view_is c.self.invariant.valid in
    let few : length c.as_slice.result.now ≤ length c.write_digits.new.places =
    omega (arith, c.write_digits.array_long, ap length (c.as_slice.ensures ∙ run.sizes), few-sizes c.args.self.now c.run_of-cube.result valid c.run_of-cube.ensures.within) in
    let taken = length-take-le (length c.as_slice.result.now) c.write_digits.new.places few in
    let count = length c.as_slice.result.now in
    let written = take count c.write_digits.new.places in
    let elements : (cell_at c.args.self.now c.args.cell).elements ≡ written = ap (λ (cell : Cell). cell.elements) (cell-is c) in
    sym
    (ap (λ xs. xs ++ drop (length xs) c.args.at.now) elements
    ∙ ap (λ n. written ++ drop n c.args.at.now) taken
    ∙ ap (λ xs. written ++ xs) (sym c.write_digits.ensures.others)
    ∙ take-append-drop count c.write_digits.new.places)

pub returns-clause-number : goal.returns-clause-number
returns-clause-number c =
    let own = ap (λ (cell : Cell). cell.cube) (cell-is c) in
    let Has : ℕ → Type 0 = λ cube. cell_number c.args.self.now cube (cell_at c.args.self.now c.args.cell).elements ≡ Some c.args.cell in
    subst Has own (cell_number-cell c.args.self.now c.args.cell c.requires)
