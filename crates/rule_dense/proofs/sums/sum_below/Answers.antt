use Rattle.std.proofs.Common.{rules, ◌≡◌, ◌<◌, ◌≤◌, ◌+◌, ◌^◌, sym, ◌∙◌, ap, subst, arith, ℕ, length}
use Rattle.std.specs.Prelude.{fold}
use Rattle.std.specs.List.{range_with_len}
use Rattle.cube_fixed.specs.Total.{Total, no_terms, value_of}
use Rattle.cube_space.specs.Layout.{Layout}
use Rattle.cube_space.specs.Cells.{IsCell, cube_of, first_cell, cell_count, size_of}
use Rattle.rule_dense.specs.Inside.Plain.{table_of, with_leaf}
use Rattle.rule_dense.proofs.LeafSums.{in_run-cell, leaves-by_cube, with_leaves-more}
use Rattle.rule_dense.proofs.sums.sum_below.Goals.{After-cells-number-end}
use Rattle.rule_dense.proofs.sums.sum_below.Goals as goal

-- the cells of the cube, in the model's space
record IsRun (space : Layout) (cell cube first count : ℕ) : Type 0 where
  own : cube ≡ cube_of space cell
  there : cube < length space.cubes
  begins : first ≡ first_cell space cube
  many : count ≡ cell_count space cube

run : (c : After-cells-number-end) → IsRun c.args.model.now.space c.args.cell c.place_of-cube.result.0 c.first-first.result c.cells-number-end.result
run c =
    subst (λ (s : Layout). IsRun s c.args.cell c.place_of-cube.result.0 c.first-first.result c.cells-number-end.result) c.space-space.ensures.space
    (record { own = c.place_of-cube.ensures.cube; there = c.place_of-cube.ensures.there; begins = c.first-first.ensures; many = c.cells-number-end.ensures })

pub overflow_add-first : goal.overflow_add-first
overflow_add-first c =
    let is = run (goal.at.overflow_add-first c).After-cells-number-end in
    let within : IsCell c.args.model.now.space (c.first-first.result + c.loop-number.number) =
    in_run-cell c.args.model.now.space c.place_of-cube.result.0 c.first-first.result c.cells-number-end.result c.loop-number.number is.there is.begins is.many c.loop-number-test.true in
    let few : size_of c.args.model.now.space ≤ 2 ^ 62 = c.space-space.ensures.valid.size in
    omega (arith, within, few)

pub add_leaf-requires-clause-leaf : goal.add_leaf-requires-clause-leaf
add_leaf-requires-clause-leaf c =
    let is = run (goal.at.add_leaf-requires-clause-leaf c).After-cells-number-end in
    in_run-cell c.args.model.now.space c.place_of-cube.result.0 c.first-first.result c.cells-number-end.result c.loop-number.number is.there is.begins is.many c.loop-number-test.true

pub loop-number-preserved : goal.loop-number-preserved
loop-number-preserved c =
    record {
      sum_is = c.add_leaf.ensures.sum
          ∙ ap (λ (t : Total). with_leaf c.args.model.now.space (table_of c.args.values.now) c.args.cell t (c.first-first.result + c.loop-number.number)) c.loop-number.invariant.sum_is
          ∙ sym (with_leaves-more c.args.model.now.space (table_of c.args.values.now) c.args.cell c.first-first.result c.loop-number.number);
      few = omega (arith, c.add_leaf.ensures.terms, c.loop-number.invariant.few);
    }

pub returns : goal.returns
returns c =
    let is = run (goal.at.returns c).After-cells-number-end in
    let all : c.loop-number.number ≡ c.cells-number-end.result = search rules in
    let first = is.begins ∙ ap (first_cell c.args.model.now.space) is.own in
    let count = all ∙ is.many ∙ ap (cell_count c.args.model.now.space) is.own in
    c.value.ensures
    ∙ ap value_of (c.loop-number.invariant.sum_is
    ∙ ap (λ (a : ℕ). fold (with_leaf c.args.model.now.space (table_of c.args.values.now) c.args.cell) no_terms (range_with_len a c.loop-number.number)) first
    ∙ ap (λ (n : ℕ). fold (with_leaf c.args.model.now.space (table_of c.args.values.now) c.args.cell) no_terms (range_with_len (first_cell c.args.model.now.space (cube_of c.args.model.now.space c.args.cell)) n)) count
    ∙ sym (leaves-by_cube c.args.model.now.space (table_of c.args.values.now) c.args.cell c.requires.cell))
