use Rattle.std.proofs.Common.{◌≡◌, ◌∙◌, ◌<◌, ◌*ℤ◌, ◌+ℤ◌, ℕ, w64, to_z, of_z, FitsSigned, get_or, length, take, pos, rules, arith}
use Rattle.std.specs.Int.{w128}
use Rattle.std.proofs.lemmas.Int.{to_z-of_z}
use Rattle.dim_weights.specs.Inside.Sums.{sum_at}
use Rattle.dim_weights.specs.Table.{share}
use Rattle.dim_weights.proofs.Pairs.{greatest_in-at}
use Rattle.dim_weights.proofs.SumFacts.{row-fits, row-step}
use Rattle.dim_weights.proofs.rows.add_row.Goals as goal

amount : (c : goal.After-product) → to_z w128 (of_z w128 c.product.result) ≡ c.args.weight *ℤ (get_or c.args.row.now c.loop-leaf.leaf-index (0, pos 0)).1
amount c =
    let weight = to_z-of_z w64 c.args.weight c.ranges.weight in
    let fits : FitsSigned w64 (get_or c.args.row.now c.loop-leaf.leaf-index (0, pos 0)).1 = search rules in
    let coefficient = to_z-of_z w64 (get_or c.args.row.now c.loop-leaf.leaf-index (0, pos 0)).1 fits in
    let whole : FitsSigned w128 c.product.result = search rules in
    to_z-of_z w128 c.product.result whole ∙ (rw (weight, coefficient) at c.product.ensures)

pub add-requires-clause-fits : goal.add-requires-clause-fits
add-requires-clause-fits c =
    let weight = to_z-of_z w64 c.args.weight c.ranges.weight in
    let within : c.loop-leaf.leaf-index < length c.args.row.now = c.loop-leaf-test.true in
    let at = greatest_in-at c.args.row.now c.loop-leaf.leaf-index (0, pos 0) within in
    let most = c.requires.row.small in
    let before = c.loop-leaf.invariant.added (get_or c.args.row.now c.loop-leaf.leaf-index (0, pos 0)).0 in
    rw (amount c) (row-fits (length c.args.sums.now) c.loop-leaf.sums c.args.sums.now c.args.row.now c.args.weight _ c.loop-leaf.leaf-index _ c.requires.row c.requires.weight c.requires.room (omega arith) (rw weight at before))

pub loop-leaf-preserved : goal.loop-leaf-preserved
loop-leaf-preserved c =
    let weight = to_z-of_z w64 c.args.weight c.ranges.weight in
    let fits : FitsSigned w64 (get_or c.args.row.now c.loop-leaf.leaf-index (0, pos 0)).1 = search rules in
    let coefficient = to_z-of_z w64 (get_or c.args.row.now c.loop-leaf.leaf-index (0, pos 0)).1 fits in
    let whole : FitsSigned w128 c.product.result = search rules in
    let amount : to_z w128 (of_z w128 c.product.result) ≡ c.args.weight *ℤ (get_or c.args.row.now c.loop-leaf.leaf-index (0, pos 0)).1 =
    to_z-of_z w128 c.product.result whole ∙ (rw (weight, coefficient) at c.product.ensures) in
    let there : c.loop-leaf.leaf-index < length c.args.row.now = c.loop-leaf-test.true in
    let inside : (get_or c.args.row.now c.loop-leaf.leaf-index (0, pos 0)).0 < length c.loop-leaf.sums =
    omega (arith, c.requires.row.leaves c.loop-leaf.leaf-index (0, pos 0) there, c.loop-leaf.invariant.whole) in
    record {
      whole = omega (arith, c.in_ok-add.ensures.length, c.loop-leaf.invariant.whole);
      added = λ k.
          let before : (k : ℕ) → sum_at c.loop-leaf.sums k ≡ sum_at c.args.sums.now k +ℤ (c.args.weight *ℤ share (take c.loop-leaf.leaf-index c.args.row.now) k) =
          λ k. (let at = c.loop-leaf.invariant.added k in rw weight at at) in
          let step = row-step c.loop-leaf.sums c.args.sums.now c.args.row.now c.args.weight c.loop-leaf.leaf-index there inside before k in
          rw (weight, c.in_ok-add.ensures.added, amount) step;
    }
