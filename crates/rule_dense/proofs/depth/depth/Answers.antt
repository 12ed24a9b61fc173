use Rattle.std.proofs.Common.{arith, ℕ, ◌*◌, ◌<◌, ◌≤◌}
use Rattle.std.proofs.lemmas.Nat.{mul-le}
use Rattle.rule_dense.proofs.Ranks.{rank-low}
use Rattle.rule_dense.proofs.depth.depth.Goals as goal

few : (levels rank : ℕ) → levels ≤ 1600001 → rank < 65536 → levels * rank ≤ 1600001 * 65536
few levels rank a b = mul-le levels rank 1600001 65536 a (omega arith)

pub overflow_mul-result : goal.overflow_mul-result
overflow_mul-result c =
    let low = rank-low c.args.model.now c.args.cell c.requires.cell c.requires.low in
    let product = few c.args.levels c.rank.result c.requires.few (omega (arith, low, c.rank.ensures)) in
    omega (arith, product)

pub overflow_add-result : goal.overflow_add-result
overflow_add-result c =
    let low = rank-low c.args.model.now c.args.cell c.requires.cell c.requires.low in
    let product = few c.args.levels c.rank.result c.requires.few (omega (arith, low, c.rank.ensures)) in
    omega (arith, product, c.cell_level.ensures.most)
