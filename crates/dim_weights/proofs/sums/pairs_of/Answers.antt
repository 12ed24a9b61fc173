use Rattle.std.proofs.Common.{◌≡◌, ◌<◌, ◌++◌, length, FitsSigned, get_or, rules, arith}
use Rattle.std.specs.Int.{w128}
use Rattle.std.proofs.lemmas.Int.{to_z-of_z}
use Rattle.dim_weights.specs.Inside.Sums.{sum_at, nonzero_pair}
use Rattle.dim_weights.proofs.Pairs.{pairs-more, small-more}
use Rattle.dim_weights.proofs.sums.pairs_of.Goals as goal

pub loop-leaf-preserved : goal.loop-leaf-preserved
loop-leaf-preserved c =
    let sums = c.args.sums.now in
    let fits : FitsSigned w128 (sum_at c.args.sums.now (get_or c.args.leaves.now c.loop-leaf.leaf-index 0)) = search rules in
    let same = to_z-of_z w128 (sum_at c.args.sums.now (get_or c.args.leaves.now c.loop-leaf.leaf-index 0)) fits in
    let size = rw same at c.unsigned_abs.ensures.value in
    let pushed : c.push_nonzero.new.pairs.items ≡ c.loop-leaf.pairs.items ++ nonzero_pair (get_or c.args.leaves.now c.loop-leaf.leaf-index 0) (sum_at c.args.sums.now (get_or c.args.leaves.now c.loop-leaf.leaf-index 0)) =
    rw same at c.in_ok-push_nonzero.ensures in
    let there : c.loop-leaf.leaf-index < length c.args.leaves.now = c.loop-leaf-test.true in
    record {
      pairs = pairs-more (sum_at c.args.sums.now) c.args.leaves.now c.loop-leaf.leaf-index _ _ there c.loop-leaf.invariant.pairs pushed;
      small = small-more 1000000000 _ (sum_at c.args.sums.now (get_or c.args.leaves.now c.loop-leaf.leaf-index 0)) _ _ c.loop-leaf.invariant.small (omega (arith, size, c.from.ensures, c.if-unsigned_abs-from.false)) pushed;
    }
