use Rattle.std.proofs.Common.{rules, ◌≡◌, ◌∙◌, ap, arith, ◌*ℤ◌, ◌<ℤ◌, ◌≤ℤ◌, neg_ℤ, pos, w64, to_z, of_z, FitsSigned}
use Rattle.std.proofs.lemmas.Int.{ints, to_z-of_z}
use mir.Syntax.{w128}
use Rattle.cell_spread.specs.Shares.{floor_ratio}
use Rattle.cell_spread.proofs.Ratios.{left-turned, left-plain, less-turned}
use Rattle.cell_spread.proofs.shares.share_of.Goals.{After-product_of-product}
use Rattle.cell_spread.proofs.shares.share_of.Goals as goal

product : (c : After-product_of-product) → to_z w128 (of_z w128 c.product_of-product.result) ≡ c.args.amount *ℤ c.args.part
product c =
    let fits : FitsSigned w128 c.product_of-product.result = search rules in
    let wa = to_z-of_z w64 c.args.amount c.ranges.amount in
    let wp = to_z-of_z w64 c.args.part c.ranges.part in
    let value : c.product_of-product.result ≡ c.args.amount *ℤ c.args.part = rw (wa, wp) at c.product_of-product.ensures.value in
    to_z-of_z w128 c.product_of-product.result fits ∙ value

pub returns-then-total-lt0-clause-left : goal.returns-then-total-lt0-clause-left
returns-then-total-lt0-clause-left c =
    let own : c.floor_and_left.result.0 ≡ floor_ratio (c.args.amount *ℤ c.args.part) c.args.total = search rules in
    let low : c.args.total <ℤ pos 0 = omega (arith, ints) in
    let fits : FitsSigned w128 c.opposite.result = search rules in
    let wo = to_z-of_z w128 c.opposite.result fits in
    left-turned (c.args.amount *ℤ c.args.part) c.args.total c.floor_and_left.result.0 _ _ c.floor_and_left.result.1 c.floor_and_left.ensures.left (omega (arith, ints))
    (wo ∙ c.opposite.ensures ∙ ap neg_ℤ (product (goal.at.returns-then-total-lt0-clause-left c).After-product_of-product)) low own

pub returns-then-total-lt0-clause-less : goal.returns-then-total-lt0-clause-less
returns-then-total-lt0-clause-less c =
    let low : c.args.total <ℤ pos 0 = omega (arith, ints) in
    less-turned c.args.total _ c.floor_and_left.result.1 c.floor_and_left.ensures.less (omega (arith, ints)) low

pub returns-else-total-lt0-clause-left : goal.returns-else-total-lt0-clause-left
returns-else-total-lt0-clause-left c =
    let own : c.floor_and_left-else-total-lt0.result.0 ≡ floor_ratio (c.args.amount *ℤ c.args.part) c.args.total = search rules in
    let high : pos 0 ≤ℤ c.args.total = omega (arith, ints) in
    left-plain (c.args.amount *ℤ c.args.part) c.args.total c.floor_and_left-else-total-lt0.result.0 _ _ c.floor_and_left-else-total-lt0.result.1 c.floor_and_left-else-total-lt0.ensures.left (omega (arith, ints))
    (product (goal.at.returns-else-total-lt0-clause-left c).After-product_of-product) high c.requires.total own
