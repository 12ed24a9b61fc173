use Rattle.std.proofs.Common.{◌≡◌, ◌∙◌, ap, w64, to_z, of_z, length, unsigned_abs, rules, FitsSigned, arith}
use Rattle.std.proofs.lemmas.Int.{to_z-of_z}
use Rattle.dim_weights.specs.Coefficients.{coef}
use Rattle.dim_weights.specs.Table.{share, leaves_in, greatest_in}
use Rattle.dim_weights.proofs.Pairs.{RisesFrom-rising, share-range, share-le}
use Rattle.dim_weights.proofs.Tables.{greatest_of-at}
use Rattle.dim_weights.proofs.weights.Weights.coef.Goals as goal

value : (c : goal.After-share) → to_z w64 (of_z w64 c.share.result) ≡ share c.leaves.result.now c.args.leaf
value c = let fits : FitsSigned w64 c.share.result = search rules in to_z-of_z w64 c.share.result fits ∙ c.share.ensures

pub returns-clause-coefficient : goal.returns-clause-coefficient
returns-clause-coefficient c d weights here =
    value c
    ∙ (ap (λ ps. share ps c.args.leaf) (c.leaves.ensures.leaves d weights)
    ∙ share-range (coef d c.args.element) (length d.elements) 0 c.args.leaf (omega arith) (omega arith))

pub returns-clause-size : goal.returns-clause-size
returns-clause-size c =
    let small = share-le 0 c.leaves.result.now (RisesFrom-rising c.leaves.result.now c.leaves.ensures.rising) c.args.leaf in
    let most = greatest_of-at c.args.self.now c.args.element in
    let at : greatest_in c.leaves.result.now ≡ greatest_in (leaves_in c.args.self.now c.args.element) = ap greatest_in c.leaves.ensures.pairs in
    let same = ap unsigned_abs (value c) in
    omega arith
