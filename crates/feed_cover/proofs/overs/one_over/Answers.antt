use Rattle.std.proofs.Common.{◌∙◌, ◌<◌, sym, ap, arith, ℕ, ℤ, length, false}
use Rattle.std.proofs.lemmas.Grind.{common_steps}
use Rattle.std.specs.List.{list_all}
use Rattle.std.specs.Option.{option_map_or}
use Rattle.cover_laws.specs.Looking.{sent}
use Rattle.feed_cover.proofs.OneTests.{one-test}
use Rattle.feed_cover.proofs.overs.one_over.Goals as goal

pub returns-clause-asked : goal.returns-clause-asked
returns-clause-asked c =
    let some : 0 < length c.leaves-pairs.result.now = grind (arith, common_steps) in
    λ test.
    ap (list_all (λ (pair : ℕ × ℤ). option_map_or test (sent c.args.to.now pair.0) false)) (sym c.leaves-pairs.ensures.leaves)
    ∙ one-test c.args.to.now c.in_ok-over.over test c.leaves-pairs.result.now some (λ i low. c.each.invariant i (omega (arith, low, c.each-test.false)))
