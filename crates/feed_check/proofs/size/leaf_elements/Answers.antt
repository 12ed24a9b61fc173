use Rattle.std.proofs.Common.{rules, ◌≡◌, ◌+◌, arith, refl, true, false, sym, ◌∙◌}
use Rattle.cube_space.specs.Cells.{is_leaf}
use Rattle.cube_space.proofs.LeafTests.{is_leaf-test}
use Rattle.feed_check.proofs.LeafCounts.{tally-next}
use Rattle.feed_check.proofs.size.leaf_elements.Goals.{then-is_leaf, else-is_leaf}
use Rattle.feed_check.proofs.size.leaf_elements.Goals as goal

pub each-preserved : goal.each-preserved
each-preserved c =
    let leaf = is_leaf-test c.axis-dimension.result.now c.each.element c.is_leaf.result c.is_leaf.ensures in
    elim c.if-is_leaf.branch [
      | then-is_leaf w ↦
          let on : c.is_leaf.result ≡ true = search rules in
          let next : c.if-is_leaf.count ≡ c.each.count + 1 = search rules in
          record { count = tally-next (is_leaf c.axis-dimension.result.now) c.each.count c.if-is_leaf.count c.each.element (c.each.element + 1) true c.each.invariant.count (sym on ∙ leaf) next refl; low = omega (arith, next, c.each.invariant.low) }
      | else-is_leaf w ↦
          let off : c.is_leaf.result ≡ false = search rules in
          let next : c.if-is_leaf.count ≡ c.each.count + 0 = search rules in
          record { count = tally-next (is_leaf c.axis-dimension.result.now) c.each.count c.if-is_leaf.count c.each.element (c.each.element + 1) false c.each.invariant.count (sym off ∙ leaf) next refl; low = omega (arith, next, c.each.invariant.low) }
    ]
