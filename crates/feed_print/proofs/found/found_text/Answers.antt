use Rattle.std.proofs.Common.{ℕ, sym, subst, add-one}
use Rattle.cube_space.specs.Layout.{Layout}
use Rattle.feed_print.specs.FoundText.{AddsOf, IsTextUpTo}
use Rattle.feed_print.proofs.found.found_text.Goals as goal

-- the text of one cube more
pub cubes-preserved : goal.cubes-preserved
cubes-preserved c =
    let feeders = c.in_ok-found.found.feeders in
    let unturned = c.in_ok-found.found.unturned in
    let cube = c.cubes.cube in
    let old = c.cubes.text.items in
    let new = c.print_found.new.out.items in
    let adds = subst (λ (s : Layout). AddsOf s feeders unturned cube old new) c.space-space.ensures.space c.in_ok-print_found.ensures in
    subst (λ (n : ℕ). IsTextUpTo c.args.model.now.space feeders unturned n new) (sym (add-one cube)) (old, c.cubes.invariant, adds)
