use Rattle.std.proofs.Common.{◌≡◌, ap, arith, ℕ, suc, ◌+◌, ◌-◌, length}
use Rattle.cube_space.specs.Layout.{Layout}
use Rattle.check_order.specs.Inside.Tops.{cube_top}
use Rattle.check_order.proofs.Greatest.{mapped-from}
use Rattle.check_order.proofs.height.top.Goals as goal

pub each-preserved : goal.each-preserved
each-preserved c =
    let n : ℕ = length c.args.model.now.space.cubes in
    let more : n - c.each.cube ≡ suc (n - (c.each.cube + 1)) = omega (arith, c.each-test.true, c.cubes-cube-end.ensures, ap (λ (l : Layout). length l.cubes) c.space.ensures.space) in
    let next = mapped-from (cube_top c.args.model.now c.args.place) c.each.cube (n - c.each.cube) (n - (c.each.cube + 1)) more in
    omega (arith, next, c.each.invariant, c.max-most.ensures, c.cube_top.ensures)
