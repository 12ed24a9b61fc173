use Rattle.std.proofs.Common.{◌≡◌, ◌∙◌, sym, ap, arith, ℕ, suc, ◌+◌, ◌-◌, length}
use Rattle.cube_space.specs.Layout.{Layout}
use Rattle.check_order.specs.References.{late_of, late_references}
use Rattle.check_order.proofs.Firsts.{list-first, list-past}
use Rattle.check_order.proofs.late.first_late.Goals as goal

pub returns-in-Some-clause-value : goal.returns-in-Some-clause-value
unfolding late_references
returns-in-Some-clause-value c =
    let n : ℕ = length c.args.model.now.space.cubes in
    let more : n - c.each.cube ≡ suc (n - (c.each.cube + 1)) = omega (arith, c.each-test.true, c.cubes-cube-end.ensures, ap (λ (l : Layout). length l.cubes) c.space.ensures.space) in
    list-first (late_of c.args.model.now) c.each.cube (n - c.each.cube) (n - (c.each.cube + 1)) c.in-Some.fault more (sym c.late_in_cube.ensures ∙ c.in-Some.is) ∙ c.each.invariant

pub each-preserved : goal.each-preserved
each-preserved c =
    let n : ℕ = length c.args.model.now.space.cubes in
    let more : n - c.each.cube ≡ suc (n - (c.each.cube + 1)) = omega (arith, c.each-test.true, c.cubes-cube-end.ensures, ap (λ (l : Layout). length l.cubes) c.space.ensures.space) in
    list-past (late_of c.args.model.now) c.each.cube (n - c.each.cube) (n - (c.each.cube + 1)) more (sym c.late_in_cube.ensures ∙ c.in_default.is) ∙ c.each.invariant
