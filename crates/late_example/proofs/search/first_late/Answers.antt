use Rattle.std.proofs.Common.{◌≡◌, sym, subst, arith, ◌<◌, ◌+◌, suc, ℕ, length}
use Rattle.cube_space.specs.Layout.{axes}
use Rattle.late_example.specs.Inside.Narrowing.{IsNarrowed, narrowed}
use Rattle.late_example.proofs.Narrowed.{start, step}
use Rattle.late_example.proofs.search.first_late.Goals as goal

pub each-init : goal.each-init
each-init c =
    let cells = c.args.cells in record {
      known = c.none-known.ensures cells.model.now cells.cube;
      narrowed = subst (IsNarrowed cells.model.now cells.cube cells.area.now c.args.sought 0) (sym c.in_ok-narrow.ensures)
          (start cells.model.now c.space-space.ensures.valid c.space-space.ensures.rules cells.cube c.requires.cells.cube c.args.sought c.requires.read c.requires.position cells.area.now c.requires.cells.area c.requires.late);
    }

pub each-preserved : goal.each-preserved
each-preserved c =
    let cells = c.args.cells in
    let found = c.in_ok-narrow-2.ensures.first in
    let low : c.each.dim < length (axes cells.model.now.space cells.cube) = omega (arith, c.each-test.true, c.axis_count-dim-end.ensures.count) in
    let next : suc c.each.dim ≡ c.each.dim + 1 = omega arith in
    let one = step cells.model.now c.space-space.ensures.valid c.space-space.ensures.rules cells.cube c.requires.cells.cube c.args.sought c.requires.read c.requires.position cells.area.now c.each.dim low c.each.narrow c.each.invariant.narrowed found.0 found.1 in record {
      known = c.with_first.ensures.known;
      narrowed = subst (IsNarrowed cells.model.now cells.cube cells.area.now c.args.sought (c.each.dim + 1)) (sym found.2)
          (subst (λ (k : ℕ). IsNarrowed cells.model.now cells.cube cells.area.now c.args.sought k (narrowed c.each.narrow c.each.dim found.0 (suc found.0))) next one);
    }
