use Rattle.std.proofs.Common.{◌≡◌, ◌∙◌, sym, ap, arith, subst, ◌<◌, length, ℕ, true}
use Rattle.late_example.specs.Inside.Narrowing.{is_sought, narrowed}
use Rattle.ref_order.proofs.Sums.{sets-long}
use Rattle.late_example.proofs.Sets.{count_is}
use Rattle.late_example.proofs.Places.{all-places, no-place, some-place}
use Rattle.late_example.proofs.search.with_first.Goals as goal

pub offset_bounds-as_slice-dim : goal.offset_bounds-as_slice-dim
offset_bounds-as_slice-dim c =
    let low : c.args.dim < length c.as_slice.result.now = omega (arith, sets-long c.args.cells.model.now.space c.args.cells.cube c.args.cells.area.now c.requires.cells.area, c.requires.dim, ap length c.as_slice.ensures) in
    omega (arith, low, c.as_slice.type_inv)

pub bounds-as_slice-dim : goal.bounds-as_slice-dim
bounds-as_slice-dim c = omega (arith, sets-long c.args.cells.model.now.space c.args.cells.cube c.args.cells.area.now c.requires.cells.area, c.requires.dim, ap length c.as_slice.ensures)

pub first_place-requires-clause-between : goal.first_place-requires-clause-between
first_place-requires-clause-between c =
    let cells = c.args.cells in
    let same = count_is cells.model.now.space cells.cube c.args.dim c.len-size.result c.count-end.result cells.area.now c.as_slice.result.now c.index-as_slice-dim.result c.requires.cells.area c.requires.dim c.as_slice.ensures c.index-as_slice-dim.is
    (c.len-size.ensures.len ∙ sym c.axis.ensures.size) c.count-end.ensures in
    omega (arith, same, some-place cells.model.now c.space-space.ensures.valid c.space-space.ensures.rules cells.cube c.requires.cells.cube c.args.sought c.requires.read c.requires.position cells.area.now c.requires.cells.area c.args.dim c.requires.dim c.requires.late)

pub first_place-requires-clause-high : goal.first_place-requires-clause-high
first_place-requires-clause-high c =
    let cells = c.args.cells in
    let same = count_is cells.model.now.space cells.cube c.args.dim c.len-size.result c.count-end.result cells.area.now c.as_slice.result.now c.index-as_slice-dim.result c.requires.cells.area c.requires.dim c.as_slice.ensures c.index-as_slice-dim.is
    (c.len-size.ensures.len ∙ sym c.axis.ensures.size) c.count-end.ensures in
    omega (arith, same)

pub first_place-requires-clause-none : goal.first_place-requires-clause-none
first_place-requires-clause-none c =
    no-place c.args.cells.model.now c.space-space.ensures.valid c.space-space.ensures.rules c.args.cells.cube c.requires.cells.cube c.args.sought c.requires.read c.requires.position c.args.cells.area.now c.requires.cells.area c.args.dim c.requires.dim

pub first_place-requires-clause-some : goal.first_place-requires-clause-some
first_place-requires-clause-some c =
    let cells = c.args.cells in
    let same = count_is cells.model.now.space cells.cube c.args.dim c.len-size.result c.count-end.result cells.area.now c.as_slice.result.now c.index-as_slice-dim.result c.requires.cells.area c.requires.dim c.as_slice.ensures c.index-as_slice-dim.is
    (c.len-size.ensures.len ∙ sym c.axis.ensures.size) c.count-end.ensures in
    subst (λ (n : ℕ). is_sought cells.model.now cells.cube (narrowed cells.area.now c.args.dim 0 n) c.args.sought ≡ true) (sym same)
    (all-places cells.model.now c.space-space.ensures.valid c.space-space.ensures.rules cells.cube c.requires.cells.cube c.args.sought c.requires.read c.requires.position cells.area.now c.requires.cells.area c.args.dim c.requires.dim c.requires.late)
