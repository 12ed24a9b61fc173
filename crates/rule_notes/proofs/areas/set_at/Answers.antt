use Rattle.std.proofs.Common.{◌<◌, arith, ap, sym, subst, length}
use Rattle.std.specs.Prelude.{slice_index_or}
use Rattle.cube_space.specs.Layout.{sizes}
use Rattle.rule_model.specs.Conditions.{IsSet}
use Rattle.order_laws.proofs.SetFacts.{set-at}
use Rattle.ref_order.proofs.Sums.{sets-long, set-found}
use Rattle.rule_notes.proofs.areas.set_at.Goals as goal

pub offset_bounds-as_slice-dim : goal.offset_bounds-as_slice-dim
offset_bounds-as_slice-dim c =
    let low : c.args.dim < length c.as_slice.result.now = omega (arith, sets-long c.args.model.now.space c.args.cube c.args.area.now c.requires.area, c.requires.dim, ap length c.as_slice.ensures) in
    omega (arith, low, c.as_slice.type_inv)

pub bounds-as_slice-dim : goal.bounds-as_slice-dim
bounds-as_slice-dim c = omega (arith, sets-long c.args.model.now.space c.args.cube c.args.area.now c.requires.area, c.requires.dim, ap length c.as_slice.ensures)

pub returns-clause-set : goal.returns-clause-set
returns-clause-set c =
    let low : c.args.dim < length c.args.area.now.sets = omega (arith, sets-long c.args.model.now.space c.args.cube c.args.area.now c.requires.area, c.requires.dim) in
    set-found c.as_slice.result.now c.args.area.now.sets c.args.dim c.index-as_slice-dim.result c.as_slice.ensures low c.index-as_slice-dim.is

pub returns-clause-valid : goal.returns-clause-valid
returns-clause-valid c =
    let low : c.args.dim < length c.args.area.now.sets = omega (arith, sets-long c.args.model.now.space c.args.cube c.args.area.now c.requires.area, c.requires.dim) in
    let set = set-found c.as_slice.result.now c.args.area.now.sets c.args.dim c.index-as_slice-dim.result c.as_slice.ensures low c.index-as_slice-dim.is in
    subst (IsSet (slice_index_or (sizes c.args.model.now.space c.args.cube) c.args.dim 0)) (sym set) (set-at (sizes c.args.model.now.space c.args.cube) c.args.area.now.sets c.args.dim c.requires.area)
