use Rattle.std.proofs.Common.{◌≡◌, ◌∙◌, ℕ, Option, None, List, [], IfOk, ap, sym, subst, arith, length}
use Rattle.std.specs.Prelude.{slice_index_or}
use Rattle.std.specs.Option.{option_map_or}
use Rattle.dim_core.specs.Outline.{Outline}
use Rattle.cube_space.specs.Layout.{axes}
use Rattle.rule_model.specs.Conditions.{IsSet}
use Rattle.feed_turn.specs.Leaves.{set_leaves}
use Rattle.feed_turn.proofs.Places.{sets-long, set-found, axis-here, set-inside}
use Rattle.feed_turn.proofs.area.area_leaves.Goals as goal

pub bounds-as_slice-place : goal.bounds-as_slice-place
bounds-as_slice-place c = omega (arith, sets-long c.args.model.now.space c.args.cube c.args.area.now c.requires.area, c.requires.place, ap length c.as_slice.ensures)

pub set_leaves-requires : goal.set_leaves-requires
set_leaves-requires c =
    let space = c.args.model.now.space in
    let at = axis-here c.space.result.now space c.args.cube c.args.place c.axis-dimension.result.now c.space.ensures.space c.axis-dimension.ensures in
    let set = set-found c.as_slice.result.now c.args.area.now.sets c.args.place c.index-as_slice-place.result c.as_slice.ensures (omega (arith, sets-long space c.args.cube c.args.area.now c.requires.area, c.requires.place)) c.index-as_slice-place.is in
    subst (IsSet (length c.axis-dimension.result.now.elements)) (sym set) (set-inside (axes space c.args.cube) c.args.area.now.sets c.args.place c.axis-dimension.result.now c.requires.area at)

pub returns : goal.returns
returns c =
    let space = c.args.model.now.space in
    let d = c.axis-dimension.result.now in
    let at = axis-here c.space.result.now space c.args.cube c.args.place d c.space.ensures.space c.axis-dimension.ensures in
    let set = set-found c.as_slice.result.now c.args.area.now.sets c.args.place c.index-as_slice-place.result c.as_slice.ensures (omega (arith, sets-long space c.args.cube c.args.area.now c.requires.area, c.requires.place)) c.index-as_slice-place.is in
    subst (λ (xs : List ℕ). IfOk c.set_leaves.result (λ leaves. leaves.items ≡ xs))
    (ap (set_leaves d) set ∙ ap (λ (o : Option Outline). option_map_or (λ d. set_leaves d (slice_index_or c.args.area.now.sets c.args.place None)) o []) (sym at)) c.set_leaves.ensures
