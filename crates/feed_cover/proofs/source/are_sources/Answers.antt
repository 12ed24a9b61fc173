use Rattle.std.proofs.Common.{rules, ◌≡◌, ◌∙◌, ◌<◌, sym, ap, subst, arith, length, Some, false}
use Rattle.std.specs.Prelude.{slice_index_or}
use Rattle.cube_space.specs.Layout.{axes, sizes}
use Rattle.rule_model.specs.Conditions.{IsSet}
use Rattle.order_laws.proofs.SetFacts.{set-at}
use Rattle.ref_order.proofs.Sums.{sets-long, set-found}
use Rattle.feed_cover.proofs.Sources.{all-sources, sources-done, sources-fail}
use Rattle.feed_cover.proofs.source.are_sources.Goals as goal

pub offset_bounds-as_slice-place : goal.offset_bounds-as_slice-place
offset_bounds-as_slice-place c =
    let low : c.args.place < length c.as_slice.result.now = omega (arith, sets-long c.args.model.now.space c.args.cube c.args.area.now c.requires.area, c.requires.element.axis.inside, ap length c.as_slice.ensures) in
    omega (arith, low, c.as_slice.type_inv)

pub bounds-as_slice-place : goal.bounds-as_slice-place
bounds-as_slice-place c = omega (arith, sets-long c.args.model.now.space c.args.cube c.args.area.now c.requires.area, c.requires.element.axis.inside, ap length c.as_slice.ensures)

pub returns-in_default : goal.returns-in_default
returns-in_default c =
    let low : c.args.place < length c.args.area.now.sets = omega (arith, sets-long c.args.model.now.space c.args.cube c.args.area.now c.requires.area, c.requires.element.axis.inside) in
    let set = set-found c.as_slice.result.now c.args.area.now.sets c.args.place c.index-as_slice-place.result c.as_slice.ensures low c.index-as_slice-place.is in
    all-sources (axes c.args.model.now.space c.args.cube) c.args.area.now.sets c.args.place c.args.element (sym set ∙ c.in_default.is)

pub is_source-requires-clause-listed : goal.is_source-requires-clause-listed
is_source-requires-clause-listed c =
    let low : c.args.place < length c.args.area.now.sets = omega (arith, sets-long c.args.model.now.space c.args.cube c.args.area.now c.requires.area, c.requires.element.axis.inside) in
    let set = set-found c.as_slice.result.now c.args.area.now.sets c.args.place c.index-as_slice-place.result c.as_slice.ensures low c.index-as_slice-place.is in
    let here = set-at (sizes c.args.model.now.space c.args.cube) c.args.area.now.sets c.args.place c.requires.area in
    (subst (IsSet (slice_index_or (sizes c.args.model.now.space c.args.cube) c.args.place 0)) (sym set ∙ c.in-Some.is ∙ ap Some (sym c.as_slice-in-each.ensures)) here).1

pub returns-then-not-is_source : goal.returns-then-not-is_source
returns-then-not-is_source c =
    let off : c.is_source.result ≡ false = search rules in
    let low : c.args.place < length c.args.area.now.sets = omega (arith, sets-long c.args.model.now.space c.args.cube c.args.area.now c.requires.area, c.requires.element.axis.inside) in
    let set = set-found c.as_slice.result.now c.args.area.now.sets c.args.place c.index-as_slice-place.result c.as_slice.ensures low c.index-as_slice-place.is in
    sources-fail (axes c.args.model.now.space c.args.cube) c.args.area.now.sets c.args.place c.args.element c.each.k _ c.as_slice-in-each.result.now c.leaves-pairs.result.now
    (sym set ∙ c.in-Some.is ∙ ap Some (sym c.as_slice-in-each.ensures)) c.leaves-pairs.ensures.leaves c.each-test.true (sym c.is_source.ensures ∙ off)

pub returns : goal.returns
returns c =
    let low : c.args.place < length c.args.area.now.sets = omega (arith, sets-long c.args.model.now.space c.args.cube c.args.area.now c.requires.area, c.requires.element.axis.inside) in
    let set = set-found c.as_slice.result.now c.args.area.now.sets c.args.place c.index-as_slice-place.result c.as_slice.ensures low c.index-as_slice-place.is in
    sources-done (axes c.args.model.now.space c.args.cube) c.args.area.now.sets c.args.place c.args.element c.each.k _ c.leaves-pairs.result.now
    (sym set ∙ c.in-Some.is) c.leaves-pairs.ensures.leaves c.each.invariant (omega (arith, c.each-test.false))
