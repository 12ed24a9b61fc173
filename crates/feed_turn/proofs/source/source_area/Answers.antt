use Rattle.std.proofs.Common.{◌<◌, ◌∙◌, ◌++◌, ◌+◌, ℕ, Option, List, ap, sym, arith, length, drop}
use Rattle.cube_space.specs.Layout.{Layout, axes}
use Rattle.rule_model.specs.declared.area.Area.{Area}
use Rattle.feed_turn.specs.Turning.{source_sets, source_area}
use Rattle.feed_turn.specs.Views.{turn_of}
use Rattle.feed_turn.proofs.Places.{args-long, arg-found}
use Rattle.feed_turn.proofs.Steps.{sources-more, sources-done}
use Rattle.feed_turn.proofs.source.source_area.Goals as goal

pub bounds-args-place : goal.bounds-args-place
bounds-args-place c =
    let view = c.args.view in
    omega (arith, c.each-test.true, c.axis_count-place-end.ensures.value, ap (λ (l : Layout). length (axes l view.reference.now.cube)) c.space.ensures.space, args-long view.model.now.space view.cube view.reference.now c.requires.view.reference, ap length c.as_slice-args.ensures)

pub source_set-requires-clause-arg : goal.source_set-requires-clause-arg
source_set-requires-clause-arg c =
    let view = c.args.view in
    let low : c.each.place < length view.reference.now.args = omega (arith, c.each-test.true, c.axis_count-place-end.ensures.value, ap (λ (l : Layout). length (axes l view.reference.now.cube)) c.space.ensures.space, args-long view.model.now.space view.cube view.reference.now c.requires.view.reference) in
    arg-found c.as_slice-args.result.now view.reference.now.args c.each.place c.index-args-place.result c.as_slice-args.ensures low c.index-args-place.is

pub each-preserved : goal.each-preserved
each-preserved c =
    let view = c.args.view in
    let low : c.each.place < length view.reference.now.args = omega (arith, c.each-test.true, c.axis_count-place-end.ensures.value, ap (λ (l : Layout). length (axes l view.reference.now.cube)) c.space.ensures.space, args-long view.model.now.space view.cube view.reference.now c.requires.view.reference) in
    let at = arg-found c.as_slice-args.result.now view.reference.now.args c.each.place c.index-args-place.result c.as_slice-args.ensures low c.index-args-place.is in
    let more = sources-more (turn_of view) view.reference.now.args c.each.place c.index-args-place.result c.each.sets.items c.in_ok-set.set at c.in_ok-set.ensures.set c.each.invariant.sets in
    record {
      sets = more ∙ ap (λ (xs : List (Option (List ℕ))). xs ++ source_sets (turn_of view) (c.each.place + 1) (drop (c.each.place + 1) view.reference.now.args)) (sym c.in_ok-push.ensures.items);
      turns = c.in_ok-set.ensures.turns;
    }

pub returns-clause-area : goal.returns-clause-area
unfolding source_area
returns-clause-area c =
    let view = c.args.view in
    let done = sources-done (turn_of view) view.reference.now.args c.each.place c.each.sets.items
    (omega (arith, c.each-test.false, c.axis_count-place-end.ensures.value, ap (λ (l : Layout). length (axes l view.reference.now.cube)) c.space.ensures.space, args-long view.model.now.space view.cube view.reference.now c.requires.view.reference)) c.each.invariant.sets in
    ap (λ (sets : List (Option (List ℕ))). let area : Area = record { sets = sets } in area) (c.new.ensures ∙ done)
