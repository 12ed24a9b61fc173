use Rattle.std.proofs.Common.{rules, ◌≡◌, ◌<◌, ◌∙◌, true, ap, sym, arith, length}
use Rattle.cube_space.specs.Layout.{Layout, axes}
use Rattle.feed_turn.specs.Views.{turn_of}
use Rattle.feed_turn.proofs.Places.{args-long, arg-found}
use Rattle.feed_turn.proofs.Steps.{way-found, way-none}
use Rattle.feed_turn.proofs.back.first_way.Goals as goal

pub bounds-args-place : goal.bounds-args-place
bounds-args-place c =
    let view = c.args.view in
    omega (arith, c.each-test.true, c.axis_count-place-end.ensures.value, ap (λ (l : Layout). length (axes l view.reference.now.cube)) c.space.ensures.space, args-long view.model.now.space view.cube view.reference.now c.requires.view.reference, ap length c.as_slice-args.ensures)

pub way_back-requires-clause-arg : goal.way_back-requires-clause-arg
way_back-requires-clause-arg c =
    let view = c.args.view in
    let low : c.each.place < length view.reference.now.args = omega (arith, c.each-test.true, c.axis_count-place-end.ensures.value, ap (λ (l : Layout). length (axes l view.reference.now.cube)) c.space.ensures.space, args-long view.model.now.space view.cube view.reference.now c.requires.view.reference) in
    arg-found c.as_slice-args.result.now view.reference.now.args c.each.place c.index-args-place.result c.as_slice-args.ensures low c.index-args-place.is

pub returns-then-is_some-clause-way : goal.returns-then-is_some-clause-way
returns-then-is_some-clause-way c =
    let view = c.args.view in
    let low : c.each.place < length view.reference.now.args = omega (arith, c.each-test.true, c.axis_count-place-end.ensures.value, ap (λ (l : Layout). length (axes l view.reference.now.cube)) c.space.ensures.space, args-long view.model.now.space view.cube view.reference.now c.requires.view.reference) in
    let at = arg-found c.as_slice-args.result.now view.reference.now.args c.each.place c.index-args-place.result c.as_slice-args.ensures low c.index-args-place.is in
    let on : c.is_some.result ≡ true = search rules in
    way-found (turn_of view) c.args.dim view.reference.now.args c.each.place c.index-args-place.result c.in_ok-way.way at c.in_ok-way.ensures.way (sym c.is_some.ensures ∙ on) c.each.invariant.way

pub returns-clause-way : goal.returns-clause-way
returns-clause-way c =
    let view = c.args.view in
    way-none (turn_of view) c.args.dim view.reference.now.args c.each.place
    (omega (arith, c.each-test.false, c.axis_count-place-end.ensures.value, ap (λ (l : Layout). length (axes l view.reference.now.cube)) c.space.ensures.space, args-long view.model.now.space view.cube view.reference.now c.requires.view.reference)) c.each.invariant.way
