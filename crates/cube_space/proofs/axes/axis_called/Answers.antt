use Rattle.std.proofs.Common.{◌∙◌, sym, ap, arith}
use Rattle.dim_name.specs.Name.{is_same_name}
use Rattle.cube_space.specs.Layout.{axes}
use Rattle.cube_space.proofs.AxisFacts.{first_place, no_place}
use Rattle.cube_space.proofs.axes.axis_called.Goals as goal

pub returns-then-eq-clause-place : goal.returns-then-eq-clause-place
returns-then-eq-clause-place c =
    first_place (λ d. is_same_name c.args.name.now d.name) (axes c.args.space.now c.args.cube) c.loop-place.place c.axis.result.now c.axis.ensures
    (ap (is_same_name c.args.name.now) (sym c.name.ensures) ∙ sym c.eq.ensures ∙ c.if-eq.true) c.loop-place.invariant

pub returns-clause-place : goal.returns-clause-place
returns-clause-place c =
    no_place (λ d. is_same_name c.args.name.now d.name) (axes c.args.space.now c.args.cube)
    (λ k low d is. c.loop-place.invariant k (omega (arith, low, c.loop-place-test.false, c.axis_count-place-end.ensures.value)) d is)
