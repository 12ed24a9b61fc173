use Rattle.std.proofs.Common.{◌∙◌, sym, ap, arith, Bool, ◌&&◌, ◌+◌, drop}
use Rattle.cube_space.specs.Layout.{axes_of}
use Rattle.rule_model.proofs.Coefs.{is_at}
use Rattle.cell_spread.specs.Inside.Meets.{meets}
use Rattle.cell_spread.proofs.Areas.{IsHere, is-here, sets-long}
use Rattle.cell_spread.proofs.ruled.meets.Goals.{After-meets_in}
use Rattle.cell_spread.proofs.ruled.meets.Goals as goal

pub bounds-weights-dims : goal.bounds-weights-dims
bounds-weights-dims c =
    (is_at c.args.model.now.space.dimensions c.weights.result.now c.args.dims.now c.args.at.now c.args.at.now c.each.place c.weights.ensures c.requires.dims c.requires.at c.requires.at c.each-test.true).row

pub bounds-at-place : goal.bounds-at-place
bounds-at-place c =
    (is_at c.args.model.now.space.dimensions c.weights.result.now c.args.dims.now c.args.at.now c.args.at.now c.each.place c.weights.ensures c.requires.dims c.requires.at c.requires.at c.each-test.true).at_low

pub offset_bounds-sets-place : goal.offset_bounds-sets-place
offset_bounds-sets-place c = omega (arith, c.each-test.true, c.requires.few)

pub bounds-sets-place : goal.bounds-sets-place
bounds-sets-place c =
    let long = sets-long c.args.model.now.space.dimensions c.args.dims.now c.args.sets.now c.requires.dims c.requires.sets in
    omega (arith, long, c.each-test.true)

pub meets_in-requires : goal.meets_in-requires
meets_in-requires c =
    (is-here c.args.model.now.space.dimensions c.weights.result.now c.args.dims.now c.args.at.now c.args.sets.now c.each.place c.index-weights-dims.result c.index-sets-place.result c.weights.ensures c.requires.dims c.requires.at c.requires.sets
    c.each-test.true c.index-weights-dims.is c.index-sets-place.is).element

here : (c : After-meets_in) → IsHere c.args.model.now.space.dimensions c.args.dims.now c.args.at.now c.args.sets.now c.each.place c.index-weights-dims.result c.index-sets-place.result
here c =
    is-here c.args.model.now.space.dimensions c.weights.result.now c.args.dims.now c.args.at.now c.args.sets.now c.each.place c.index-weights-dims.result c.index-sets-place.result c.weights.ensures c.requires.dims c.requires.at c.requires.sets
    c.each-test.true c.index-weights-dims.is c.index-sets-place.is

pub returns-then-not-meets_in : goal.returns-then-not-meets_in
returns-then-not-meets_in c =
    let h = here (goal.at.returns-then-not-meets_in c).After-meets_in in
    let rest : Bool = meets (axes_of c.args.model.now.space.dimensions (drop (c.each.place + 1) c.args.dims.now)) (drop (c.each.place + 1) c.args.at.now) (drop (c.each.place + 1) c.args.sets.now) in
    sym (sym c.each.invariant.same ∙ h.split ∙ ap (λ (b : Bool). b && rest) (sym (c.meets_in.ensures h.d h.table h.is_set) ∙ c.if-not-meets_in.true))

pub each-preserved : goal.each-preserved
each-preserved c =
    let h = here (goal.at.each-preserved c).After-meets_in in
    let rest : Bool = meets (axes_of c.args.model.now.space.dimensions (drop (c.each.place + 1) c.args.dims.now)) (drop (c.each.place + 1) c.args.at.now) (drop (c.each.place + 1) c.args.sets.now) in
    record { same = sym (h.split ∙ ap (λ (b : Bool). b && rest) (sym (c.meets_in.ensures h.d h.table h.is_set) ∙ c.if-not-meets_in.false)) ∙ c.each.invariant.same }
