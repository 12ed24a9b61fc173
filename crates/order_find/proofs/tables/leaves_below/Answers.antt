use Rattle.std.proofs.Common.{◌≡◌, ◌∙◌, sym, ap, subst, arith, true, Some, length, [], if◌then◌else◌}
use Rattle.std.specs.Prelude.{slice_get, slice_index_or}
use Rattle.std.specs.Option.{option_map_or}
use Rattle.std.proofs.lemmas.Bool.{cond-true}
use Rattle.cube_space.specs.Layout.{axes, sizes}
use Rattle.dim_weights.specs.Table.{leaves_of}
use Rattle.order_find.specs.Numbers.{width}
use Rattle.order_find.specs.Slots.{leads_below}
use Rattle.order_find.proofs.Weighing.{leaves-few}
use Rattle.order_find.proofs.tables.leaves_below.Goals as goal

pub returns-then-leads_below-clause-leaves : goal.returns-then-leads_below-clause-leaves
returns-then-leads_below-clause-leaves c =
    let m = c.args.model.now in
    let place = c.args.place in
    let d = c.axis.result.now in
    let is = c.weights.ensures d c.axis.ensures.axis in
    let at = subst (λ i. slice_get (axes m.space place.cube) i ≡ Some d) c.last_of-last.ensures.last c.axis.ensures.axis in
    let leads : leads_below m place d ≡ true = sym (c.leads_below.ensures d at) ∙ c.if-leads_below.true in
    c.leaves.ensures.leaves d is ∙ sym (cond-true (leads_below m place d) (leaves_of d place.element) [] leads)
    ∙ sym (ap (λ o. option_map_or (λ d. if leads_below m place d then leaves_of d place.element else []) o []) at)

pub returns-then-leads_below-clause-few : goal.returns-then-leads_below-clause-few
returns-then-leads_below-clause-few c =
    let is = c.weights.ensures c.axis.result.now c.axis.ensures.axis in
    leaves-few c.axis.result.now c.args.place.element c.leaves.result.now c.len-count.ensures.valid (c.leaves.ensures.leaves c.axis.result.now is)

pub returns-then-leads_below-clause-within : goal.returns-then-leads_below-clause-within
returns-then-leads_below-clause-within c = λ k d low.
    let is = c.weights.ensures c.axis.result.now c.axis.ensures.axis in
    let size : length c.weights.result.now ≡ width c.args.model.now.space c.args.place.cube =
    is.whole ∙ sym c.axis.ensures.size ∙ ap (λ i. slice_index_or (sizes c.args.model.now.space c.args.place.cube) i 0) c.last_of-last.ensures.last in
    omega (arith, c.leaves.ensures.within k d low, size)
