use Rattle.std.proofs.Common.{◌<◌, subst, pos, ℕ, ℤ}
use Rattle.std.specs.Prelude.{slice_index_or}
use Rattle.std.proofs.lemmas.List.{get_or_default}
use Rattle.cube_space.specs.Layout.{sizes}
use Rattle.ref_order.proofs.Args.{component-below}
use Rattle.order_find.proofs.Weighing.{parts-few}
use Rattle.order_find.proofs.tables.parts_of.Goals as goal

pub returns-clause-within : goal.returns-clause-within
returns-clause-within c = λ k d low.
    let space = c.args.model.now.space in
    let cube = c.args.place.cube in
    let first = component-below space cube c.last_of-last.result c.args.place.element k c.axis-dimension.result.now c.components.result.now c.axis-dimension.ensures.valid c.axis-dimension.ensures.axis c.components.ensures low in
    let here = subst (λ (x : ℕ × ℤ). x.0 < slice_index_or (sizes space cube) c.last_of-last.result 0) (get_or_default c.components.result.now k (0, pos 0) d low) first in
    subst (λ i. (slice_index_or c.components.result.now k d).0 < slice_index_or (sizes space cube) i 0) c.last_of-last.ensures.last here

pub returns-clause-few : goal.returns-clause-few
returns-clause-few c = parts-few c.axis-dimension.result.now c.args.place.element c.components.result.now c.len-count.ensures.valid c.components.ensures
