use Rattle.std.proofs.Common.{◌∙◌, ap}
use Rattle.model_bind.specs.Foundation.{cube_places}
use Rattle.model_bind.proofs.Firsts.{unrefused}
use Rattle.model_bind.proofs.Layouts.{layout-same, parts-layout, coefficients-refused, cells-refused, products-refused, nothing-refused}
use Rattle.model_bind.proofs.foundation.foundation_of.Goals as goal

pub returns-in_err-weights-clause-answered : goal.returns-in_err-weights-clause-answered
returns-in_err-weights-clause-answered c =
    coefficients-refused _ _ c.args.text c.in_err-weights.field-0.0 c.from_residual.result c.from_residual.ensures.1 (rw c.dims.ensures.dims at c.in_err-weights.ensures.answered)

pub space_of-requires : goal.space_of-requires
space_of-requires c =
    let same = layout-same c.args.text _ _ _ _ c.in_ok-dimensions.ensures c.into_parts-dims.ensures.dims c.in_ok-shapes.ensures.shapes c.into_parts-dims.ensures.cubes in
    parts-layout c.args.text _ c.into_parts-dims.ensures.valid same

pub returns-in_err-space-clause-answered : goal.returns-in_err-space-clause-answered
returns-in_err-space-clause-answered c =
    let same = layout-same c.args.text _ _ _ _ c.in_ok-dimensions.ensures c.into_parts-dims.ensures.dims c.in_ok-shapes.ensures.shapes c.into_parts-dims.ensures.cubes in
    let lines = c.deref-2.ensures.value ∙ c.in_ok-places.ensures ∙ ap cube_places (c.deref.ensures.value ∙ c.into_parts-dims.ensures.cubes) in
    let none = unrefused _ c.in_ok-weights.weights (rw c.dims.ensures.dims at c.in_ok-weights.ensures.answered) in
    cells-refused _ _ c.args.text c.in_err-space.field-0.0 c.from_residual-in_err-space.result c.from_residual-in_err-space.ensures.1 c.deref-2.result.now _ lines same none c.in_err-space.ensures.answered

pub returns-in_err-check_products-clause-answered : goal.returns-in_err-check_products-clause-answered
returns-in_err-check_products-clause-answered c =
    let same = layout-same c.args.text _ _ _ _ c.in_ok-dimensions.ensures c.into_parts-dims.ensures.dims c.in_ok-shapes.ensures.shapes c.into_parts-dims.ensures.cubes in
    let own = c.in_ok-places.ensures ∙ ap cube_places (c.deref.ensures.value ∙ c.into_parts-dims.ensures.cubes) in
    let none = unrefused _ c.in_ok-weights.weights (rw c.dims.ensures.dims at c.in_ok-weights.ensures.answered) in
    let fits = unrefused _ c.in_ok-space.space (rw c.deref-2.ensures.value at c.in_ok-space.ensures.answered) in
    products-refused _ _ c.args.text c.in_err-check_products.field-0.0 c.from_residual-in_err-check_products.result c.from_residual-in_err-check_products.ensures.1
    c.in_ok-places.places.items _ c.in_ok-space.space own same c.in_ok-space.ensures.made none fits (rw c.deref-4.ensures.value at c.in_err-check_products.ensures.answered)

pub returns-clause-answered : goal.returns-clause-answered
returns-clause-answered c =
    let same = layout-same c.args.text _ _ _ _ c.in_ok-dimensions.ensures c.into_parts-dims.ensures.dims c.in_ok-shapes.ensures.shapes c.into_parts-dims.ensures.cubes in
    let own = c.in_ok-places.ensures ∙ ap cube_places (c.deref.ensures.value ∙ c.into_parts-dims.ensures.cubes) in
    let none = unrefused _ c.in_ok-weights.weights (rw c.dims.ensures.dims at c.in_ok-weights.ensures.answered) in
    let fits = unrefused _ c.in_ok-space.space (rw c.deref-2.ensures.value at c.in_ok-space.ensures.answered) in
    let small = unrefused _ c.in_ok-check_products.field-0 (rw c.deref-4.ensures.value at c.in_ok-check_products.ensures.answered) in
    nothing-refused c.args.text c.in_ok-places.places.items _ c.in_ok-space.space _ own same c.in_ok-space.ensures.made none fits small
