use Rattle.std.proofs.Common.{◌∙◌, Err, ap}
use Rattle.std.proofs.lemmas.Result.{err_from_is_err_and}
use Rattle.cube_space.specs.Layout.{axes}
use Rattle.view_query.specs.Binding.{is_each_once}
use Rattle.view_query.proofs.BoundFacts.{points_refused, points_counted}
use Rattle.view_query.proofs.binding.is_counted.Goals as goal

pub returns-in_err-points : goal.returns-in_err-points
returns-in_err-points c =
    let p = err_from_is_err_and c.from_residual-in_err-points.result c.from_residual-in_err-points.ensures.1 in
    points_refused (axes c.args.space.now c.args.cube) c.args.text.now c.as_slice.result.now c.as_slice-2.result.now c.as_slice-3.result.now c.in_ok-rows.rows c.in_ok-columns.columns
    c.as_slice.ensures c.as_slice-2.ensures c.as_slice-3.ensures c.in_ok-rows.ensures c.in_ok-columns.ensures
    c.from_residual-in_err-points.result c.in_err-points.field-0.0 (p.1 ∙ ap Err p.2) c.in_err-points.ensures

pub returns : goal.returns
returns c =
    points_counted (axes c.args.space.now c.args.cube) c.args.text.now c.as_slice.result.now c.as_slice-2.result.now c.as_slice-3.result.now c.in_ok-rows.rows c.in_ok-columns.columns
    c.as_slice.ensures c.as_slice-2.ensures c.as_slice-3.ensures c.in_ok-rows.ensures c.in_ok-columns.ensures
    c.in_ok-points.points c.axis_count-count.result c.is_each_once.result c.in_ok-points.ensures c.axis_count-count.ensures.value
    (c.is_each_once.ensures
    ∙ ap (λ l. is_each_once c.axis_count-count.result l c.as_slice-5.result.now c.as_slice-6.result.now) c.as_slice-4.ensures
    ∙ ap (λ l. is_each_once c.axis_count-count.result c.in_ok-rows.rows l c.as_slice-6.result.now) c.as_slice-5.ensures
    ∙ ap (λ l. is_each_once c.axis_count-count.result c.in_ok-rows.rows c.in_ok-columns.columns l) c.as_slice-6.ensures)
