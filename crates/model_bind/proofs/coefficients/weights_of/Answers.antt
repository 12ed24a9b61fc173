use Rattle.std.proofs.Common.{◌≡◌, ◌+◌, ◌∷◌, ◌++◌, [], ◌∙◌, Option, sym, ap, subst, drop, map, take}
use Rattle.std.proofs.lemmas.List.{map-append, take_more}
use Rattle.dim_text.specs.Progress.{Text}
use Rattle.dim_weights.specs.Table.{IsWeightsOf}
use Rattle.dim_core.specs.Outline.{Outline}
use Rattle.model_bind.specs.declared.fault.DeployFault.{DeployFault}
use Rattle.model_bind.specs.Foundation.{dimension_refusal, dimensions_refusal, IsAnsweredBy}
use Rattle.model_bind.proofs.Firsts.{first-at, first-after, refused-as, unrefused, zip-push}
use Rattle.model_bind.proofs.coefficients.weights_of.Goals as goal

pub returns-in_err-table-clause-answered : goal.returns-in_err-table-clause-answered
returns-in_err-table-clause-answered c =
    let dims = c.args.dims.now in
    let i = c.loop-text.text-index in
    let text = c.text-item.result in
    let P : Option DeployFault → Type 0 = λ cause. IsAnsweredBy cause c.from_residual-in_err-table.result in
    let whole = first-at dimension_refusal dims i text c.loop-text-test.true c.text-item.is in
    subst P (sym whole ∙ c.loop-text.invariant.rest)
    (refused-as _ _ (dimension_refusal text) (dimensions_refusal (drop (i + 1) dims)) c.in_err-table.field-0.0 c.from_residual-in_err-table.result c.from_residual-in_err-table.ensures.1 c.in_err-table.ensures.answered)

pub loop-text-preserved : goal.loop-text-preserved
loop-text-preserved c =
    let dims = c.args.dims.now in
    let i = c.loop-text.text-index in
    let text = c.text-item.result in
    let outline : Text → Outline = λ t. t.dimension in
    let none = unrefused _ c.in_ok-table.table c.in_ok-table.ensures.answered in
    let next = first-after dimension_refusal dims i text c.loop-text-test.true c.text-item.is none in
    let more : take (i + 1) dims ≡ take i dims ++ text ∷ [] = take_more dims i text c.loop-text-test.true ∙ ap (λ t. take i dims ++ t ∷ []) (sym c.text-item.is) in
    let whole = ap (map outline) more ∙ map-append outline (take i dims) (text ∷ []) in
    record {
      weights = rw (whole, c.in_ok-push.ensures.items) (zip-push IsWeightsOf (map outline (take i dims)) c.loop-text.weights.items text.dimension c.in_ok-table.table c.loop-text.invariant.weights c.in_ok-table.ensures.weights);
      rest = sym next ∙ c.loop-text.invariant.rest;
    }
