use Rattle.std.proofs.Common.{◌≡◌, IfOk, sym, ◌∙◌, subst}
use Rattle.cell_trace.specs.Inside.Sums.{IsSumIn}
use Rattle.cell_trace.proofs.PlaceFacts.{no_components}
use Rattle.cell_trace.proofs.known.children.Goals as goal

pub returns-then-not-has_components-clause-value : goal.returns-then-not-has_components-clause-value
returns-then-not-has_components-clause-value c =
    let none = (no_components c.args.here.now c.args.dim (sym c.has_components.ensures ∙ c.if-not-has_components.true)).0 in
    subst (λ x. IfOk c.stet.result (λ value. value ≡ x)) (sym none) c.stet.ensures.value

pub returns-clause-value : goal.returns-clause-value
returns-clause-value c =
    let is = subst (λ one. IsSumIn c.args.here.now c.args.dim one.sum) (sym c.index.ensures) (c.in_ok-place.ensures.sum.sum c.index.result.now) in
    is.value
