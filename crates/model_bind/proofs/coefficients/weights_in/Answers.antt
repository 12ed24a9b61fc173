use Rattle.std.proofs.Common.{◌≡◌, ap, length, arith}
use Rattle.dim_core.specs.Outline.{Outline}
use Rattle.dim_weights.specs.declared.weights.Weights.{Weights}
use Rattle.dim_weights.specs.declared.fault.WeightFault.TheVariants.{CoefficientTooLarge}
use Rattle.model_bind.proofs.Elements.{answer-there}
use Rattle.model_bind.proofs.coefficients.weights_in.Goals as goal

pub position-requires : goal.position-requires
position-requires c =
    let told = c.in-Err-CoefficientTooLarge in
    let is : told.field-0 ≡ CoefficientTooLarge told.element = cc (told.field-0-is) in
    let there = answer-there Weights c.dimension.result.now told.element told.field-0 is told.ensures.refused told.ensures.accepted in
    omega (arith, there, ap (λ (d : Outline). length d.elements) c.dimension.ensures.dimension)
