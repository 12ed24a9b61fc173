use Rattle.std.proofs.Common.{◌≡◌, take, drop, map}
use Rattle.rule_model.specs.Weights.{AreWeightsOf}
use Rattle.model_bind.specs.Foundation.{dimensions_refusal}
use Rattle.model_bind.proofs.coefficients.weights_of.Given as goal

-- the dimensions so far have their coefficients, so the first refusal is one of those that are left
abbrev pub invariant-loop-text : goal.invariant-loop-text
invariant-loop-text l = record {
  weights : AreWeightsOf (map (λ text. text.dimension) (take l.text-index l.dims)) l.weights.items;
  rest : dimensions_refusal (drop l.text-index l.dims) ≡ dimensions_refusal l.dims;
}
