use Rattle.std.proofs.Common.{◌≡◌, ◌*◌, ◌≤◌, drop, min}
use Rattle.rule_model.specs.Weights.{weight_product}
use Rattle.model_bind.proofs.Greatest.{product_over}
use Rattle.model_bind.proofs.products.weight_product.Given as goal

abbrev pub invariant-loop-dim : goal.invariant-loop-dim
invariant-loop-dim l = record {
  fits : l.product ≤ 18446744073709551615;
  rest : min (l.product * product_over l.space.dimensions (drop l.dim-index l.dims)) 18446744073709551615 ≡ min (weight_product l.space l.cube) 18446744073709551615;
}
