use Rattle.std.proofs.Common.{◌≡◌, ℕ, ◌<◌, ◌≤◌, drop, length}
use Rattle.std.specs.List.{range_with_len}
use Rattle.rule_model.specs.Weights.{weight_product}
use Rattle.model_bind.specs.Foundation.{first_refusal, product_refusal, products_refusal}
use Rattle.model_bind.proofs.products.check_products.Given as goal

-- the cubes so far have small products, so the first refusal is one of those that are left
abbrev pub invariant-loop-cube : goal.invariant-loop-cube
invariant-loop-cube l = record {
  small : (cube : ℕ) → cube < l.cube → weight_product l.space cube ≤ 1000000000;
  rest : first_refusal (product_refusal l.places l.space) (drop l.cube (range_with_len 0 (length l.space.cubes))) ≡ products_refusal l.places l.space;
}
