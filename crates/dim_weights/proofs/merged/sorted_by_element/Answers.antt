use Rattle.std.proofs.Common.{◌≡◌, subst, ℕ, ℤ, List, rules}
use Rattle.std.specs.List.Sorted.{IsPermutation}
use Rattle.dim_weights.proofs.merged.sorted_by_element.Goals as goal

pub returns : goal.returns
returns c =
    let same : c.in_ok-sorted.sorted.items ≡ c.args.parts.now = c.in_ok-sorted.ensures.items_if_clones_equal (λ x y same. search rules) in
    subst (λ (xs : List (ℕ × ℤ)). IsPermutation xs c.sort_by_key.new.self.items) same c.in_ok-sort_by_key.ensures.permutation
