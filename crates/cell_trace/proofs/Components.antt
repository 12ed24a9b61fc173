-- The components of a cell in a dimension, one after another.
use Rattle.std.proofs.Common.{◌≡◌, refl, sym, ◌∙◌, ap, arith, ℕ, ◌+◌, ◌<◌, ℤ, List, [], ◌∷◌, ◌++◌, length, get_or, take, Option, Some, None, true, false}
use Rattle.std.specs.Prelude.{IsSome}
use Rattle.std.specs.List.{filter_map}
use Rattle.std.specs.Option.{option_map}
use Rattle.std.proofs.lemmas.List.{append-nil, take_more}
use Rattle.std.proofs.lemmas.List.Elements.{filter_map-append}
use Rattle.cell_values.proofs.SumFacts.{some-components}
use Rattle.cube_space.specs.Layout.{Layout}
use Rattle.rule_model.specs.Targets.{component_cells, parts_at, with_components, with_element_at}

module _ (space : Layout) (cell dim : ℕ) where
  component : ℕ × ℤ → Option (ℕ × ℤ)
  component part = option_map (λ x. (x, part.1)) (with_element_at space cell dim part.0)

  module _ (parts : List (ℕ × ℤ)) (i : ℕ) (d : ℕ × ℤ) (less : i < length parts) where
    more : with_components space cell dim (take (i + 1) parts) ≡ with_components space cell dim (take i parts) ++ filter_map component (get_or parts i d ∷ [])
    unfolding component
    more = ap (with_components space cell dim) (take_more parts i d less) ∙ filter_map-append component (take i parts) (get_or parts i d ∷ [])

    pub more-some : (x : ℕ) → with_element_at space cell dim (get_or parts i d).0 ≡ Some x
        → with_components space cell dim (take (i + 1) parts) ≡ with_components space cell dim (take i parts) ++ (x, (get_or parts i d).1) ∷ []
    unfolding component
    more-some x is = more ∙ rw is refl

    pub more-none : with_element_at space cell dim (get_or parts i d).0 ≡ None → with_components space cell dim (take (i + 1) parts) ≡ with_components space cell dim (take i parts)
    unfolding component
    more-none is = more ∙ rw is (append-nil (with_components space cell dim (take i parts)))

  -- where there are components, some element is named
  pub some-parts : IsSome (component_cells space cell dim) → 0 < length (parts_at space cell dim)
  unfolding component_cells
  some-parts some = by (parts_at space cell dim) refl
    where
      by : (parts : List (ℕ × ℤ)) → parts_at space cell dim ≡ parts → 0 < length parts
      by [] none = let clash : false ≡ true = rw none at some in absurd (cc)
      by (part ∷ parts) is = omega arith

  pub all-components : (cells : List (ℕ × ℤ)) → component_cells space cell dim ≡ Some cells → with_components space cell dim (parts_at space cell dim) ≡ cells
  all-components cells is =
      let some : IsSome (component_cells space cell dim) = rw is refl in
      let whole = some-components space cell dim (some-parts some) in
      let same : Some (with_components space cell dim (parts_at space cell dim)) ≡ Some cells = sym whole ∙ is in
      cc
