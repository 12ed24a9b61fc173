-- The levels of a dimension's elements.
use Rattle.std.proofs.Common.{◌≡◌, ℕ, ◌<◌, length, arith, All}
use Rattle.std.proofs.lemmas.List.{length-map}
use Rattle.equations.specs.Equations.{Solves}
use Rattle.dim_order.specs.Levels.{level_side}
use Rattle.dim_order.proofs.LevelFacts.{level-solves, level-only, level_over-at, level-below}
use Rattle.dim_core.specs.Outline.{Outline, Element, IsDimension, IsElement, component_lists, components_of, level}

pub length-component_lists : (d : Outline) → length (component_lists d.elements) ≡ length d.elements
length-component_lists d = length-map d.elements (λ (e : Element ℕ). e.components)

module _ (d : Outline) (dim : IsDimension d) where
  pub levels-solve : Solves (IsElement d) (level_side (component_lists d.elements)) (level d)
  levels-solve element here = level-solves (component_lists d.elements) dim.order dim.ordered element (omega (arith, here, length-component_lists d))

  pub levels-only : (table : ℕ → ℕ) → Solves (IsElement d) (level_side (component_lists d.elements)) table → (element : ℕ) → IsElement d element → table element ≡ level d element
  levels-only table solves element here =
      level-only (component_lists d.elements) dim.order dim.ordered table (λ e within. solves e (omega (arith, within, length-component_lists d))) element (omega (arith, here, length-component_lists d))

  pub component-lower : (element : ℕ) → IsElement d element → All (λ part. level d part.0 < level d element) (components_of d element)
  component-lower element here k e there =
      let lower = level_over-at (level d) (components_of d element) k e there in
      let same = levels-solve element here in
      omega (arith, lower, same)

  -- there are more elements than levels
  pub levels-below : (element : ℕ) → IsElement d element → level d element < length d.elements
  levels-below element here =
      let below = level-below (component_lists d.elements) dim.order dim.ordered element (omega (arith, here, length-component_lists d)) in
      omega (arith, below, length-component_lists d)
