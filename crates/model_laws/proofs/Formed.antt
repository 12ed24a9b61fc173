-- The system of a model is well formed.
use Rattle.std.proofs.Common.{◌≡◌, refl, sym, ap, subst, ℕ, ◌<◌, ℤ, List, [], ◌∷◌, set, Some, None, Option}
use Rattle.std.specs.Prelude.{slice_get}
use Rattle.std.specs.List.{All, filter_map, cons_option}
use Rattle.std.specs.Option.{option_map, option_map_or}
use Rattle.std.proofs.lemmas.List.Elements.{All-head, All-tail, All-nil, All-cons}
use Rattle.std.proofs.lemmas.Option.{cond_some, option_and_then_some}
use Rattle.dim_core.specs.Outline.{Outline, components_of, level}
use Rattle.dim_core.proofs.LevelLaws.{component-lower}
use Rattle.cube_space.specs.Layout.{Layout, axes}
use Rattle.cube_space.specs.Cells.{IsSpace, IsCell, Cell, cube_of, elements_of, cell_at, cell_number, is_place}
use Rattle.cube_space.proofs.Places.{cell-place, place_number, is_place-parts, place-within, cell_at-place}
use Rattle.rule_laws.specs.declared.reference.Reference.{Reference}
use Rattle.rule_laws.specs.Ordered.{IsWellFormed}
use Rattle.rule_model.specs.BoundModel.{BoundModel}
use Rattle.rule_model.specs.Conditions.{AreRules}
use Rattle.rule_model.specs.Targets.{elements_by, target, element_at, with_element_at, with_components, parts_at, component_cells}
use Rattle.rule_model.specs.Order.{cell_level}
use Rattle.rule_model.specs.System.{system_of}
use Rattle.model_laws.proofs.Levels.{axis-is, element-of, level_sum, lower-level, leaf_cell-level, total_cell-level}
use Rattle.model_laws.proofs.Below.{below-ranks}

-- ---- a cell of this place

pub record IsCellOf (space : Layout) (cube : ℕ) (elements : List ℕ) (c : ℕ) : Type 0 where
  pub cell : IsCell space c
  pub at : cell_at space c ≡ record { cube = cube; elements = elements }

number-cell : (space : Layout) (cube : ℕ) (elements : List ℕ) (c : ℕ) → cell_number space cube elements ≡ Some c → IsCellOf space cube elements c
unfolding cell_number
number-cell space cube elements c is =
    let parts = cond_some (is_place space cube elements) (place_number space cube elements) c is in
    let place = is_place-parts space cube elements parts.0 in
    subst (IsCellOf space cube elements) parts.1 (record { cell = place-within space cube elements place; at = cell_at-place space cube elements place })

pub target-cell : (space : Layout) (r : Reference) (c t : ℕ) → target space r c ≡ Some t → IsCell space t
unfolding target
target-cell space r c t is =
    option_and_then_some (cell_number space r.cube) (elements_by (elements_of space c) r.args) t is (λ elements own number. (number-cell space r.cube elements t number).cell)

-- ---- components

-- what comes of a list by a map
mapped : {X Y : Type 0} (P : X → Type 0) (Q : Y → Type 0) (h : X → Option Y) → ((x : X) (y : Y) → P x → h x ≡ Some y → Q y) → (xs : List X) → All P xs → All Q (filter_map h xs)
mapped P Q h gives [] all = All-nil Q
mapped {Y = Y} P Q h gives (x ∷ xs) all = by (h x) refl (mapped P Q h gives xs (All-tail P x xs all))
  where
    by : (o : Option Y) → h x ≡ o → All Q (filter_map h xs) → All Q (cons_option o (filter_map h xs))
    by None is rest = rest
    by (Some y) is rest = All-cons Q y (filter_map h xs) (gives x y (All-head P x xs all) is) rest

module _ (space : Layout) (valid : IsSpace space) (c dim : ℕ) (cell : IsCell space c) where
  abbrev IsLower : ℕ × ℤ → Type 0
  IsLower pair = IsCell space pair.0 × (cell_level space pair.0 < cell_level space c)

  -- the cell with a component in place of its element
  component-cell : (d : Outline) (part : ℕ) (x : ℕ) → slice_get (axes space (cube_of space c)) dim ≡ Some d → level d part < level d (element_at space c dim) → with_element_at space c dim part ≡ Some x
      → IsCell space x × (cell_level space x < cell_level space c)
  unfolding cell_level
  component-cell d part x own lower is =
      let there = number-cell space (cube_of space c) (set (elements_of space c) dim part) x is in
      let within = (element-of (axes space (cube_of space c)) (elements_of space c) dim d (cell-place space c cell).place.digits own).0 in
      let less = lower-level (axes space (cube_of space c)) (elements_of space c) dim d part own within lower in
      let Below : Cell → Type 0 = λ (at : Cell). level_sum (axes space at.cube) at.elements < level_sum (axes space (cube_of space c)) (elements_of space c) in
      (there.cell, subst Below (sym there.at) less)

  lower-parts : (d : Outline) → slice_get (axes space (cube_of space c)) dim ≡ Some d → All IsLower (with_components space c dim (components_of d (element_at space c dim)))
  lower-parts d own =
      let dimension = axis-is space valid (cube_of space c) dim d own in
      let element = (element-of (axes space (cube_of space c)) (elements_of space c) dim d (cell-place space c cell).place.digits own).1 in
      mapped (λ part. level d part.0 < level d (element_at space c dim)) IsLower (λ part. option_map (λ x. (x, part.1)) (with_element_at space c dim part.0))
      (λ part pair lower is. by d own part pair lower (with_element_at space c dim part.0) refl is)
      (components_of d (element_at space c dim)) (component-lower d dimension (element_at space c dim) element)
    where
      by : (d : Outline) → slice_get (axes space (cube_of space c)) dim ≡ Some d → (part pair : ℕ × ℤ) → level d part.0 < level d (element_at space c dim) → (o : Option ℕ) → with_element_at space c dim part.0 ≡ o
          → option_map (λ x. (x, part.1)) o ≡ Some pair → IsLower pair
      by d own part pair lower None is some = absurd (cc)
      by d own part pair lower (Some x) is some =
          let same : (x, part.1) ≡ pair = cc in
          subst IsLower same (component-cell d part.0 x own lower is)

  pub lower-components : (pairs : List (ℕ × ℤ)) → component_cells space c dim ≡ Some pairs → All IsLower pairs
  unfolding component_cells
  lower-components pairs is = by (slice_get (axes space (cube_of space c)) dim) refl
    where
      given : (parts : List (ℕ × ℤ)) → parts_at space c dim ≡ parts → All IsLower (with_components space c dim parts) → All IsLower pairs
      given [] none all = let clash : None ≡ Some pairs = rw none at is in absurd (cc)
      given (part ∷ parts) some all =
          let same : Some (with_components space c dim (part ∷ parts)) ≡ Some pairs = rw some at is in
          let one : with_components space c dim (part ∷ parts) ≡ pairs = cc in
          subst (All IsLower) one all

      by : (o : Option Outline) → slice_get (axes space (cube_of space c)) dim ≡ o → All IsLower pairs
      by None none = given [] (ap (λ o. option_map_or (λ d. components_of d (element_at space c dim)) o []) none) (All-nil IsLower)
      by (Some d) own = given (components_of d (element_at space c dim)) (ap (λ o. option_map_or (λ d. components_of d (element_at space c dim)) o []) own) (lower-parts d own)

-- ---- the system

pub well_formed : (m : BoundModel) → IsSpace m.space → AreRules m.space m.rules → IsWellFormed (system_of m)
unfolding system_of
well_formed m valid rules = record {
  leaves_below = λ c cell. below-ranks m valid rules c cell;
  target_cell = λ r c t cell is. target-cell m.space r c t is;
  component_cells = λ c dim pairs cell is. lower-components m.space valid c dim cell pairs is;
  leaf_level = λ c leaf. leaf_cell-level m.space valid c leaf.0 leaf.1;
  total_level = λ c cell total. total_cell-level m.space valid c cell total;
}
