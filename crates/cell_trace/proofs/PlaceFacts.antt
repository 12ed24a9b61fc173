-- What formulas take at the cell, by what is read of the version.
use Rattle.std.proofs.Common.{◌≡◌, ◌↔◌, refl, sym, ◌∙◌, ℕ, ℤ, Bool, true, false, not, List, [], ◌∷◌, filter, Option, Some, None, Result, Ok, Err, IfOk, IsTrue}
use Rattle.std.specs.declared.alloc.AllocError.{AllocError}
use Rattle.std.specs.Prelude.{IsSome, is_some}
use Rattle.std.specs.List.{Contains}
use Rattle.cube_fixed.specs.declared.value.Value.TheVariants.{Num}
use Rattle.cube_fixed.specs.Arithmetic.{is_zero}
use Rattle.cube_space.specs.Cells.{is_leaf_cell}
use Rattle.cell_store.specs.declared.entry.Entry.{Entry}
use Rattle.cell_store.specs.Entries.{cells_of, number_at}
use Rattle.cell_values.specs.Reading.{value_on}
use Rattle.cell_versions.proofs.Cells.{stored_is}
use Rattle.lists.proofs.Members.{among_from_contains, contains_from_among}
use Rattle.lists.proofs.Rising.{among}
use Rattle.rule_laws.specs.RuleSystem.{weighted_sum}
use Rattle.rule_model.specs.System.{system_of}
use Rattle.rule_model.specs.Targets.{component_cells}
use Rattle.rule_model.specs.Weights.{leaves_below}
use Rattle.stored_laws.specs.Stored.{stored_in}
use Rattle.stored_laws.proofs.Stored.{stored-number}
use Rattle.cell_trace.specs.declared.line.Line.TheVariants.{Input}
use Rattle.cell_trace.specs.declared.sums.Summed.{Summed}
use Rattle.cell_trace.specs.Trace.{part_lines}
use Rattle.cell_trace.specs.Inside.Place.{Place, children_at, has_components_at, stet_at}
use Rattle.cell_trace.specs.Inside.Parts.{own_lines_at, part_lines_at}
use Rattle.cell_trace.specs.Inside.Sums.{IsOwnSum, IsSumIn}

-- whether a number is stored, by a search
pub has_number : (entries : List Entry) (cell : ℕ) (has : Bool) → IsTrue has ↔ Contains (cells_of entries) cell → has ≡ is_some (stored_in entries cell)
has_number entries cell true tells = sym (stored_is cell entries ∙ among_from_contains (cells_of entries) cell (tells.0 refl))
has_number entries cell false tells = by (among cell (cells_of entries)) refl
  where
    by : (b : Bool) → among cell (cells_of entries) ≡ b → false ≡ is_some (stored_in entries cell)
    by true is = let clash : false ≡ true = tells.1 (contains_from_among (cells_of entries) cell is) in absurd (cc)
    by false is = sym (stored_is cell entries ∙ is)

module _ (p : Place) where
  pub number_is : is_leaf_cell p.version.model.space p.cell ≡ true → Num (number_at p.version.stored p.cell) ≡ stet_at p
  unfolding stet_at
  number_is leaf = rw leaf (sym (stored-number p.version.stored p.cell))

  -- of a leaf cell that line is all
  pub input_is : is_leaf_cell p.version.model.space p.cell ≡ true → own_lines_at p ≡ Input (is_some (stored_in p.version.stored p.cell)) ∷ []
  unfolding own_lines_at system_of
  input_is leaf = rw leaf refl

  abbrev leaves : List (ℕ × ℤ)
  leaves = leaves_below p.version.model.space p.cell

  own_sum : (sum : Summed) → is_leaf_cell p.version.model.space p.cell ≡ false → sum.value ≡ weighted_sum (value_on p.version) leaves
      → sum.lines.items ≡ part_lines (value_on p.version) (filter (λ pair. not (is_zero (value_on p.version pair.0))) leaves) → IsOwnSum p sum
  unfolding stet_at own_lines_at system_of value_on
  own_sum sum consolidated value lines = record { value = rw consolidated value; lines = rw (consolidated, lines) refl }

  pub own_sum_is : (r : Result Summed AllocError) → is_leaf_cell p.version.model.space p.cell ≡ false
      → IfOk r (λ sum. sum.value ≡ weighted_sum (value_on p.version) leaves)
      → IfOk r (λ sum. sum.lines.items ≡ part_lines (value_on p.version) (filter (λ pair. not (is_zero (value_on p.version pair.0))) leaves))
      → IfOk r (IsOwnSum p)
  own_sum_is (Ok sum) consolidated value lines = own_sum sum consolidated value lines
  own_sum_is (Err e) consolidated value lines = tt

  module _ (dim : ℕ) where
    abbrev cells : Option (List (ℕ × ℤ))
    cells = component_cells p.version.model.space p.cell dim

    pub some_components : has_components_at p dim ≡ true → IsSome cells
    unfolding has_components_at
    some_components is = is

    sum_in : (sum : Summed) (o : Option (List (ℕ × ℤ))) → cells ≡ o → is_some o ≡ true
        → ((parts : List (ℕ × ℤ)) → cells ≡ Some parts → sum.value ≡ weighted_sum (value_on p.version) parts)
        → ((parts : List (ℕ × ℤ)) → cells ≡ Some parts → sum.lines.items ≡ part_lines (value_on p.version) parts)
        → IsSumIn p dim sum
    unfolding children_at part_lines_at
    sum_in sum None is some value lines = cc
    sum_in sum (Some parts) is some value lines = record { value = rw is (value parts is); lines = rw is (lines parts is) }

    pub sum_in_is : (r : Result Summed AllocError) → has_components_at p dim ≡ true
        → IfOk r (λ sum. (parts : List (ℕ × ℤ)) → cells ≡ Some parts → sum.value ≡ weighted_sum (value_on p.version) parts)
        → IfOk r (λ sum. (parts : List (ℕ × ℤ)) → cells ≡ Some parts → sum.lines.items ≡ part_lines (value_on p.version) parts)
        → IfOk r (IsSumIn p dim)
    unfolding has_components_at
    sum_in_is (Ok sum) some value lines = sum_in sum cells refl some value lines
    sum_in_is (Err e) some value lines = tt

    -- where the cell's element has no components
    none_of : (o : Option (List (ℕ × ℤ))) → cells ≡ o → is_some o ≡ false → (children_at p dim ≡ stet_at p) × (part_lines_at p dim ≡ [])
    unfolding children_at part_lines_at
    none_of None is none = (rw is refl, rw is refl)
    none_of (Some parts) is none = cc

    pub no_components : has_components_at p dim ≡ false → (children_at p dim ≡ stet_at p) × (part_lines_at p dim ≡ [])
    unfolding has_components_at
    no_components none = none_of cells refl none
