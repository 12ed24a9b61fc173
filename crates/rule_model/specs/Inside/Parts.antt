-- The statements of a cube, as they are read for the elements of a cell.
use Rattle.std.specs.Prelude.{◌≡◌, ℕ, ◌+◌, Bool, true, false, ◌&&◌, ◌||◌, Option}
use Rattle.std.specs.Prelude.{None, IfSome, List, [], ◌∷◌, length, All, drop}
use Rattle.std.specs.Prelude.{if◌then◌else◌, option_map, is_some}
use Rattle.std.specs.List.{position}
use Rattle.std.specs.List.Sorted.{IsStrictlyIncreasing}
use Rattle.std.specs.Option.{option_map_or}
use Rattle.rule_laws.specs.declared.formula.Formula.{Formula}
use Rattle.rule_laws.specs.declared.formula.Formula.TheFolds.{fold-Truth}
use Rattle.rule_laws.specs.declared.formula.Truth.{Truth}
use Rattle.rule_model.specs.declared.rules.Statement.{Statement}
use Rattle.rule_model.specs.Areas.{in_sets}
use Rattle.rule_model.specs.Input.{has_stet, has_continue, stet_step, continue_step, either_step}

-- there is a set for each of so many dimensions, and those that list elements rise
pub record AreSets (dimensions : ℕ) (sets : List (Option (List ℕ))) : Type 0 where
  pub each : length sets ≡ dimensions
  pub rising : All (λ set. IfSome set IsStrictlyIncreasing) sets

-- each statement has such an area
abbrev pub HaveSets : ℕ → List Statement → Type 0
HaveSets dimensions statements = All (λ statement. AreSets dimensions statement.area.sets) statements

-- the formula of a statement for a kind of cell, `true` for leaf cells
abbrev pub part_of_kind : Statement → Bool → Option Formula
part_of_kind statement true = statement.leaf
part_of_kind statement false = statement.cons

-- the same, where the statement's area has these elements
unfoldable pub part_for : Statement → List ℕ → Bool → Option Formula
part_for statement elements leaf = if in_sets statement.area.sets elements then part_of_kind statement leaf else None

-- the first statement from a place on that has a part for these elements
unfoldable pub first_part : List Statement → List ℕ → Bool → ℕ → Option ℕ
first_part statements elements leaf place =
    option_map (λ k. place + k)
    (position (λ statement. is_some (part_for statement elements leaf)) (drop place statements))

-- whether a leaf cell of these elements is open for input
abbrev pub is_open_by : List Statement → List ℕ → Bool
is_open_by [] elements = true
is_open_by (statement ∷ statements) elements =
    option_map_or (λ f. has_stet f || (has_continue f && is_open_by statements elements))
    (part_for statement elements true) (is_open_by statements elements)

-- whether STET stands in a condition, and whether CONTINUE does
abbrev pub truth_has_stet : Truth → Bool
truth_has_stet = fold-Truth Bool Bool stet_step either_step

abbrev pub truth_has_continue : Truth → Bool
truth_has_continue = fold-Truth Bool Bool continue_step either_step
