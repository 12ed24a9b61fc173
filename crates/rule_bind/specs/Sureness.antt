-- Comparisons of a table with a number that are the same for all leaf elements that a statement's area has. A part for
-- leaf cells has the number of one of them in place of the table, so that the zero test knows both sides.
use Rattle.std.specs.Prelude.{ℕ, ℤ, Bool, true, false, not, ◌&&◌, ◌||◌, nat_lt, List, length, find, Option, Some, None}
use Rattle.std.specs.Prelude.{slice_get, if◌then◌else◌}
use Rattle.std.specs.Option.{option_map, option_map_or, option_and_then}
use Rattle.std.specs.Bool.{beq}
use Rattle.std.specs.List.{list_all, range_with_len}
use Rattle.cube_fixed.specs.declared.value.Value.TheVariants.{Num}
use Rattle.dim_core.specs.Outline.{Outline}
use Rattle.cube_space.specs.Layout.{Layout, axes}
use Rattle.cube_space.specs.Cells.{is_leaf}
use Rattle.rule_laws.specs.Operation.{comparison_of}
use Rattle.rule_laws.specs.Tables.{number_of}
use Rattle.rule_laws.specs.declared.formula.Formula.{Formula, out-Formula}
use Rattle.rule_laws.specs.declared.formula.Formula.TheOpen.{Formula-F}
use Rattle.rule_laws.specs.declared.formula.Formula.TheVariants as formulas
use Rattle.rule_laws.specs.declared.formula.Truth.{Truth}
use Rattle.rule_laws.specs.declared.formula.Truth.TheVariants as truths
use Rattle.rule_laws.specs.declared.operation.Rel.{Rel}
use Rattle.rule_bind.specs.declared.sureness.Test.{Test}

-- what a statement's area has in each dimension of its cube; of a part for consolidated cells nothing is known
abbrev pub Sets : Type 0
Sets = List (Option (List ℕ))

-- the elements of a dimension that a set of an area has
abbrev pub elements_in : Outline → Option (List ℕ) → List ℕ
elements_in d None = range_with_len 0 (length d.elements)
elements_in d (Some listed) = listed

abbrev pub is_leaf_of : Outline → ℕ → Bool
is_leaf_of d e = nat_lt e (length d.elements) && is_leaf d e

abbrev pub first_leaf : Outline → Option (List ℕ) → Option ℕ
first_leaf d set = find (is_leaf_of d) (elements_in d set)

-- whether a comparison holds for a number of the table
abbrev pub holds : Test → ℤ → Bool
holds test v =
    if test.is_left then comparison_of test.rel (Num v) (Num test.number)
    else comparison_of test.rel (Num test.number) (Num v)

-- whether it has this truth for an element, if that is a leaf
abbrev pub is_alike : Outline → Test → List ℤ → Bool → ℕ → Bool
is_alike d test table truth e = not (is_leaf_of d e) || beq (holds test (number_of table e)) truth

-- whether it is the same for all leaf elements of a set as for this number
abbrev pub are_alike : Outline → Option (List ℕ) → Test → List ℤ → ℤ → Bool
are_alike d set test table v = list_all (is_alike d test table (holds test v)) (elements_in d set)

abbrev pub first_number : Outline → Option (List ℕ) → Test → List ℤ → ℕ → Option ℤ
first_number d set test table e =
    if are_alike d set test table (number_of table e) then Some (number_of table e) else None

-- the number of the first leaf element, where the comparison is the same for all
unfoldable pub number_in : Outline → Option (List ℕ) → Test → List ℤ → Option ℤ
number_in d set test table = option_and_then (first_number d set test table) (first_leaf d set)

-- the same by the dimension at a place of a cube
unfoldable pub number_at : Layout → ℕ → Sets → Test → ℕ → List ℤ → Option ℤ
number_at space cube sets test place table =
    option_and_then (λ d. option_and_then (λ set. number_in d set test table) (slice_get sets place))
    (slice_get (axes space cube) place)

-- a table, or the number that stands in its place
abbrev pub table_side : Layout → ℕ → Sets → Test → ℕ → List ℤ → Formula
table_side space cube sets test place table =
    option_map_or formulas.Number (number_at space cube sets test place table) (formulas.Table place table)

abbrev pub number_layer : Formula-F Formula Truth → Option ℤ
number_layer (Formula-F.Number k) = Some k
number_layer _ = None

-- the comparison of a table with a formula, where that is a number
abbrev pub test_with : Rel → Bool → Formula → Option Test
test_with rel is_left f =
    option_map (λ k. record { rel = rel; number = k; is_left = is_left }) (number_layer (out-Formula f))

abbrev pub side_layer : Layout → ℕ → Sets → Test → Formula → Formula-F Formula Truth → Formula
side_layer space cube sets test f (Formula-F.Table place table) = table_side space cube sets test place table
side_layer space cube sets test f _ = f

-- a side of a comparison as it is bound
unfoldable pub side : Layout → ℕ → Sets → Option Test → Formula → Formula
side space cube sets None f = f
side space cube sets (Some test) f = side_layer space cube sets test f (out-Formula f)

-- a comparison of two formulas as it is bound
unfoldable pub comparison : Layout → ℕ → Sets → Rel → Formula → Formula → Truth
comparison space cube sets rel a b = truths.Compare rel
    (side space cube sets (test_with rel true b) a)
    (side space cube sets (test_with rel false a) b)
