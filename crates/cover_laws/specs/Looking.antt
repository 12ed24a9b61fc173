-- What arguments name from the leaf cells of an area, looked at dimension by dimension.
use Rattle.std.specs.Prelude.{ℕ, zero, suc, ◌==◌, Bool, true, false, not, ◌&&◌, ◌||◌, Option, None, unwrap_or}
use Rattle.std.specs.Prelude.{List, [], ◌∷◌, length, slice_get, slice_index_or}
use Rattle.std.specs.Option.{option_map_or}
use Rattle.cube_space.specs.Layout.{Layout, axes, sizes}
use Rattle.rule_laws.specs.declared.reference.Arg.{Arg}
use Rattle.rule_laws.specs.declared.reference.Arg.TheVariants.{Fixed, Moved}
use Rattle.rule_model.specs.declared.area.Area.{Area}
use Rattle.order_laws.specs.Scales.{set_count, set_element, is_leaf_element}

-- whether each of the numbers below this passes, and whether some does
abbrev pub each_below : (ℕ → Bool) → ℕ → Bool
each_below test zero = true
each_below test (suc n) = test n && each_below test n

abbrev pub some_below : (ℕ → Bool) → ℕ → Bool
some_below test zero = false
some_below test (suc n) = test n || some_below test n

-- where a map sends an element
abbrev pub sent : List (Option ℕ) → ℕ → Option ℕ
sent to element = unwrap_or (slice_get to element) None

-- an area of a cube, the arguments by which its leaf cells name elements, and which of these elements count, by the
-- place of the argument
pub record Look : Type 0 where
  pub space : Layout
  pub cube : ℕ
  pub area : Area
  pub args : List Arg
  pub counts : ℕ → ℕ → Bool

-- whether each element that the area has in a dimension passes, and whether some does
abbrev pub each_in : Look → ℕ → (ℕ → Bool) → Bool
each_in look i test =
    each_below (λ k. test (set_element (slice_index_or look.area.sets i None) k))
    (set_count (slice_index_or (sizes look.space look.cube) i 0) (slice_index_or look.area.sets i None))

abbrev pub some_in : Look → ℕ → (ℕ → Bool) → Bool
some_in look i test =
    some_below (λ k. test (set_element (slice_index_or look.area.sets i None) k))
    (set_count (slice_index_or (sizes look.space look.cube) i 0) (slice_index_or look.area.sets i None))

-- whether an argument that follows this dimension names an element that counts
abbrev pub names_one : (ℕ → Bool) → Arg → ℕ → ℕ → Bool
names_one counts (Fixed target) i element = true
names_one counts (Moved from to) i element = not (i == from) || option_map_or counts (sent to element) false

-- whether each argument from this place on that follows the dimension does
abbrev pub name_each : (ℕ → ℕ → Bool) → ℕ → List Arg → ℕ → ℕ → Bool
name_each counts j [] i element = true
name_each counts j (arg ∷ args) i element =
    names_one (counts j) arg i element && name_each counts (suc j) args i element

-- a narrow element is a leaf from which each argument that follows its dimension names an element that counts
unfoldable pub is_narrow : Look → ℕ → ℕ → Bool
is_narrow look i element =
    is_leaf_element (axes look.space look.cube) i element && name_each look.counts 0 look.args i element

-- whether each narrow element of the area in a dimension passes
abbrev pub each_narrow : Look → ℕ → (ℕ → Bool) → Bool
each_narrow look i test = each_in look i (λ element. not (is_narrow look i element) || test element)

-- whether the arguments that name the same element from each cell name one that counts, from this place on
abbrev pub fixed_count : (ℕ → ℕ → Bool) → ℕ → List Arg → Bool
fixed_count counts j [] = true
fixed_count counts j (Fixed target ∷ args) = counts j target && fixed_count counts (suc j) args
fixed_count counts j (Moved from to ∷ args) = fixed_count counts (suc j) args

-- whether from some leaf cell of the area every argument names an element that counts: there is a narrow element in
-- each dimension
unfoldable pub is_possible : Look → Bool
is_possible look =
    each_below (λ i. some_in look i (is_narrow look i)) (length (axes look.space look.cube))
    && fixed_count look.counts 0 look.args

-- whether each element that an argument names from narrow elements passes
abbrev pub each_named : Look → (ℕ → Bool) → Arg → Bool
each_named look test (Fixed target) = test target
each_named look test (Moved from to) = each_narrow look from (λ element. option_map_or test (sent to element) true)

-- and each that one of these arguments names, which begin at this place
abbrev pub all_named : Look → (ℕ → ℕ → Bool) → ℕ → List Arg → Bool
all_named look test j [] = true
all_named look test j (arg ∷ args) = each_named look (test j) arg && all_named look test (suc j) args
