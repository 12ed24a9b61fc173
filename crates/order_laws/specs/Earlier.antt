-- Whether what a formula reads stands before its cell in the declared order, decided dimension by dimension. At each
-- position, and at the level, 'the cell that is read less the cell' is a start plus one number for each dimension, so
-- the greatest of it over all cells of a kind is found from the greatest numbers of each dimension. An order may have
-- positions of its own for consolidated cells. So the cells are parted by their kind and by the kind of what they read.
use Rattle.std.specs.Prelude.{◌≡◌, ℕ, zero, suc, ◌+◌, ◌<◌, ◌==◌, Bool, true, false, not, ◌&&◌, ◌||◌, IsTrue}
use Rattle.std.specs.Prelude.{ℤ, pos, neg_ℤ, ◌-ℤ◌, int_lt, int_le, Option, Some, None, unwrap_or}
use Rattle.std.specs.Prelude.{List, [], ◌∷◌, All, length, slice_get, slice_index_or, if◌then◌else◌}
use Rattle.std.specs.Option.{option_map_or}
use Rattle.dim_core.specs.Outline.{Outline}
use Rattle.dim_weights.specs.Table.{is_nonzero}
use Rattle.cube_space.specs.Layout.{axes, sizes}
use Rattle.rule_laws.specs.declared.reference.Arg.{Arg}
use Rattle.rule_laws.specs.declared.reference.Arg.TheVariants.{Fixed, Moved}
use Rattle.rule_laws.specs.declared.formula.Formula.{Formula}
use Rattle.rule_laws.specs.Meaning.{Precedent, Named, Components, precedents}
use Rattle.rule_laws.specs.RuleSystem.{part_of}
use Rattle.rule_model.specs.declared.rules.Statement.{Statement}
use Rattle.rule_model.specs.declared.area.Area.{Area}
use Rattle.rule_model.specs.System.{rule_of}
use Rattle.rule_model.specs.BoundModel.{BoundModel, rules_of}
use Rattle.rule_model.specs.Order.{most_positions}
use Rattle.order_laws.specs.Greatest.{plus, larger, greatest, only}
use Rattle.order_laws.specs.Scales.{scale_of, fixed_sum, moved_sum, parts_in, greatest_in, is_leaf_element}

-- two kinds, `true` for leaf cells: of a cell, and of the cell that it reads. Of one dimension: whether their elements
-- there are leaves
pub record Kinds : Type 0 where
  pub own : Bool
  pub its : Bool

abbrev pub is_same : Bool → Bool → Bool
is_same true b = b
is_same false b = not b

abbrev pub are_same : Kinds → Kinds → Bool
are_same a b = is_same a.own b.own && is_same a.its b.its

-- a leaf cell has leaves alone
abbrev pub both : Kinds → Kinds → Kinds
both a b = record { own = a.own && b.own; its = a.its && b.its }

-- whether the fixed arguments of a reference name leaves alone, from this argument on
abbrev pub fixed_leaves : List Outline → ℕ → List Arg → Bool
fixed_leaves dimensions j [] = true
fixed_leaves dimensions j (Fixed element ∷ args) =
    is_leaf_element dimensions j element && fixed_leaves dimensions (suc j) args
fixed_leaves dimensions j (Moved from to ∷ args) = fixed_leaves dimensions (suc j) args

-- whether the arguments that follow a dimension of the source name leaves alone from an element
abbrev pub moved_leaves : List Outline → ℕ → List Arg → ℕ → ℕ → Bool
moved_leaves dimensions j [] i element = true
moved_leaves dimensions j (Fixed fixed ∷ args) i element = moved_leaves dimensions (suc j) args i element
moved_leaves dimensions j (Moved from to ∷ args) i element = if i == from
    then option_map_or (is_leaf_element dimensions j) (unwrap_or (slice_get to element) None) true
    && moved_leaves dimensions (suc j) args i element
    else moved_leaves dimensions (suc j) args i element

-- by the scales of these kinds, what a component adds more than the element that it is a component of: where its weight
-- isn't 0, and it is a leaf (`true`), or isn't
abbrev pub component_number : BoundModel → ℕ → Kinds → ℕ → ℕ → ℕ → Bool → ℕ × ℤ → Option ℤ
component_number model cube kinds place dim element leaf part =
    only (is_nonzero part.1 && is_same leaf (is_leaf_element (axes model.space cube) dim part.0))
    (Some (pos ((scale_of model cube kinds.its place).worth dim part.0)
    -ℤ pos ((scale_of model cube kinds.own place).worth dim element)))

abbrev pub components_number : BoundModel → ℕ → Kinds → ℕ → ℕ → ℕ → Bool → List (ℕ × ℤ) → Option ℤ
components_number model cube kinds place dim element leaf parts =
    greatest (λ k. component_number model cube kinds place dim element leaf (slice_index_or parts k (0, pos 0)))
    (length parts)

-- by the scales of these kinds, what an element of a dimension of the source adds to the cell that is read more than to
-- its own cell: where all that is named from it is a leaf (`true`), or isn't
abbrev pub number_by_kinds : BoundModel → ℕ → Kinds → ℕ → Precedent → ℕ → ℕ → Bool → Option ℤ
number_by_kinds model cube kinds place (Named r) i element leaf =
    only (is_same leaf (moved_leaves (axes model.space r.cube) 0 r.args i element))
    (plus (moved_sum (scale_of model r.cube kinds.its place).worth 0 r.args i element)
    (Some (neg_ℤ (pos ((scale_of model cube kinds.own place).worth i element)))))
number_by_kinds model cube kinds place (Components dim) i element leaf = if i == dim
    then components_number model cube kinds place dim element leaf (parts_in (axes model.space cube) dim element)
    else only (is_same leaf (is_leaf_element (axes model.space cube) i element))
    (Some (pos ((scale_of model cube kinds.its place).worth i element)
    -ℤ pos ((scale_of model cube kinds.own place).worth i element)))

-- what the cell that is read has more than its cell, whatever elements that has
abbrev pub start_by_kinds : BoundModel → ℕ → Kinds → ℕ → Precedent → ℤ
start_by_kinds model cube kinds place (Named r) =
    pos ((scale_of model r.cube kinds.its place).base
    + fixed_sum (scale_of model r.cube kinds.its place).worth 0 r.args)
    -ℤ pos (scale_of model cube kinds.own place).base
start_by_kinds model cube kinds place (Components dim) =
    pos (scale_of model cube kinds.its place).base -ℤ pos (scale_of model cube kinds.own place).base

-- the kinds as far as no element of the source says more
abbrev pub kinds_before : BoundModel → Precedent → Kinds
kinds_before model (Named r) = record { own = true; its = fixed_leaves (axes model.space r.cube) 0 r.args }
kinds_before model (Components dim) = record { own = true; its = true }

-- the greatest of these numbers over the elements of an area in a dimension that have the kinds `here`
abbrev pub greatest_of_kinds : BoundModel → ℕ → Area → Kinds → ℕ → Precedent → ℕ → Kinds → Option ℤ
greatest_of_kinds model cube area kinds place p i here =
    greatest_in (λ element. number_by_kinds model cube kinds place p i element here.its)
    (λ element. is_same here.own (is_leaf_element (axes model.space cube) i element))
    (slice_index_or (sizes model.space cube) i 0) (slice_index_or area.sets i None)

-- the four kinds that the elements of a dimension may have
abbrev pub of_leaf : Bool → Kinds
of_leaf its = record { own = true; its = its }

abbrev pub of_total : Bool → Kinds
of_total its = record { own = false; its = its }

-- the greatest sum of one number a dimension, over so many dimensions from this one on, by the greatest number of each
-- kinds: the kinds of all dimensions together, with those before, are the wanted ones
abbrev pub greatest_ending : (ℕ → Kinds → Option ℤ) → Kinds → Kinds → ℕ → ℕ → Option ℤ
greatest_ending most wanted before dim zero = only (are_same wanted before) (Some (pos 0))
greatest_ending most wanted before dim (suc count) =
    larger
    (larger
    (plus (most dim (of_leaf true)) (greatest_ending most wanted (both before (of_leaf true)) (suc dim) count))
    (plus (most dim (of_leaf false)) (greatest_ending most wanted (both before (of_leaf false)) (suc dim) count)))
    (larger
    (plus (most dim (of_total true)) (greatest_ending most wanted (both before (of_total true)) (suc dim) count))
    (plus (most dim (of_total false)) (greatest_ending most wanted (both before (of_total false)) (suc dim) count)))

-- the most that a cell that is read has more than its cell, over the cells of an area where both are of these kinds
abbrev pub excess_of_kinds : BoundModel → ℕ → Area → Kinds → Precedent → ℕ → Option ℤ
excess_of_kinds model cube area kinds p place =
    plus (Some (start_by_kinds model cube kinds place p))
    (greatest_ending (greatest_of_kinds model cube area kinds place p) kinds (kinds_before model p) 0
    (length (axes model.space cube)))

-- the same over the cells of an area of this kind, whatever the kind of what they read; None where no such cell is
unfoldable pub most_excess : BoundModel → ℕ → Area → Bool → Precedent → ℕ → Option ℤ
most_excess model cube area kind p place =
    larger (excess_of_kinds model cube area (record { own = kind; its = true }) p place)
    (excess_of_kinds model cube area (record { own = kind; its = false }) p place)

-- every cell that is read is smaller, or at most equal
abbrev pub is_below : Option ℤ → Bool
is_below most = option_map_or (λ n. int_lt n (pos 0)) most true

abbrev pub is_within : Option ℤ → Bool
is_within most = option_map_or (λ n. int_le n (pos 0)) most true

-- position by position: smaller at one of so many from this one on, and at most equal before; else smaller at the last
abbrev pub earlier_from : (ℕ → Option ℤ) → Option ℤ → ℕ → ℕ → Bool
earlier_from most last place zero = is_below last
earlier_from most last place (suc count) =
    is_below (most place) || (is_within (most place) && earlier_from most last (suc place) count)

-- whether what a precedent reads stands before each cell of this kind in an area of a cube
unfoldable pub is_earlier : BoundModel → ℕ → Area → Bool → Precedent → Bool
is_earlier model cube area kind p =
    earlier_from (most_excess model cube area kind p) (most_excess model cube area kind p most_positions) 0
    most_positions

-- what the parts of a statement of a cube read stands before the cells that they are for
abbrev pub IsEarlierStatement : BoundModel → ℕ → Statement → Type 0
IsEarlierStatement model cube s =
    (kind : Bool) (f : Formula) → part_of (rule_of model.space cube s) kind ≡ Some f
    → All (λ p. IsTrue (is_earlier model cube s.area kind p)) (precedents f)

-- and that of every statement of every cube
abbrev pub IsOrderedByDimension : BoundModel → Type 0
IsOrderedByDimension model =
    (cube : ℕ) → cube < length model.space.cubes
    → All (IsEarlierStatement model cube) (rules_of model cube).statements
