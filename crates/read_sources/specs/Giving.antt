-- What the elements of a dimension give of what a source asks.
use Rattle.std.specs.Prelude.{ℕ, ◌==◌, Bool, true, false, not, ◌&&◌, ◌||◌, IsTrue, Option, Some, None, is_some}
use Rattle.std.specs.Prelude.{if◌then◌else◌, ◌↔◌}
use Rattle.std.specs.List.{list_all}
use Rattle.cube_space.specs.Layout.{Layout, axes}
use Rattle.rule_laws.specs.Meaning.{Precedent, Named, Components}
use Rattle.rule_model.specs.BoundModel.{BoundModel}
use Rattle.order_laws.specs.Scales.{is_leaf_element}
use Rattle.order_laws.specs.Earlier.{Kinds, is_same, moved_leaves}
use Rattle.ref_order.specs.declared.kinds.ByKinds.{ByKinds}
use Rattle.ref_order.specs.declared.kinds.Numbers.{Numbers}
use Rattle.ref_order.specs.Kinds.{number_of}
use Rattle.arrow_laws.specs.ByDimension.{Asked, Choice, admits, has_element, has_part, names_from}
use Rattle.read_sources.specs.declared.source.Source.{Source}
use Rattle.read_sources.specs.declared.source.Given.{Given}
use Rattle.read_sources.specs.declared.tables.Wanted.{Wanted}
use Rattle.read_sources.specs.declared.tables.Wanted.TheVariants.{Any, Leaf, Total}
use Rattle.read_sources.specs.Ways.{precedent, meets}
use Rattle.read_sources.specs.Sources.{IsWithin}

-- whether from an element of a dimension what is named may be leaves alone (`true`), or not
abbrev pub may_name : Layout → ℕ → Precedent → Bool → ℕ → ℕ → Bool
may_name space cube (Named r) leaf i element =
    list_all (names_from i element) r.args && is_same leaf (moved_leaves (axes space r.cube) 0 r.args i element)
may_name space cube (Components dim) leaf i element = if i == dim
    then has_part (axes space cube) (λ part. is_same leaf (is_leaf_element (axes space cube) i part)) i element
    else is_same leaf (is_leaf_element (axes space cube) i element)

-- which components of an element are wanted, by whether they are leaves
abbrev pub is_wanted : Wanted → Bool → Bool
is_wanted Any leaf = true
is_wanted Leaf leaf = leaf
is_wanted Total leaf = not leaf

abbrev pub wanted_by : Option Bool → Wanted
wanted_by None = Any
wanted_by (Some true) = Leaf
wanted_by (Some false) = Any

-- the area of a source has an element of these kinds in a dimension
abbrev pub HasOfKinds : BoundModel → Source → ℕ → Kinds → Type 0
HasOfKinds m s i kinds =
    (e : ℕ) × IsTrue (has_element m.space s.cube s.area.now i e)
    × IsTrue (is_same kinds.own (is_leaf_element (axes m.space s.cube) i e))
    × IsTrue (may_name m.space s.cube (precedent s) kinds.its i e)

-- just these kinds have a number
abbrev pub AreKindsIn : BoundModel → Source → ℕ → ByKinds → Type 0
AreKindsIn m s i numbers = (kinds : Kinds) → IsTrue (is_some (number_of numbers kinds)) ↔ HasOfKinds m s i kinds

-- a cell may have an element in a dimension that gives what is asked
pub record HasOne (choice : Choice) (i : ℕ) (want : Asked) : Type 0 where
  pub element : ℕ
  pub passes : IsTrue (choice.may_have i element)
  pub own : IsTrue want.own → IsTrue (choice.own i element)
  pub its : IsTrue want.its → IsTrue (choice.its i element)

-- a dimension gives just this of what is asked
abbrev pub IsGivenIn : Choice → ℕ → Asked → Given → Type 0
IsGivenIn choice i asked given =
    (want : Asked) → IsWithin want asked → IsTrue (want.own || want.its)
    → IsTrue (meets given want) ↔ HasOne choice i want

-- the dimensions below this one
abbrev pub below : Choice → ℕ → Choice
below choice n = record { count = n; may_have = choice.may_have; own = choice.own; its = choice.its }

-- what is given by these together
abbrev pub merged : Given → Given → Given
merged one other =
    record {
      own = one.own || other.own;
      its = one.its || other.its;
      both = one.both || (other.both || ((one.own && other.its) || (one.its && other.own)));
    }

-- whether some of these numbers are of what the cells that are meant have
abbrev pub has_admitted : Option Bool → Numbers → Bool
has_admitted its numbers = is_some numbers.leaf || (admits its false && is_some numbers.total)

-- what a dimension gives whose elements have these numbers, and whether a cell may have one of them
abbrev pub given_by : Source → ByKinds → Given
given_by s kinds =
    record {
      own = not s.kind && has_admitted s.its kinds.total;
      its = s.asks && (is_some kinds.leaf.total || (not s.kind && is_some kinds.total.total));
      both = s.asks && (not s.kind && is_some kinds.total.total);
    }

abbrev pub has_one : Source → ByKinds → Bool
has_one s kinds = has_admitted s.its kinds.leaf || (not s.kind && has_admitted s.its kinds.total)
