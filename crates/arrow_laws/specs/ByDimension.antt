-- The arrows that a formula makes by what it reads, decided by the elements of single dimensions.
use Rattle.std.specs.Prelude.{◌≡◌, ◌≢◌, ℕ, ◌<◌, ◌==◌, Bool, true, false, not, ◌&&◌, ◌||◌, IsTrue, nat_lt}
use Rattle.std.specs.Prelude.{Option, None, Some, is_some, List, length, slice_get, slice_index_or, if◌then◌else◌}
use Rattle.std.specs.List.{list_any, list_all}
use Rattle.dim_core.specs.Outline.{Outline}
use Rattle.dim_weights.specs.Table.{is_nonzero}
use Rattle.cube_space.specs.Layout.{Layout, axes, sizes}
use Rattle.rule_laws.specs.declared.reference.Arg.{Arg}
use Rattle.rule_laws.specs.declared.reference.Arg.TheVariants.{Fixed, Moved}
use Rattle.rule_laws.specs.Meaning.{Precedent, Named, Components}
use Rattle.rule_model.specs.declared.area.Area.{Area}
use Rattle.rule_model.specs.Areas.{in_set}
use Rattle.rule_model.specs.BoundModel.{BoundModel}
use Rattle.rule_model.specs.Order.{most_positions}
use Rattle.order_laws.specs.Scales.{is_total, is_leaf_element, parts_in}
use Rattle.order_laws.specs.Earlier.{most_excess, is_below, is_within, kinds_before, moved_leaves}
pub use Rattle.order_laws.specs.Excess.{read_cube}
use Rattle.cover_laws.specs.Looking.{sent}
use Rattle.arrow_laws.specs.Nodes.{Node, last_of, node_kind, has_nodes, kind_in}

-- ---- lagged, level and weak

abbrev pub is_lagged : BoundModel → ℕ → Area → Bool → Precedent → Bool
is_lagged m cube area kind p = is_below (most_excess m cube area kind p 0)

abbrev pub is_level : BoundModel → ℕ → Area → Bool → Precedent → Bool
is_level m cube area kind p = is_within (most_excess m cube area kind p 0)

abbrev pub is_weak : BoundModel → ℕ → Area → Bool → Precedent → Bool
is_weak m cube area kind p = is_below (most_excess m cube area kind p most_positions)

-- ---- the elements from which a cell of a kind is read: of leaf cells, of consolidated ones, or None: of both

-- whether what is named may be what a cell of the kind has: leaf cells have leaves alone
abbrev pub admits : Option Bool → Bool → Bool
admits None leaves = true
admits (Some true) leaves = leaves
admits (Some false) leaves = true

-- whether an argument names an element from this one of a dimension, where it follows that
abbrev pub names_from : ℕ → ℕ → Arg → Bool
names_from i element (Fixed target) = true
names_from i element (Moved from to) = not (i == from) || is_some (sent to element)

-- whether an element of a dimension has such a component of a weight other than 0, and whether it has this one
abbrev pub has_part : List Outline → (ℕ → Bool) → ℕ → ℕ → Bool
has_part dimensions test i element = list_any (λ part. test part.0 && is_nonzero part.1) (parts_in dimensions i element)

abbrev pub is_part : List Outline → ℕ → ℕ → ℕ → Bool
is_part dimensions i element other = has_part dimensions (λ part. part == other) i element

-- whether a cell with this element in a dimension may have what a formula reads, which is of this kind
abbrev pub serves : Layout → ℕ → Precedent → Option Bool → ℕ → ℕ → Bool
serves space cube (Named r) its i element =
    list_all (names_from i element) r.args && admits its (moved_leaves (axes space r.cube) 0 r.args i element)
serves space cube (Components dim) its i element = if i == dim
    then has_part (axes space cube) (λ part. admits its (is_leaf_element (axes space cube) i part)) i element
    else admits its (is_leaf_element (axes space cube) i element)

-- whether what is read may then have a consolidated element that is named from this one
abbrev pub names_total : Layout → ℕ → Precedent → ℕ → ℕ → Bool
names_total space cube (Named r) i element = not (moved_leaves (axes space r.cube) 0 r.args i element)
names_total space cube (Components dim) i element = if i == dim
    then has_part (axes space cube) (λ part. not (is_leaf_element (axes space cube) i part)) i element
    else is_total (axes space cube) i element

-- whether the area of a cube has this element in a dimension
abbrev pub has_element : Layout → ℕ → Area → ℕ → ℕ → Bool
has_element space cube area i element =
    nat_lt element (slice_index_or (sizes space cube) i 0) && in_set (slice_index_or area.sets i None) element

-- whether it may be in a cell of this kind of the area from which a cell of that kind is read
unfoldable pub is_from : BoundModel → ℕ → Area → Bool → Precedent → Option Bool → ℕ → ℕ → Bool
is_from m cube area kind p its i element =
    has_element m.space cube area i element
    && (admits (Some kind) (is_leaf_element (axes m.space cube) i element) && serves m.space cube p its i element)

-- ---- cells by their elements in one dimension or two

-- each of these dimensions has such an element
abbrev pub HasEach : (ℕ → ℕ → Bool) → ℕ → Type 0
HasEach test count = (i : ℕ) → i < count → (element : ℕ) × IsTrue (test i element)

-- what is asked of the elements of a cell: that one is consolidated, and that a consolidated one is named from one
pub record Asked : Type 0 where
  pub own : Bool
  pub its : Bool

-- of a cell of this kind from which one of that kind is read: consolidated cells have a consolidated element, and fixed
-- arguments may name it
abbrev pub asks_total : Option Bool → Bool → Bool
asks_total None leaves = false
asks_total (Some true) leaves = false
asks_total (Some false) leaves = leaves

abbrev pub asked_of : BoundModel → Bool → Precedent → Option Bool → Asked
asked_of m kind p its = record { own = not kind; its = asks_total its (kinds_before m p).its }

-- what is left of it, where some elements have these
abbrev pub left : Asked → Bool → Bool → Asked
left asked own its = record { own = asked.own && not own; its = asked.its && not its }

-- the elements that a cell may have in each dimension, the consolidated ones, and those that name a consolidated one
pub record Choice : Type 0 where
  pub count : ℕ
  pub may_have : ℕ → ℕ → Bool
  pub own : ℕ → ℕ → Bool
  pub its : ℕ → ℕ → Bool

-- an element of a dimension other than these two
pub record IsElsewhere (choice : Choice) (i k d element : ℕ) : Type 0 where
  pub within : d < choice.count
  pub not_first : d ≢ i
  pub not_second : d ≢ k
  pub passes : IsTrue (choice.may_have d element)

-- in dimensions other than these two a cell may have what is asked; where both are of one dimension, in one element
pub record HasElsewhere (choice : Choice) (i k : ℕ) (asked : Asked) : Type 0 where
  pub d : ℕ
  pub element : ℕ
  pub own : IsTrue asked.own → IsElsewhere choice i k d element × IsTrue (choice.own d element)
  pub e : ℕ
  pub other : ℕ
  pub its : IsTrue asked.its → IsElsewhere choice i k e other × IsTrue (choice.its e other)
  pub same : d ≡ e → element ≡ other

-- a cell may have these elements in two dimensions: what is asked is there, or elsewhere
abbrev pub Suits : Choice → Asked → ℕ → ℕ → ℕ → ℕ → Type 0
Suits choice asked i element k other =
    HasElsewhere choice i k
    (left asked (choice.own i element || choice.own k other) (choice.its i element || choice.its k other))

-- ---- arrows

-- the elements of the cells of a kind of an area from which cells of that kind are read
abbrev pub choice_of : BoundModel → ℕ → Area → Bool → Precedent → Option Bool → Choice
choice_of m cube area kind p its =
    record {
      count = length (axes m.space cube);
      may_have = is_from m cube area kind p its;
      own = is_total (axes m.space cube);
      its = names_total m.space cube p;
    }

-- from cells with this element in the last dimension, the argument names that one
abbrev pub IsNamedBy : Choice → Asked → ℕ → Arg → ℕ → ℕ → Type 0
IsNamedBy choice asked last (Fixed target) from to = (target ≡ to) × Suits choice asked last from last from
IsNamedBy choice asked last (Moved i map) from to =
    (element : ℕ) × IsTrue (choice.may_have i element) × (i ≡ last → element ≡ from)
    × (sent map element ≡ Some to) × Suits choice asked last from i element

-- components in a dimension are read, in the last one (`true`) or in another: these elements of the last one go with
-- each other. A cell of which components are read is consolidated
abbrev pub IsPartFrom : Choice → Asked → Option Bool → List Outline → ℕ → Bool → ℕ → ℕ → Type 0
IsPartFrom choice asked its dimensions last true from to =
    IsTrue (is_part dimensions last from to) × IsTrue (admits its (is_leaf_element dimensions last to))
    × HasElsewhere choice last last (left asked true (is_total dimensions last to))
IsPartFrom choice asked its dimensions last false from to =
    (from ≡ to) × HasElsewhere choice last last (left asked true (is_total dimensions last from))

-- the cells of this kind that are read have that element in their last dimension
abbrev pub IsNamedFrom : BoundModel → ℕ → Area → Bool → Precedent → Option Bool → ℕ → ℕ → Type 0
IsNamedFrom m cube area kind (Named r) its from to =
    (arg : Arg) × (slice_get r.args (last_of m.space r.cube) ≡ Some arg)
    × IsNamedBy (choice_of m cube area kind (Named r) its) (asked_of m kind (Named r) its) (last_of m.space cube) arg
    from to
IsNamedFrom m cube area kind (Components dim) its from to =
    IsPartFrom (choice_of m cube area kind (Components dim) its) (asked_of m kind (Components dim) its) its
    (axes m.space cube) (last_of m.space cube) (dim == last_of m.space cube) from to

-- some cell of this kind, of the one node, reads a cell of the other
pub record IsJoinedByDimension (m : BoundModel) (cube : ℕ) (area : Area) (kind : Bool) (p : Precedent)
    (from to : Node) : Type 0 where
  pub source : from.cube ≡ cube
  pub source_kind : from.kind ≡ node_kind m cube kind
  pub target : to.cube ≡ read_cube cube p
  pub target_kind : IsTrue (has_nodes m to.cube to.kind)
  pub fixed : IsTrue (admits (kind_in m to.cube to.kind) (kinds_before m p).its)
  pub each : HasEach (is_from m cube area kind p (kind_in m to.cube to.kind)) (length (axes m.space cube))
  pub own : IsTrue (is_from m cube area kind p (kind_in m to.cube to.kind) (last_of m.space cube) from.element)
  pub named : IsNamedFrom m cube area kind p (kind_in m to.cube to.kind) from.element to.element
