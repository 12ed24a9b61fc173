-- Closed walks of arrows between the nodes of a model.
use Rattle.std.specs.Prelude.{◌≡◌, ℕ, suc, ◌<◌, ◌≤◌, Bool, true, false, ◌||◌, ⊤, ◌⊎◌, Some}
use Rattle.std.specs.Prelude.{List, [], ◌∷◌, slice_get, All}
use Rattle.rule_model.specs.BoundModel.{BoundModel, rules_of}
use Rattle.ref_order.specs.Counted.{Counted, counted_of}
use Rattle.arrow_laws.specs.Nodes.{Node}
use Rattle.arrow_laws.specs.Arrows.{IsReadArrow, IsLeafArrow}
use Rattle.read_sources.specs.Sources.{read_for}
use Rattle.order_find.specs.declared.link.Link.{Link}
use Rattle.order_find.specs.declared.link.LinkBy.{LinkBy}
use Rattle.order_find.specs.declared.link.LinkBy.TheVariants.{Reference, Below}

-- an arrow that a reference makes: the statement of this number of a cube, from 1, and the reference of this number of
-- the statement, from 1
pub record IsArrowOf (m : BoundModel) (cube statement reference : ℕ) (from to : Node) (strict : Bool) : Type 0 where
  pub arrow : IsReadArrow m from to strict
  pub own : arrow.cube ≡ cube
  pub place : ℕ
  pub number : statement ≡ suc place
  pub here : slice_get (rules_of m cube).statements place ≡ Some arrow.statement
  pub at : ℕ
  pub counted : reference ≡ suc at
  pub it : Counted
  pub there : slice_get (counted_of arrow.statement) at ≡ Some it
  pub reads : read_for arrow.kind it ≡ Some arrow.precedent

-- a link names the cube and the element of a node, of either kind, and an arrow that is made so leads from there to
-- another
abbrev pub IsAt : Link → Node → Type 0
IsAt link node = (link.cube ≡ node.cube) × (link.element ≡ node.element)

abbrev pub IsBy : BoundModel → Node → LinkBy → Node → Bool → Type 0
IsBy m from (Reference statement reference) to strict = IsArrowOf m from.cube statement reference from to strict
IsBy m from Below to strict = IsLeafArrow m from to strict

-- each link makes an arrow to a node of the next one, and the last one to `to`; whether one of them is strict
abbrev pub IsWalk : BoundModel → List Link → Bool → Node → Node → Type 0
IsWalk m [] strict from to = (from ≡ to) × (strict ≡ false)
IsWalk m (link ∷ links) strict from to =
    IsAt link from × ((next : Node) × (here : Bool) × (later : Bool) × IsBy m from link.by next here
    × IsWalk m links later next to × (strict ≡ (here || later)))

-- a walk that leads back to where it begins, with a strict arrow
abbrev pub IsCircle : BoundModel → List Link → Type 0
IsCircle m links = (start : Node) × IsWalk m links true start start

-- a reference of a cube comes no later than another, by cube, statement and number
abbrev pub IsNoLater : Link → LinkBy → Link → LinkBy → Type 0
IsNoLater one (Reference statement reference) other (Reference s r) =
    (one.cube < other.cube) ⊎ ((one.cube ≡ other.cube) × ((statement < s) ⊎ ((statement ≡ s) × (reference ≤ r))))
IsNoLater one (Reference statement reference) other Below = ⊤
IsNoLater one Below other by = ⊥

-- it begins with its reference that comes first
abbrev pub BeginsLeast : List Link → Type 0
BeginsLeast [] = ⊥
BeginsLeast (first ∷ links) = All (λ link. IsNoLater first first.by link link.by) (first ∷ links)
