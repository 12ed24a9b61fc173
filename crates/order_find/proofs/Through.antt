-- The arrows of a plan, by themselves and through the nodes that aren't those of elements.
use Rattle.std.proofs.Common.{◌≡◌, ℕ, ◌<◌, ◌≤◌, ◌⊎◌, inl, inr, Bool, false, Option, Some, None, Contains, length}
use Rattle.std.specs.Prelude.{slice_get, unwrap_or}
use Rattle.order_find.specs.Links.{made_on}
use Rattle.least_ranks.specs.declared.arrow.Arrow.{Arrow}
use Rattle.arrow_laws.specs.Nodes.{Node}
use Rattle.arrow_laws.specs.Arrows.{IsArrow}
use Rattle.rule_model.specs.BoundModel.{BoundModel}
use Rattle.order_find.specs.declared.link.Link.{Link}
use Rattle.order_find.specs.declared.link.LinkBy.{LinkBy}
use Rattle.order_find.specs.declared.link.LinkBy.TheVariants.{Reference, Below}
use Rattle.order_find.specs.declared.numbering.Place.{Place}
use Rattle.order_find.specs.Numbers.{IsPlace, number_of}
use Rattle.order_find.specs.Slots.{Plan, parts_from, node_count, slots_at}
use Rattle.order_find.specs.Circles.{IsBy}

abbrev pub node : Place → Node
node place = record { cube = place.cube; element = place.element; kind = place.kind }

abbrev pub link_from : Place → LinkBy → Link
link_from place by = record { cube = place.cube; element = place.element; by = by }

pub made-arrow : (m : BoundModel) (from : Node) (by : LinkBy) (to : Node) (strict : Bool) → IsBy m from by to strict → IsArrow m from to strict
made-arrow m from (Reference statement reference) to strict made = inl made.arrow
made-arrow m from Below to strict made = inr made

-- the arrow leads to a node of the model, and it is an arrow of the model that this makes
pub record IsArrowOf (p : Plan) (place : Place) (by : LinkBy) (arrow : Arrow) : Type 0 where
  pub target : Place
  pub within : IsPlace p.model target
  pub to : arrow.to ≡ number_of p.numbering target
  pub made : IsBy p.model (node place) by (node target) arrow.strict

-- the arrow is weak and leads to another node, of which each arrow goes on so, by what makes the first one or else by
-- what its own slot says
pub record IsVia (p : Plan) (place : Place) (by : Option LinkBy) (arrow : Arrow) : Type 0 where
  pub weak : arrow.strict ≡ false
  pub behind : parts_from p ≤ arrow.to
  pub each : (slot : ℕ) (next : Arrow) → slot < length (slots_at p arrow.to) → unwrap_or (slice_get (slots_at p arrow.to) slot) None ≡ Some next
      → IsArrowOf p place (made_on p by (Some (record { node = arrow.to; slot = slot }))) next

-- what an arrow of the node of an element is, by what makes it: one of the model, or one through another node
abbrev pub Made : Plan → Place → Option LinkBy → Arrow → Type 0
Made p place None arrow = IsVia p place None arrow
Made p place (Some by) arrow = IsArrowOf p place by arrow ⊎ IsVia p place (Some by) arrow

-- one of the node's slots holds such an arrow
abbrev pub Goes : Plan → ℕ → ℕ → Bool → Type 0
Goes p n to strict = Contains (slots_at p n) (Some (record { to = to; strict = strict }))

-- an arrow leads there, or a weak one leads to a node from which one leads there
abbrev pub GoesThrough : Plan → ℕ → ℕ → Bool → Type 0
GoesThrough p n to strict =
    Goes p n to strict ⊎ ((v : ℕ) × (v < node_count p) × Goes p n v false × Goes p v to strict)
