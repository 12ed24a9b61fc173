-- The links of a walk over the graph of a plan, and which of them comes first.
use Rattle.std.specs.Prelude.{ℕ, ◌-◌, Bool, true, false, not, ◌==◌, ◌&&◌, ◌||◌, nat_lt, Option, Some, None, is_some}
use Rattle.std.specs.Prelude.{List, [], ◌∷◌, ◌++◌, map, slice_get, slice_index_or, unwrap_or, take, drop}
use Rattle.std.specs.Prelude.{if◌then◌else◌}
use Rattle.std.specs.Option.{option_map_or}
use Rattle.least_ranks.specs.declared.arrow.Step.{Step}
use Rattle.order_find.specs.declared.link.Link.{Link}
use Rattle.order_find.specs.declared.link.LinkBy.{LinkBy}
use Rattle.order_find.specs.declared.link.LinkBy.TheVariants.{Reference, Below}
use Rattle.order_find.specs.declared.numbering.Place.{Place}
use Rattle.read_sources.specs.declared.source.Source.{Source}
use Rattle.order_find.specs.Slots.{Plan, leaves_below, members, hubs_from}

-- what makes the arrow by the source of this number
abbrev pub reference_of : Source → LinkBy
reference_of s = Reference s.statement s.reference

abbrev pub maker : Plan → ℕ → LinkBy
maker p k = option_map_or reference_of (slice_get p.sources k) Below

-- what makes the arrow in each slot of the node of an element, but for those to groups
abbrev pub makers_of : Plan → ℕ → Place → List (Option LinkBy)
makers_of p n place =
    map (λ pair. Some Below) (leaves_below p.model place)
    ++ (map (λ k. Some (maker p k)) (slice_index_or p.of_cubes place.cube [])
    ++ map (λ k. Some (maker p k)) (slice_index_or p.of_nodes n []))

abbrev pub made_by : Plan → ℕ → Place → ℕ → Option LinkBy
made_by p n place slot = unwrap_or (slice_get (makers_of p n place) slot) None

-- and of an arrow that goes on from the node of a group: the source in its slot
abbrev pub member_maker : Plan → Step → LinkBy
member_maker p step =
    unwrap_or (slice_get (map reference_of (members p (step.node - hubs_from p))) step.slot) Below

abbrev pub made_on : Plan → Option LinkBy → Option Step → LinkBy
made_on p (Some by) next = by
made_on p None None = Below
made_on p None (Some next) = member_maker p next

-- a step from the node of an element is a link, also where it leads through another node; the others are none
abbrev pub link_of : Plan → Step → Option Step → Place → Link
link_of p step next place =
    record {
      cube = place.cube;
      element = place.element;
      by = made_on p (made_by p step.node place step.slot) next;
    }

abbrev pub links_at : Plan → Step → Option Step → List Link
links_at p step next =
    option_map_or (λ place. link_of p step next place ∷ []) (slice_get p.numbering.places.items step.node) []

abbrev pub links_of : Plan → List Step → List Link
links_of p [] = []
links_of p (step ∷ steps) = links_at p step (slice_get steps 0) ++ links_of p steps

-- a closed walk that doesn't begin with the node of an element begins as well with its second step
abbrev pub begins_behind : Plan → List Step → Bool
begins_behind p steps =
    option_map_or (λ step. not (is_some (slice_get p.numbering.places.items step.node))) (slice_get steps 0) false

abbrev pub begun_of : Plan → List Step → List Step
begun_of p steps = if begins_behind p steps then drop 1 steps ++ take 1 steps else steps

-- a reference of a cube comes before another, by cube, statement and number, and before what is no reference
abbrev pub is_before_by : ℕ → LinkBy → ℕ → LinkBy → Bool
is_before_by cube (Reference statement reference) c (Reference s r) =
    nat_lt cube c || ((cube == c) && (nat_lt statement s || ((statement == s) && nat_lt reference r)))
is_before_by cube (Reference statement reference) c Below = true
is_before_by cube Below c by = false

abbrev pub is_before : Link → Link → Bool
is_before one other = is_before_by one.cube one.by other.cube other.by
