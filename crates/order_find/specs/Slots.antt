-- The graph of a model: its nodes, and the arrow in each slot of each node.
use Rattle.std.specs.Prelude.{◌≡◌, ℕ, ◌+◌, ◌-◌, ◌<◌, ◌≤◌, ◌^◌, ◌&&◌, ◌||◌, Bool, true, false, not, nat_lt, ℤ}
use Rattle.std.specs.Prelude.{Option, Some, None, is_some, option_map, unwrap_or, List, [], ◌++◌, map, length}
use Rattle.std.specs.Prelude.{All, Contains, slice_get, slice_index_or, if◌then◌else◌}
use Rattle.std.specs.Option.{option_map_or}
use Rattle.std.specs.List.{range_with_len}
use Rattle.dim_weights.specs.Table.{is_nonzero, leaves_of}
use Rattle.cube_space.specs.Layout.{Layout, axes, sizes}
use Rattle.cube_space.specs.Cells.{is_leaf, IsSpace}
use Rattle.dim_core.specs.Outline.{Outline}
use Rattle.rule_model.specs.BoundModel.{BoundModel}
use Rattle.rule_model.specs.Conditions.{AreRules}
use Rattle.order_laws.specs.Scales.{is_leaf_element, is_total, parts_in, set_count, set_element}
use Rattle.order_laws.specs.Earlier.{is_same}
use Rattle.cover_laws.specs.Looking.{sent}
use Rattle.least_ranks.specs.declared.arrow.Arrow.{Arrow}
use Rattle.least_ranks.specs.Graph.{Arrows}
use Rattle.arrow_laws.specs.Nodes.{has_kinds, node_kind, kind_in, last_of}
use Rattle.arrow_laws.specs.ByDimension.{admits}
use Rattle.order_find.specs.declared.numbering.Place.{Place}
use Rattle.order_find.specs.declared.numbering.Numbering.{Numbering}
use Rattle.read_sources.specs.declared.source.Source.{Source}
use Rattle.order_find.specs.declared.slots.Gives.{Gives}
use Rattle.order_find.specs.declared.slots.Vertex.{Vertex}
use Rattle.order_find.specs.declared.slots.Vertex.TheVariants.{Element, Components, Reached, Shared}
use Rattle.order_find.specs.Numbers.{IsNumbering, IsPlace, count_of, number_of, place_at}
use Rattle.read_sources.specs.Ways.{Follows, Same, Component, Always, Sent, SentOver, IsSource, way_of, reads_from}
use Rattle.read_sources.specs.Ways.{is_consolidated, gives_total, suits, serves_any, cube_read}

-- what the graph is made of: the numbers of the nodes, the single sources of what is read at the same lag, and which of
-- them are looked at for each element of a cube, and for one element; and groups of sources that each always read the
-- node of one element and read from the same elements as the group's head, and which groups are looked at so
pub record Plan : Type 0 where
  pub model : BoundModel
  pub numbering : Numbering
  pub sources : List Source
  pub of_cubes : List (List ℕ)
  pub of_nodes : List (List ℕ)
  pub heads : List Source
  pub groups : List (List Source)
  pub groups_of_cubes : List (List ℕ)
  pub groups_of_nodes : List (List ℕ)

-- Behind the nodes of the model stand two for each, for the components of its element and for the consolidated ones
-- alone; four for each source, for what it reads over another dimension by what the element of the last one gives of
-- what it asks; and one for each group. They are there so that not each pair of elements has an arrow of its own, nor
-- each element and source.
abbrev pub parts_from : Plan → ℕ
parts_from p = count_of p.numbering

abbrev pub totals_from : Plan → ℕ
totals_from p = parts_from p + count_of p.numbering

abbrev pub both_from : Plan → ℕ
both_from p = totals_from p + count_of p.numbering

abbrev pub own_from : Plan → ℕ
own_from p = both_from p + length p.sources

abbrev pub its_from : Plan → ℕ
its_from p = own_from p + length p.sources

abbrev pub none_from : Plan → ℕ
none_from p = its_from p + length p.sources

abbrev pub hubs_from : Plan → ℕ
hubs_from p = none_from p + length p.sources

abbrev pub node_count : Plan → ℕ
node_count p = hubs_from p + length p.heads

-- the first of the nodes for components, and of those for what the element of the last dimension gives
abbrev pub components_from : Plan → Bool → ℕ
components_from p totals = if totals then totals_from p else parts_from p

abbrev pub given_from : Plan → Bool → Bool → ℕ
given_from p own its = if own then (if its then both_from p else own_from p)
    else (if its then its_from p else none_from p)

abbrev pub reached_vertex : Plan → Bool → Bool → ℕ → Option Vertex
reached_vertex p own its n =
    option_map (λ s. Reached s (record { own = own; its = its })) (slice_get p.sources (n - given_from p own its))

abbrev pub parts_vertex : Plan → Bool → ℕ → Option Vertex
parts_vertex p totals n =
    option_map (λ place. Components place totals) (slice_get p.numbering.places.items (n - components_from p totals))

-- which node has this number: one of the model, of the components of one, of what a source reads, or of a group
abbrev pub vertex_at : Plan → ℕ → Option Vertex
vertex_at p n =
    if nat_lt n (parts_from p) then option_map Element (slice_get p.numbering.places.items n)
    else if nat_lt n (totals_from p) then parts_vertex p false n
    else if nat_lt n (both_from p) then parts_vertex p true n
    else if nat_lt n (own_from p) then reached_vertex p true true n
    else if nat_lt n (its_from p) then reached_vertex p true false n
    else if nat_lt n (none_from p) then reached_vertex p false true n
    else if nat_lt n (hubs_from p) then reached_vertex p false false n
    else if nat_lt n (node_count p) then Some (Shared (n - hubs_from p)) else None

-- an arrow to a node of the model
abbrev pub arrow_to : Plan → Place → Bool → Arrow
arrow_to p place strict = record { to = number_of p.numbering place; strict = strict }

-- a source means cells of one kind just where the cells of the cube that is read have kinds
abbrev pub MeansByKind : BoundModel → Source → Type 0
MeansByKind m s = is_some s.its ≡ has_kinds m (cube_read s)

-- the node of the cells that a source reads, of an element of their last dimension
abbrev pub target_at : Source → ℕ → Place
target_at s element = place_at (cube_read s) (unwrap_or s.its true) element

-- whether a source reads for the cells of a node's kind, and from the node's element
abbrev pub is_for : BoundModel → Source → Place → Bool
is_for m s place = is_same (node_kind m s.cube s.kind) place.kind

abbrev pub reads_here : BoundModel → Source → Place → Bool
reads_here m s place = is_for m s place && reads_from m s (last_of m.space s.cube) place.element

-- whether a node leads to those of the leaves that count in its element: it is of consolidated cells, or, where the
-- cells have no kinds, of a consolidated element
abbrev pub leads_below : BoundModel → Place → Outline → Bool
leads_below m place d = not place.kind || (not (has_kinds m place.cube) && not (is_leaf d place.element))

abbrev pub leaves_below : BoundModel → Place → List (ℕ × ℤ)
leaves_below m place =
    option_map_or (λ d. if leads_below m place d then leaves_of d place.element else [])
    (slice_get (axes m.space place.cube) (last_of m.space place.cube)) []

-- the components of an element of a cube's last dimension
abbrev pub parts_of : Layout → Place → List (ℕ × ℤ)
parts_of space place = parts_in (axes space place.cube) (last_of space place.cube) place.element

-- whether the node of such an element leads to that of a component: consolidated ones alone may be meant, and leaf
-- cells have leaves alone
abbrev pub is_meant : BoundModel → Place → Bool → ℕ → Bool
is_meant m place totals part =
    admits (kind_in m place.cube place.kind)
    (is_leaf_element (axes m.space place.cube) (last_of m.space place.cube) part)
    && (not totals || is_total (axes m.space place.cube) (last_of m.space place.cube) part)

abbrev pub part_arrow : Plan → Place → Bool → ℕ × ℤ → Option Arrow
part_arrow p place totals part = if is_nonzero part.1 && is_meant p.model place totals part.0
    then Some (arrow_to p (place_at place.cube place.kind part.0) false) else None

abbrev pub leaf_arrow : Plan → ℕ → ℕ × ℤ → Option Arrow
leaf_arrow p cube pair = Some (arrow_to p (place_at cube true pair.0) false)

-- an arrow to a node that a source reads
abbrev pub sent_to : Plan → Source → ℕ → Arrow
sent_to p s element = arrow_to p (target_at s element) (not s.weak)

-- the arrow from the node of an element by what a source reads, where that follows so
abbrev pub arrow_by : Plan → Place → ℕ → Source → Follows → Option Arrow
arrow_by p place k s Same =
    if suits s true (is_consolidated p.model s (last_of p.model.space s.cube) place.element)
    then Some (sent_to p s place.element) else None
arrow_by p place k s Component =
    Some (record {
      to = components_from p (not (suits s true false)) + number_of p.numbering (target_at s place.element);
      strict = false;
    })
arrow_by p place k s (Always target) =
    if serves_any p.model s place.element then Some (sent_to p s target) else None
arrow_by p place k s (Sent to) =
    if serves_any p.model s place.element then option_map (sent_to p s) (sent to place.element) else None
arrow_by p place k s (SentOver i to) =
    Some (record {
      to = given_from p (is_consolidated p.model s (last_of p.model.space s.cube) place.element)
          (gives_total p.model s (last_of p.model.space s.cube) place.element) + k;
      strict = false;
    })

abbrev pub read_arrow : Plan → Place → ℕ → Source → Option Arrow
read_arrow p place k s =
    if reads_here p.model s place then arrow_by p place k s (way_of p.model s) else None

-- the arrow by the source of this number
abbrev pub source_arrow : Plan → Place → ℕ → Option Arrow
source_arrow p place k = option_map_or (read_arrow p place k) (slice_get p.sources k) None

-- whether an element of the dimension by which the node is found gives what is left
abbrev pub is_given : BoundModel → Source → Gives → ℕ → ℕ → Bool
is_given m s gives i element =
    suits s (gives.own || is_consolidated m s i element) (gives.its || gives_total m s i element)

-- the arrow to what a source reads from an element of that dimension
abbrev pub reached_from : Plan → Source → Gives → ℕ → List (Option ℕ) → ℕ → Option Arrow
reached_from p s gives i to element =
    if reads_from p.model s i element && is_given p.model s gives i element
    then option_map (sent_to p s) (sent to element) else None

-- and to all of it, in one slot for each element that the area has in that dimension
abbrev pub reached_by : Plan → Source → Gives → Follows → List (Option Arrow)
reached_by p s gives Same = []
reached_by p s gives Component = []
reached_by p s gives (Always target) = []
reached_by p s gives (Sent to) = []
reached_by p s gives (SentOver i to) =
    map (λ k. reached_from p s gives i to (set_element (slice_index_or s.area.now.sets i None) k))
    (range_with_len 0 (set_count (slice_index_or (sizes p.model.space s.cube) i 0)
    (slice_index_or s.area.now.sets i None)))

-- no element gives what a source doesn't ask
abbrev pub reached_slots : Plan → Source → Gives → List (Option Arrow)
reached_slots p s gives = if gives.its && not s.asks then [] else reached_by p s gives (way_of p.model s)

-- the arrow from the node of an element to that of a group, where its head reads from there
abbrev pub group_by : Plan → Place → ℕ → Source → Option Arrow
group_by p place g s =
    if reads_here p.model s place && serves_any p.model s place.element
    then Some (record { to = hubs_from p + g; strict = false }) else None

abbrev pub group_arrow : Plan → Place → ℕ → Option Arrow
group_arrow p place g = option_map_or (group_by p place g) (slice_get p.heads g) None

-- and the arrow from there to what a source of the group always reads
abbrev pub member_by : Plan → Source → Follows → Option Arrow
member_by p s Same = None
member_by p s Component = None
member_by p s (Always target) = Some (sent_to p s target)
member_by p s (Sent to) = None
member_by p s (SentOver i to) = None

abbrev pub member_arrow : Plan → Source → Option Arrow
member_arrow p s = member_by p s (way_of p.model s)

abbrev pub members : Plan → ℕ → List Source
members p g = slice_index_or p.groups g []

-- the arrows of the node of an element: to leaves and by single sources, and to the nodes of groups
abbrev pub own_slots : Plan → ℕ → Place → List (Option Arrow)
own_slots p n place =
    map (leaf_arrow p place.cube) (leaves_below p.model place)
    ++ (map (source_arrow p place) (slice_index_or p.of_cubes place.cube [])
    ++ map (source_arrow p place) (slice_index_or p.of_nodes n []))

abbrev pub group_slots : Plan → ℕ → Place → List (Option Arrow)
group_slots p n place =
    map (group_arrow p place) (slice_index_or p.groups_of_cubes place.cube [])
    ++ map (group_arrow p place) (slice_index_or p.groups_of_nodes n [])

-- the arrows of a node, one a slot
abbrev pub slots_of : Plan → ℕ → Vertex → List (Option Arrow)
slots_of p n (Element place) = own_slots p n place ++ group_slots p n place
slots_of p n (Components place totals) = map (part_arrow p place totals) (parts_of p.model.space place)
slots_of p n (Reached s gives) = reached_slots p s gives
slots_of p n (Shared g) = map (member_arrow p) (members p g)

abbrev pub slots_at : Plan → ℕ → List (Option Arrow)
slots_at p n = option_map_or (slots_of p n) (vertex_at p n) []

-- a node that has a number
abbrev pub IsVertex : Plan → ℕ → Vertex → Type 0
IsVertex p n (Element place) = IsPlace p.model place
IsVertex p n (Components place totals) = IsPlace p.model place
IsVertex p n (Reached s gives) = IsSource p.model s × MeansByKind p.model s
IsVertex p n (Shared g) = g < length p.heads

unfoldable pub arrows_of : Plan → Arrows
arrows_of p =
    record {
      nodes = node_count p;
      slots = λ n. length (slots_at p n);
      held = λ n slot. unwrap_or (slice_get (slots_at p n) slot) None;
    }

-- the source of this number is one of the cube
abbrev pub IsSourceOf : List Source → ℕ → ℕ → Type 0
IsSourceOf sources cube k = (s : Source) × (slice_get sources k ≡ Some s) × (s.cube ≡ cube)

-- how many sources or groups are looked at for each element of a cube at most, and for one element
abbrev pub most_slots : ℕ
most_slots = 2 ^ 29

-- what holds of each plan
pub record IsPlan (p : Plan) : Type 0 where
  pub valid : IsSpace p.model.space
  pub ruled : AreRules p.model.space p.model.rules
  pub few : node_count p < 2 ^ 32
  pub numbering : IsNumbering p.model p.numbering
  pub sources : All (IsSource p.model) p.sources
  pub heads : All (IsSource p.model) p.heads
  pub grouped : (g : ℕ) → All (IsSource p.model) (members p g)
  pub means : All (MeansByKind p.model) p.sources
  pub grouped_mean : (g : ℕ) → All (MeansByKind p.model) (members p g)
  pub of_cubes : (cube k : ℕ) → Contains (slice_index_or p.of_cubes cube []) k → IsSourceOf p.sources cube k
  pub of_nodes : (n k : ℕ) (place : Place) → slice_get p.numbering.places.items n ≡ Some place
      → Contains (slice_index_or p.of_nodes n []) k → IsSourceOf p.sources place.cube k
  pub few_of_cubes : (cube : ℕ) → length (slice_index_or p.of_cubes cube []) ≤ most_slots
  pub few_of_nodes : (n : ℕ) → length (slice_index_or p.of_nodes n []) ≤ most_slots
  pub few_members : (g : ℕ) → length (members p g) ≤ most_slots
  pub few_groups_of_cubes : (cube : ℕ) → length (slice_index_or p.groups_of_cubes cube []) ≤ most_slots
  pub few_groups_of_nodes : (n : ℕ) → length (slice_index_or p.groups_of_nodes n []) ≤ most_slots
