-- Which node has a number.
use Rattle.std.proofs.Common.{◌≡◌, ap, ◌∙◌, arith, ℕ, ◌+◌, ◌-◌, ◌<◌, ◌≤◌, Bool, true, false, nat_lt, Option, Some, None, [], length, map, option_map, if◌then◌else◌}
use Rattle.std.specs.Prelude.{slice_get}
use Rattle.std.specs.Option.{option_map_or}
use Rattle.std.proofs.lemmas.Bool.{cond-true, cond-false, lt-ltb, le-ltb}
use Rattle.std.proofs.lemmas.Option.{slice_get_within}
use Rattle.order_find.specs.declared.numbering.Place.{Place}
use Rattle.read_sources.specs.declared.source.Source.{Source}
use Rattle.order_find.specs.declared.slots.Gives.{Gives}
use Rattle.order_find.specs.declared.slots.Vertex.{Vertex}
use Rattle.order_find.specs.declared.slots.Vertex.TheVariants.{Element, Components, Reached, Shared}
use Rattle.order_find.specs.Slots.{Plan, parts_from, totals_from, both_from, own_from, its_from, none_from, hubs_from, node_count, components_from, given_from, parts_vertex, reached_vertex, member_arrow, members, vertex_at, slots_of, slots_at}

pub slots-by : (p : Plan) (n : ℕ) (v : Vertex) → vertex_at p n ≡ Some v → slots_at p n ≡ slots_of p n v
slots-by p n v is = ap (λ (o : Option Vertex). option_map_or (slots_of p n) o []) is

past : {A : Type 0} (n from : ℕ) (x y : A) → from ≤ n → (if nat_lt n from then x else y) ≡ y
past n from x y high = cond-false (nat_lt n from) x y (le-ltb n from high)

under : {A : Type 0} (n from : ℕ) (x y : A) → n < from → (if nat_lt n from then x else y) ≡ x
under n from x y low = cond-true (nat_lt n from) x y (lt-ltb n from low)

pub vertex-low : (p : Plan) (n : ℕ) → n < parts_from p → vertex_at p n ≡ option_map Element (slice_get p.numbering.places.items n)
vertex-low p n low = under n (parts_from p) _ _ low

vertex-parts : (p : Plan) (totals : Bool) (n k : ℕ) → n ≡ components_from p totals + k → k < parts_from p → vertex_at p n ≡ parts_vertex p totals n
vertex-parts p false n k is low = past n (parts_from p) _ _ (omega (arith, is)) ∙ under n (totals_from p) _ _ (omega (arith, is, low))
vertex-parts p true n k is low =
    past n (parts_from p) _ _ (omega (arith, is)) ∙ past n (totals_from p) _ _ (omega (arith, is)) ∙ under n (both_from p) _ _ (omega (arith, is, low))

-- behind the nodes for components
abbrev behind : Plan → ℕ → Option Vertex
behind p n =
    if nat_lt n (own_from p) then reached_vertex p true true n
    else if nat_lt n (its_from p) then reached_vertex p true false n
    else if nat_lt n (none_from p) then reached_vertex p false true n
    else if nat_lt n (hubs_from p) then reached_vertex p false false n
    else if nat_lt n (node_count p) then Some (Shared (n - hubs_from p)) else None

pub vertex-behind : (p : Plan) (n : ℕ) → both_from p ≤ n → vertex_at p n ≡ behind p n
vertex-behind p n high = past n (parts_from p) _ _ (omega (arith, high)) ∙ past n (totals_from p) _ _ (omega (arith, high)) ∙ past n (both_from p) _ _ high

vertex-given : (p : Plan) (own its : Bool) (n k : ℕ) → n ≡ given_from p own its + k → k < length p.sources → vertex_at p n ≡ reached_vertex p own its n
vertex-given p true true n k is low = vertex-behind p n (omega (arith, is)) ∙ under n (own_from p) _ _ (omega (arith, is, low))
vertex-given p true false n k is low =
    vertex-behind p n (omega (arith, is)) ∙ past n (own_from p) _ _ (omega (arith, is)) ∙ under n (its_from p) _ _ (omega (arith, is, low))
vertex-given p false true n k is low =
    vertex-behind p n (omega (arith, is)) ∙ past n (own_from p) _ _ (omega (arith, is)) ∙ past n (its_from p) _ _ (omega (arith, is)) ∙ under n (none_from p) _ _ (omega (arith, is, low))
vertex-given p false false n k is low =
    vertex-behind p n (omega (arith, is)) ∙ past n (own_from p) _ _ (omega (arith, is)) ∙ past n (its_from p) _ _ (omega (arith, is)) ∙ past n (none_from p) _ _ (omega (arith, is))
    ∙ under n (hubs_from p) _ _ (omega (arith, is, low))

vertex-high : (p : Plan) (n : ℕ) → hubs_from p ≤ n → vertex_at p n ≡ (if nat_lt n (node_count p) then Some (Shared (n - hubs_from p)) else None)
vertex-high p n high =
    vertex-behind p n (omega (arith, high)) ∙ past n (own_from p) _ _ (omega (arith, high)) ∙ past n (its_from p) _ _ (omega (arith, high)) ∙ past n (none_from p) _ _ (omega (arith, high))
    ∙ past n (hubs_from p) _ _ high

vertex-shared : (p : Plan) (n g : ℕ) → n ≡ hubs_from p + g → g < length p.heads → vertex_at p n ≡ Some (Shared g)
vertex-shared p n g is low =
    let back : n - hubs_from p ≡ g = omega arith in
    vertex-high p n (omega (arith, is)) ∙ under n (node_count p) _ _ (omega (arith, is, low)) ∙ ap (λ j. Some (Shared j)) back

pub slots-none : (p : Plan) (n : ℕ) → node_count p ≤ n → slots_at p n ≡ []
slots-none p n high =
    ap (λ (o : Option Vertex). option_map_or (slots_of p n) o []) (vertex-high p n (omega (arith, high)) ∙ past n (node_count p) _ _ high)

-- the slots of the nodes
pub slots-element : (p : Plan) (n : ℕ) (place : Place) → slice_get p.numbering.places.items n ≡ Some place → slots_at p n ≡ slots_of p n (Element place)
slots-element p n place is = slots-by p n (Element place) (vertex-low p n (slice_get_within p.numbering.places.items n place is) ∙ ap (option_map Element) is)

pub slots-parts : (p : Plan) (totals : Bool) (n k : ℕ) (place : Place) → n ≡ components_from p totals + k → slice_get p.numbering.places.items k ≡ Some place → slots_at p n ≡ slots_of p n (Components place totals)
slots-parts p totals n k place at is =
    let back : n - components_from p totals ≡ k = omega (arith, at) in
    slots-by p n (Components place totals)
    (vertex-parts p totals n k at (slice_get_within p.numbering.places.items k place is)
    ∙ ap (λ j. option_map (λ (place : Place). Components place totals) (slice_get p.numbering.places.items j)) back ∙ ap (option_map (λ (place : Place). Components place totals)) is)

pub slots-given : (p : Plan) (own its : Bool) (n k : ℕ) (s : Source) → n ≡ given_from p own its + k → slice_get p.sources k ≡ Some s
    → slots_at p n ≡ slots_of p n (Reached s (record { own = own; its = its }))
slots-given p own its n k s at is =
    let gives : Gives = record { own = own; its = its } in
    let back : n - given_from p own its ≡ k = omega (arith, at) in
    slots-by p n (Reached s gives)
    (vertex-given p own its n k at (slice_get_within p.sources k s is) ∙ ap (λ j. option_map (λ (s : Source). Reached s gives) (slice_get p.sources j)) back
    ∙ ap (option_map (λ (s : Source). Reached s gives)) is)

pub slots-shared : (p : Plan) (n g : ℕ) → n ≡ hubs_from p + g → g < length p.heads → slots_at p n ≡ map (member_arrow p) (members p g)
slots-shared p n g at low = slots-by p n (Shared g) (vertex-shared p n g at low)
