-- Each arrow of a node, and where it leads.
use Rattle.std.proofs.Common.{◌≡◌, refl, sym, ap, ◌∙◌, arith, subst, ℕ, ◌+◌, ◌-◌, ◌<◌, ◌≤◌, ◌⊎◌, Bool, true, false, not, ◌&&◌, ◌||◌, Option, Some, None, List, [], ◌∷◌, ◌++◌, length, map, Contains, ℤ, pos, inl, inr, if◌then◌else◌}
use Rattle.std.specs.Prelude.{slice_get, slice_index_or, unwrap_or}
use Rattle.std.specs.Option.{option_map_or}
use Rattle.std.specs.List.{range_with_len}
use Rattle.std.proofs.lemmas.Bool.{cases_lt}
use Rattle.std.specs.List.{AllZip}
use Rattle.std.proofs.lemmas.Bool.{and_parts}
use Rattle.std.proofs.lemmas.List.{length-append}
use Rattle.std.proofs.lemmas.List.Elements.{All-contains, Contains-append_cases}
use Rattle.std.proofs.lemmas.Option.{slice_get_within, slice_get_past, slice_get-get_or, cond_some, same_Some, unwrap_or-slice_get}
use Rattle.dim_core.specs.Outline.{Outline}
use Rattle.dim_weights.specs.Coefficients.{coef}
use Rattle.dim_weights.specs.Table.{is_nonzero, leaves_of}
use Rattle.dim_weights.proofs.Nonzero.{nonzero-counts}
use Rattle.cube_space.specs.Layout.{axes}
use Rattle.cube_space.specs.Cells.{is_leaf}
use Rattle.lists.proofs.Found.{there, found_holds}
use Rattle.rule_model.specs.BoundModel.{BoundModel}
use Rattle.order_laws.proofs.ChildFacts.{size-at, part-below}
use Rattle.least_ranks.specs.declared.arrow.Arrow.{Arrow}
use Rattle.arrow_laws.specs.Nodes.{last_of, has_kinds, node_kind}
use Rattle.arrow_laws.specs.Arrows.{IsLeafArrow}
use Rattle.order_find.specs.declared.numbering.Place.{Place}
use Rattle.read_sources.specs.declared.source.Source.{Source}
use Rattle.order_find.specs.Numbers.{IsPlace, width, number_of, place_at}
use Rattle.read_sources.specs.Ways.{Follows, Same, Component, Always, Sent, SentOver, IsSource, precedent, way_of, reads_from, serves_any, cube_read}
use Rattle.order_find.specs.Slots.{Plan, IsPlan, IsSourceOf, parts_from, totals_from, both_from, own_from, its_from, none_from, components_from, given_from, arrow_to, target_at, is_for, reads_here, leads_below, leaves_below, parts_of, part_arrow, leaf_arrow, arrow_by, read_arrow, source_arrow, reached_slots, hubs_from, node_count, group_by, group_arrow, member_by, member_arrow, members, own_slots, group_slots, slots_at}
use Rattle.order_find.specs.PlanOfAll.{IsPlanOfAll}
use Rattle.order_find.specs.declared.link.LinkBy.{LinkBy}
use Rattle.order_find.specs.declared.link.LinkBy.TheVariants.{Below}
use Rattle.order_find.specs.Links.{reference_of, maker, makers_of, made_by, member_maker}
use Rattle.read_sources.proofs.Placed.{get-mapped, mapped-at}
use Rattle.order_find.proofs.Through.{node, IsArrowOf, IsVia, Made}
use Rattle.read_sources.proofs.Lists.{range-has, has-at, has-held, held-has, map-has, in-first, at-past, zip-map, zip-append, zip-at}
use Rattle.read_sources.specs.Ways.{Names}
use Rattle.read_sources.proofs.Within.{names-within}
use Rattle.order_find.proofs.Vertices.{slots-element, slots-parts, slots-given, slots-shared, slots-none}
use Rattle.order_find.proofs.LookedAt.{own-place}
use Rattle.order_find.proofs.Sound.{slots-arrow, parts-arrow, target-place, member-step, source-step}
use Rattle.order_find.proofs.Suiting.{among-of, given-where, same-kind}
use Rattle.order_find.specs.declared.slots.Gives.{Gives}
use Rattle.order_laws.specs.Earlier.{is_same}
use Rattle.read_sources.specs.Sources.{IsRead}

-- the leaves below the element of a node
pub record IsLeafBelow (m : BoundModel) (place : Place) (pair : ℕ × ℤ) : Type 0 where
  pub dimension : Outline
  pub last : slice_get (axes m.space place.cube) (last_of m.space place.cube) ≡ Some dimension
  pub leads : leads_below m place dimension ≡ true
  pub leaf : pair.0 < length dimension.elements
  pub counts : is_nonzero (coef dimension place.element pair.0) ≡ true

pub leaf-below : (m : BoundModel) (place : Place) (pair : ℕ × ℤ) → Contains (leaves_below m place) pair → IsLeafBelow m place pair
leaf-below m place pair has = by (slice_get (axes m.space place.cube) (last_of m.space place.cube)) refl has
  where
    within : (d : Outline) → slice_get (axes m.space place.cube) (last_of m.space place.cube) ≡ Some d → (t : Bool) → leads_below m place d ≡ t
        → Contains (if t then leaves_of d place.element else []) pair → IsLeafBelow m place pair
    within d at false e (k, low, is) = absurd (omega (arith, low))
    within d at true e has =
        let (inside, counts) = among-of (coef d place.element) (range_with_len 0 (length d.elements)) pair has in
        record { dimension = d; last = at; leads = e; leaf = range-has (length d.elements) pair.0 inside; counts = counts }

    by : (o : Option Outline) → slice_get (axes m.space place.cube) (last_of m.space place.cube) ≡ o
        → Contains (option_map_or (λ d. if leads_below m place d then leaves_of d place.element else []) o []) pair → IsLeafBelow m place pair
    by None at (k, low, is) = absurd (omega (arith, low))
    by (Some d) at has = within d at (leads_below m place d) refl has

-- such a node is that of consolidated cells, or, where it is of both kinds, of a consolidated element
leads-kind : (kind kinds leaf : Bool) → not kind || (not kinds && not leaf) ≡ true → kind || kinds ≡ true → (kind ≡ not kinds) × (kind ≡ true → leaf ≡ false)
leads-kind true true leaf leads has = absurd (cc leads)
leads-kind true false true leads has = absurd (cc leads)
leads-kind true false false leads has = (refl, λ _. refl)
leads-kind false true leaf leads has = (refl, λ on. absurd (cc on))
leads-kind false false leaf leads has = absurd (cc has)

-- a component of an element
pub part-low : (m : BoundModel) (place : Place) (part : ℕ × ℤ) → Rattle.cube_space.specs.Cells.IsSpace m.space → Contains (parts_of m.space place) part → part.0 < width m.space place.cube
part-low m place part valid (j, less, same) =
    let first = part-below m.space place.cube (last_of m.space place.cube) place.element j valid less in
    subst (λ (x : ℕ × ℤ). x.0 < width m.space place.cube) (Rattle.std.proofs.lemmas.List.get_or_default (parts_of m.space place) j (0, pos 0) part less ∙ same) first

-- two lists of which each two elements at one place are related are as long
zip-long : {A B : Type 0} (R : A → B → Type 0) (xs : List A) (ys : List B) → AllZip R xs ys → length xs ≡ length ys
zip-long R [] [] zip = refl
zip-long R [] (y ∷ ys) zip = absurd zip
zip-long R (x ∷ xs) [] zip = absurd zip
zip-long R (x ∷ xs) (y ∷ ys) zip = let rest = zip-long R xs ys zip.1 in omega (arith, rest)

module _ (p : Plan) (all : IsPlanOfAll p) (n : ℕ) (place : Place) (at : slice_get p.numbering.places.items n ≡ Some place) where
  abbrev Step : Option LinkBy → Arrow → Type 0
  Step by arrow = Made p place by arrow

  -- where the slot holds an arrow, it is such a one
  abbrev Slot : Option Arrow → Option LinkBy → Type 0
  Slot slot by = (arrow : Arrow) → slot ≡ Some arrow → Step by arrow

  here : IsPlace p.model place × (number_of p.numbering place ≡ n)
  here = all.plan.numbering.back n place at

  leaf-step : (pair : ℕ × ℤ) → Contains (leaves_below p.model place) pair → Slot (leaf_arrow p place.cube pair) (Some Below)
  leaf-step pair inside arrow same =
      let leaf = leaf-below p.model place pair inside in
      let target : Place = place_at place.cube true pair.0 in
      let equal : arrow_to p target false ≡ arrow = same_Some _ _ same in
      let size = size-at (axes p.model.space place.cube) (last_of p.model.space place.cube) leaf.dimension leaf.last in
      let kinds = leads-kind place.kind (has_kinds p.model place.cube) (is_leaf leaf.dimension place.element) leaf.leads here.0.kind in
      let made : IsLeafArrow p.model (node place) (node target) arrow.strict = record {
        within = here.0.cube;
        same_cube = refl;
        dimension = leaf.dimension;
        last = leaf.last;
        source = subst (λ n. place.element < n) size here.0.element;
        target = leaf.leaf;
        source_kind = kinds.0;
        target_kind = refl;
        consolidated = kinds.1;
        counts = nonzero-counts (coef leaf.dimension place.element pair.0) leaf.counts;
        weak = sym (ap (λ (a : Arrow). a.strict) equal);
      } in
      inl (record {
        target = target;
        within = record { cube = here.0.cube; element = subst (λ n. pair.0 < n) (sym size) leaf.leaf; kind = refl };
        to = sym (ap (λ (a : Arrow). a.to) equal);
        made = made;
      })

  -- where a source reads for the cells of the node, this is the node of its own cells
  own-is : (s : Source) → s.cube ≡ place.cube → is_for p.model s place ≡ true → own-place p.model s place.element ≡ place
  own-is s own for =
      ap (λ c. place_at c (node_kind p.model s.cube s.kind) place.element) own ∙ ap (λ kind. place_at place.cube kind place.element) (same-kind (node_kind p.model s.cube s.kind) place.kind for)

  row-step : (row : List ℕ) → ((k : ℕ) → Contains row k → IsSourceOf p.sources place.cube k) → (k : ℕ) → Contains row k → Slot (source_arrow p place k) (Some (maker p k))
  row-step row of k inside arrow same =
      let (s, found, own) = of k inside in
      let by : reference_of s ≡ maker p k = sym (ap (λ (o : Option Source). option_map_or reference_of o Below) found) in
      let read_by : read_arrow p place k s ≡ Some arrow = sym (ap (λ (o : Option Source). option_map_or (read_arrow p place k) o None) found) ∙ same in
      let (tests, made) = given-where (reads_here p.model s place) (arrow_by p place k s (way_of p.model s)) arrow read_by in
      let (for, passes) = and_parts (is_for p.model s place) (reads_from p.model s (last_of p.model.space s.cube) place.element) tests in
      let equal : own-place p.model s place.element ≡ place = own-is s own for in
      let is = found_holds (IsSource p.model) p.sources k s all.plan.sources found in
      subst (λ b. IsArrowOf p place b arrow ⊎ IsVia p place (Some b) arrow) by
      (subst (λ q. IsArrowOf p q (reference_of s) arrow ⊎ IsVia p q (Some (reference_of s)) arrow) equal
      (source-step p all.plan s is (all.read k s found) place.element passes (subst (λ c. place.element < width p.model.space c) (sym own) here.0.element)
      k found arrow (subst (λ q. arrow_by p q k s (way_of p.model s) ≡ Some arrow) (sym equal) made)))

  row-steps : (row : List ℕ) → ((k : ℕ) → Contains row k → IsSourceOf p.sources place.cube k) → AllZip Slot (map (source_arrow p place) row) (map (λ k. Some (maker p k)) row)
  row-steps row of = zip-map Slot (source_arrow p place) (λ k. Some (maker p k)) row (row-step row of)

  leaf-steps : AllZip Slot (map (leaf_arrow p place.cube) (leaves_below p.model place)) (map (λ pair. Some Below) (leaves_below p.model place))
  leaf-steps = zip-map Slot (leaf_arrow p place.cube) (λ pair. Some Below) (leaves_below p.model place) leaf-step

  abbrev makers : List ℕ → List (Option LinkBy)
  makers row = map (λ k. Some (maker p k)) row

  own-steps : AllZip Slot (own_slots p n place) (makers_of p n place)
  own-steps =
      let whole = slice_index_or p.of_cubes place.cube [] in
      let own = slice_index_or p.of_nodes n [] in
      let by = source_arrow p place in
      let rows = zip-append Slot (map by whole) (makers whole) (map by own) (makers own)
      (row-steps whole (λ k inside. all.plan.of_cubes place.cube k inside)) (row-steps own (λ k inside. all.plan.of_nodes n k place at inside)) in
      zip-append Slot (map (leaf_arrow p place.cube) (leaves_below p.model place)) (map (λ pair. Some Below) (leaves_below p.model place))
      (map by whole ++ map by own) (makers whole ++ makers own) leaf-steps rows

  -- an arrow to the node of a group
  group-via : (g : ℕ) (head : Source) (arrow : Arrow) → slice_get p.heads g ≡ Some head → head.cube ≡ place.cube → is_for p.model head place ≡ true → reads_from p.model head (last_of p.model.space head.cube) place.element ≡ true
      → serves_any p.model head place.element ≡ true → record { to = hubs_from p + g; strict = false } ≡ arrow → IsVia p place None arrow
  group-via g head arrow found own for passes serving equal = record {
    weak = sym (ap (λ (a : Arrow). a.strict) equal);
    behind = omega (arith, ap (λ (a : Arrow). a.to) equal);
    each = each;
  }
    where
      to_is : arrow.to ≡ hubs_from p + g
      to_is = sym (ap (λ (a : Arrow). a.to) equal)

      back : arrow.to - hubs_from p ≡ g
      back = omega (arith, to_is)

      slots : slots_at p arrow.to ≡ map (member_arrow p) (members p g)
      slots = slots-shared p arrow.to g to_is (slice_get_within p.heads g head found)

      by-member : (s : Source) (next : Arrow) → Contains (members p g) s → member_arrow p s ≡ Some next → IsArrowOf p place (reference_of s) next
      by-member s next has made =
          let alike = all.alike g head s found has in
          let is = All-contains (IsSource p.model) (members p g) s (all.plan.grouped g) has in
          let cube : s.cube ≡ place.cube = sym alike.cube ∙ own in
          let for_its : is_for p.model s place ≡ true =
          subst (λ kind. is_same (node_kind p.model s.cube kind) place.kind ≡ true) alike.kind (subst (λ c. is_same (node_kind p.model c head.kind) place.kind ≡ true) alike.cube for) in
          let same : own-place p.model s place.element ≡ place = own-is s cube for_its in
          let from : reads_from p.model s (last_of p.model.space s.cube) place.element ≡ true =
          subst (λ c. reads_from p.model s (last_of p.model.space c) place.element ≡ true) alike.cube (sym (alike.reads place.element) ∙ passes) in
          let low : place.element < width p.model.space s.cube = subst (λ c. place.element < width p.model.space c) (sym cube) here.0.element in
          subst (λ q. IsArrowOf p q (reference_of s) next) same
          (member-step p all.plan s is (all.read_members g s has) place.element from low (way_of p.model s) next refl (sym (alike.serves place.element) ∙ serving) made)

      each : (slot : ℕ) (next : Arrow) → slot < length (slots_at p arrow.to) → unwrap_or (slice_get (slots_at p arrow.to) slot) None ≡ Some next
          → IsArrowOf p place (member_maker p (record { node = arrow.to; slot = slot })) next
      each slot next low held =
          let whole : slice_get (map (member_arrow p) (members p g)) slot ≡ Some (Some next) =
          ap (λ xs. slice_get xs slot) (sym slots) ∙ slice_get-get_or (slots_at p arrow.to) slot None low ∙ ap Some (sym (unwrap_or-slice_get (slots_at p arrow.to) slot None) ∙ held) in
          let (s, inside, made) = mapped-at (member_arrow p) (members p g) slot (Some next) whole in
          let maker_is : reference_of s ≡ member_maker p (record { node = arrow.to; slot = slot }) =
          sym (ap (λ (o : Option LinkBy). unwrap_or o Below) (ap (λ h. slice_get (map reference_of (members p h)) slot) back ∙ get-mapped reference_of (members p g) slot s inside)) in
          subst (λ b. IsArrowOf p place b next) maker_is (by-member s next (has-at (members p g) slot s inside) made)

  group-step : (g : ℕ) (arrow : Arrow) → IsSourceOf p.heads place.cube g → group_arrow p place g ≡ Some arrow → IsVia p place None arrow
  group-step g arrow (head, found, own) made =
      let by : group_by p place g head ≡ Some arrow = sym (ap (λ (o : Option Source). option_map_or (group_by p place g) o None) found) ∙ made in
      let reads = reads_from p.model head (last_of p.model.space head.cube) place.element in
      let (tests, equal) = cond_some (reads_here p.model head place && serves_any p.model head place.element) (record { to = hubs_from p + g; strict = false }) arrow by in
      let (passes, serving) = and_parts (reads_here p.model head place) (serves_any p.model head place.element) tests in
      let (for, from) = and_parts (is_for p.model head place) reads passes in
      group-via g head arrow found own for from serving equal

  groups-step : (arrow : Arrow) → Contains (group_slots p n place) (Some arrow) → IsVia p place None arrow
  groups-step arrow has =
      let whole = slice_index_or p.groups_of_cubes place.cube [] in
      let own = slice_index_or p.groups_of_nodes n [] in
      elim (Contains-append_cases (map (group_arrow p place) whole) (map (group_arrow p place) own) (Some arrow) has) [
        | inl first ↦ let (g, inside, made) = map-has (group_arrow p place) whole (Some arrow) first in group-step g arrow (all.of_cubes place.cube g inside) made
        | inr second ↦ let (g, inside, made) = map-has (group_arrow p place) own (Some arrow) second in group-step g arrow (all.of_nodes n g place at inside) made
      ]

  -- the arrow in a slot of the node of an element, and in any
  pub slot-step : (slot : ℕ) (arrow : Arrow) → slot < length (slots_at p n) → unwrap_or (slice_get (slots_at p n) slot) None ≡ Some arrow → Step (made_by p n place slot) arrow
  slot-step slot arrow low is = by (cases_lt slot (length (own_slots p n place)))
    where
      own : List (Option Arrow)
      own = own_slots p n place

      groups : List (Option Arrow)
      groups = group_slots p n place

      both : unwrap_or (slice_get (own ++ groups) slot) None ≡ Some arrow
      both = ap (λ xs. unwrap_or (slice_get xs slot) None) (sym (slots-element p n place at)) ∙ is

      by : (slot < length own) ⊎ (length own ≤ slot) → Step (made_by p n place slot) arrow
      by (inl less) =
          subst (λ b. Step b arrow) (sym (unwrap_or-slice_get (makers_of p n place) slot None))
          (zip-at Slot own (makers_of p n place) slot None None own-steps less arrow (sym (unwrap_or-slice_get own slot None) ∙ in-first own groups slot None less ∙ both))
      by (inr past) =
          let a = slot - length own in
          let split : slot ≡ length own + a = omega (arith, past) in
          let held : unwrap_or (slice_get groups a) None ≡ Some arrow = sym (at-past own groups slot a None split) ∙ both in
          let under : a < length groups = omega (arith, low, split, ap (λ (xs : List (Option Arrow)). length xs) (slots-element p n place at), length-append own groups) in
          let none : None ≡ made_by p n place slot =
          sym (ap (λ (o : Option (Option LinkBy)). unwrap_or o None) (slice_get_past (makers_of p n place) slot (omega (arith, past, zip-long Slot own (makers_of p n place) own-steps)))) in
          subst (λ b. Step b arrow) none (groups-step arrow (held-has groups a arrow under held))

  pub element-step : (arrow : Arrow) → Contains (slots_at p n) (Some arrow) → ((by : LinkBy) × IsArrowOf p place by arrow) ⊎ ((by : Option LinkBy) × IsVia p place by arrow)
  element-step arrow (slot, low, is) = by (made_by p n place slot) (slot-step slot arrow low (has-held (slots_at p n) slot arrow low is))
    where
      by : (by : Option LinkBy) → Step by arrow → ((by : LinkBy) × IsArrowOf p place by arrow) ⊎ ((by : Option LinkBy) × IsVia p place by arrow)
      by None via = inr (None, via)
      by (Some maker) (inl made) = inl (maker, made)
      by (Some maker) (inr via) = inr (Some maker, via)

-- what lies behind the nodes of the model leads to nodes of the model
abbrev pub LeadsBack : Plan → Arrow → Type 0
LeadsBack p arrow = (target : Place) × IsPlace p.model target × (arrow.to ≡ number_of p.numbering target)

reached-back : (p : Plan) (plan : IsPlan p) (s : Source) (is : IsSource p.model s) (read : IsRead p.model s) (gives : Gives) (arrow : Arrow) → Contains (reached_slots p s gives) (Some arrow) → LeadsBack p arrow
reached-back p plan s is read gives arrow has =
    let r = slots-arrow p s gives arrow has in
    let names = names-within p.model s.cube (precedent s) plan.valid is.reads in
    let below : Names s.cube (cube_read s) (width p.model.space (cube_read s)) (SentOver r.i r.to) = subst (Names s.cube (cube_read s) (width p.model.space (cube_read s))) r.way names in
    (target_at s r.target, target-place p plan s is read r.target (below r.element r.target r.sends), sym (ap (λ (a : Arrow). a.to) r.is))

parts-back : (p : Plan) (plan : IsPlan p) (place : Place) → IsPlace p.model place → (totals : Bool) (arrow : Arrow) → Contains (map (part_arrow p place totals) (parts_of p.model.space place)) (Some arrow) → LeadsBack p arrow
parts-back p plan place is totals arrow has =
    let r = parts-arrow p place totals (parts_of p.model.space place) arrow has in
    (place_at place.cube place.kind r.part.0, record { cube = is.cube; element = part-low p.model place r.part plan.valid r.inside; kind = is.kind }, sym (ap (λ (a : Arrow). a.to) r.is))

shared-back : (p : Plan) (plan : IsPlan p) (s : Source) (is : IsSource p.model s) (read : IsRead p.model s) (arrow : Arrow) (w : Follows) → way_of p.model s ≡ w → member_by p s w ≡ Some arrow → LeadsBack p arrow
shared-back p plan s is read arrow Same way made = absurd (cc)
shared-back p plan s is read arrow Component way made = absurd (cc)
shared-back p plan s is read arrow (Always target) way made =
    let names = names-within p.model s.cube (precedent s) plan.valid is.reads in
    let below : Names s.cube (cube_read s) (width p.model.space (cube_read s)) (Always target) = subst (Names s.cube (cube_read s) (width p.model.space (cube_read s))) way names in
    (target_at s target, target-place p plan s is read target below, sym (ap (λ (a : Arrow). a.to) (same_Some _ _ made)))
shared-back p plan s is read arrow (Sent to) way made = absurd (cc)
shared-back p plan s is read arrow (SentOver i to) way made = absurd (cc)

-- which nodes lie behind
data IsBehind (p : Plan) (n : ℕ) : Type 0 where
  Parts : (totals : Bool) (k : ℕ) → k < parts_from p → n ≡ components_from p totals + k → IsBehind p n
  Given : (own its : Bool) (k : ℕ) → k < length p.sources → n ≡ given_from p own its + k → IsBehind p n
  Hub : (g : ℕ) → g < length p.heads → n ≡ hubs_from p + g → IsBehind p n
  Past : node_count p ≤ n → IsBehind p n

is-behind : (p : Plan) (n : ℕ) → parts_from p ≤ n → IsBehind p n
is-behind p n behind = elim (cases_lt n (totals_from p)) [
  | inl low ↦ Parts false (n - parts_from p) (omega (arith, behind, low)) (omega (arith, behind))
  | inr high ↦ elim (cases_lt n (both_from p)) [ inl low ↦ Parts true (n - totals_from p) (omega (arith, high, low)) (omega (arith, high)) | inr above ↦ given above ]
]
  where
    shared : hubs_from p ≤ n → IsBehind p n
    shared high = elim (cases_lt n (node_count p)) [ inl low ↦ Hub (n - hubs_from p) (omega (arith, high, low)) (omega (arith, high)) | inr past ↦ Past past ]

    late : its_from p ≤ n → IsBehind p n
    late high = elim (cases_lt n (none_from p)) [
      | inl low ↦ Given false true (n - its_from p) (omega (arith, high, low)) (omega (arith, high))
      | inr above ↦ elim (cases_lt n (hubs_from p)) [ inl low ↦ Given false false (n - none_from p) (omega (arith, above, low)) (omega (arith, above)) | inr beyond ↦ shared beyond ]
    ]

    given : both_from p ≤ n → IsBehind p n
    given high = elim (cases_lt n (own_from p)) [
      | inl low ↦ Given true true (n - both_from p) (omega (arith, high, low)) (omega (arith, high))
      | inr above ↦ elim (cases_lt n (its_from p)) [ inl low ↦ Given true false (n - own_from p) (omega (arith, above, low)) (omega (arith, above)) | inr beyond ↦ late beyond ]
    ]

pub behind-back : (p : Plan) (all : IsPlanOfAll p) (n : ℕ) (arrow : Arrow) → parts_from p ≤ n → Contains (slots_at p n) (Some arrow) → LeadsBack p arrow
behind-back p all n arrow behind has = by (is-behind p n behind)
  where
    plan : IsPlan p
    plan = all.plan

    by : IsBehind p n → LeadsBack p arrow
    by (Parts totals k low is) =
        let (place, at) = there p.numbering.places.items k low in
        let slots = slots-parts p totals n k place is at in
        parts-back p plan place (plan.numbering.back k place at).0 totals arrow (subst (λ xs. Contains xs (Some arrow)) slots has)
    by (Given own its k low is) =
        let (s, at) = there p.sources k low in
        reached-back p plan s (found_holds (IsSource p.model) p.sources k s plan.sources at) (all.read k s at) (record { own = own; its = its }) arrow
        (subst (λ xs. Contains xs (Some arrow)) (slots-given p own its n k s is at) has)
    by (Hub g low is) =
        let (s, inside, made) = map-has (member_arrow p) (members p g) (Some arrow) (subst (λ xs. Contains xs (Some arrow)) (slots-shared p n g is low) has) in
        shared-back p plan s (All-contains (IsSource p.model) (members p g) s (plan.grouped g) inside) (all.read_members g s inside) arrow (way_of p.model s) refl made
    by (Past past) =
        let (k, low, is) = subst (λ xs. Contains xs (Some arrow)) (slots-none p n past) has in
        absurd (omega (arith, low))
