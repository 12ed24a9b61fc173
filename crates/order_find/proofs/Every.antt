-- Each arrow of a model is found in a plan of it.
use Rattle.std.proofs.Common.{◌≡◌, refl, sym, ap, ◌∙◌, arith, subst, ℕ, ◌+◌, ◌<◌, Bool, true, false, not, ◌&&◌, ◌||◌, Option, Some, None, List, [], ◌++◌, length, map, Contains, ℤ, inl, inr, if◌then◌else◌}
use Rattle.std.specs.Prelude.{slice_get, slice_index_or}
use Rattle.std.specs.Option.{option_map_or}
use Rattle.std.specs.List.{range_with_len}
use Rattle.std.proofs.lemmas.Bool.{cond-true, and_from}
use Rattle.std.proofs.lemmas.List.Elements.{All-contains, Contains-append_left, Contains-append_right}
use Rattle.dim_core.specs.Outline.{Outline}
use Rattle.dim_weights.specs.Coefficients.{coef}
use Rattle.dim_weights.specs.Table.{leaves_of}
use Rattle.dim_weights.proofs.Nonzero.{counts-nonzero, among-in}
use Rattle.cube_space.specs.Layout.{axes}
use Rattle.cube_space.specs.Cells.{is_leaf}
use Rattle.lists.proofs.Found.{there, found_holds}
use Rattle.rule_model.specs.Areas.{in_set}
use Rattle.order_laws.proofs.ChildFacts.{size-at}
use Rattle.arrow_laws.specs.Nodes.{Node, last_of, has_kinds, has_nodes, node_kind}
use Rattle.arrow_laws.specs.Arrows.{IsLeafArrow, IsArrow}
use Rattle.order_find.specs.declared.numbering.Place.{Place}
use Rattle.read_sources.specs.declared.source.Source.{Source}
use Rattle.order_find.specs.Numbers.{IsPlace, number_of, place_at}
use Rattle.read_sources.specs.Ways.{IsSource, precedent, way_of, reads_from, serves_any, cube_read}
use Rattle.order_find.specs.Slots.{Plan, arrow_to, sent_to, target_at, is_for, reads_here, leads_below, leaves_below, leaf_arrow, arrow_by, read_arrow, source_arrow, hubs_from, group_by, group_arrow, member_arrow, members, own_slots, group_slots, slots_at}
use Rattle.order_find.specs.PlanOfAll.{IsPlanOfAll}
use Rattle.read_sources.specs.Parts.{IsReadLike, IsReadIn, JoinsAs}
use Rattle.read_sources.specs.Sources.{IsRead}
use Rattle.order_find.proofs.Decided.{IsReadByDimension, read-dimension}
use Rattle.order_find.proofs.Through.{node, Goes, GoesThrough}
use Rattle.read_sources.proofs.Lists.{has-map, has-range}
use Rattle.read_sources.proofs.Named.{joins-as}
use Rattle.order_find.proofs.Vertices.{slots-element, slots-shared}
use Rattle.order_find.proofs.Suiting.{not-not, kind-same, meant-target}
use Rattle.order_find.proofs.LookedAt.{own-place, own-there}
use Rattle.order_find.proofs.Sound.{target-place}
use Rattle.order_find.proofs.Area.{from-area, in-area}
use Rattle.order_find.proofs.Complete.{goes, always-goes, named-low}

pub record IsThrough (p : Plan) (from to : Node) (strict : Bool) : Type 0 where
  pub source : Place
  pub target : Place
  pub source_within : IsPlace p.model source
  pub target_within : IsPlace p.model target
  pub from_is : node source ≡ from
  pub to_is : node target ≡ to
  pub goes_there : GoesThrough p (number_of p.numbering source) (number_of p.numbering target) strict

node-at : (cube element : ℕ) (kind : Bool) (n : Node) → n.cube ≡ cube → n.element ≡ element → n.kind ≡ kind → node (place_at cube kind element) ≡ n
node-at cube element kind n own here same =
    ap (λ c. node (place_at c kind element)) (sym own) ∙ ap (λ e. node (place_at n.cube kind e)) (sym here) ∙ ap (λ k. node (place_at n.cube k n.element)) (sym same)

module _ (p : Plan) (all : IsPlanOfAll p) (from to : Node) (strict : Bool) where
  -- the nodes of an arrow that a source makes
  record IsRoute (s : Source) : Type 0 where
    low : from.element < Rattle.order_find.specs.Numbers.width p.model.space s.cube
    listed : in_set (slice_index_or s.area.now.sets (last_of p.model.space s.cube) None) from.element ≡ true
    from_is : node (own-place p.model s from.element) ≡ from
    to_is : node (target_at s to.element) ≡ to
    target_within : IsPlace p.model (target_at s to.element)

  route : (s : Source) → IsSource p.model s → IsRead p.model s → JoinsAs p.model s from to → IsRoute s
  route s is read j =
      let m = p.model in
      let (low, listed) = in-area m s.cube s.area.now (last_of m.space s.cube) from.element (from-area m s.cube s.area.now s.kind (precedent s) s.its (last_of m.space s.cube) from.element j.own) in
      let kind : to.kind ≡ (target_at s to.element).kind =
      meant-target m s to.kind (subst (λ c. Rattle.arrow_laws.specs.Nodes.kind_in m c to.kind ≡ s.its) j.target j.meant) (subst (λ c. has_nodes m c to.kind ≡ true) j.target j.target_kind) in
      record {
        low = low;
        listed = listed;
        from_is = node-at s.cube from.element (node_kind m s.cube s.kind) from j.source refl j.source_kind;
        to_is = node-at (cube_read s) to.element (target_at s to.element).kind to j.target refl kind;
        target_within = target-place p all.plan s is read to.element (named-low p all.plan s is from.element to.element low j.named);
      }

  single-every : (r : IsReadByDimension p.model from to strict) → IsReadLike p.model p.sources r.cube r.statement r.kind r.read from to → IsThrough p from to strict
  single-every r rb =
      let s = rb.source in
      let m = p.model in
      let read = all.read rb.k s rb.here in
      let is = found_holds (IsSource m) p.sources rb.k s all.plan.sources rb.here in
      let j : JoinsAs m s from to = joins-as m s read from to rb.joins in
      let way = route s is read j in
      let weak : s.weak ≡ not strict = rb.weak ∙ r.weak in
      let strict_is : not s.weak ≡ strict = ap not weak ∙ not-not strict in
      let place : Place = own-place m s from.element in
      let within : IsPlace m place = own-there m s from.element is.cube way.low in
      let n = number_of p.numbering place in
      record {
        source = place;
        target = target_at s to.element;
        source_within = within;
        target_within = way.target_within;
        from_is = way.from_is;
        to_is = way.to_is;
        goes_there = subst (λ b. GoesThrough p n (number_of p.numbering (target_at s to.element)) b) strict_is
            (goes p all.plan s is read from.element to.element n rb.k way.low rb.here (looked-by s rb.k within rb.here way.listed j.own) j.named);
      }
    where
      looked-by : (s : Source) (k : ℕ) → IsPlace p.model (own-place p.model s from.element) → slice_get p.sources k ≡ Some s
          → in_set (slice_index_or s.area.now.sets (last_of p.model.space s.cube) None) from.element ≡ true → reads_from p.model s (last_of p.model.space s.cube) from.element ≡ true
          → (made : _) → arrow_by p (own-place p.model s from.element) k s (way_of p.model s) ≡ made → Contains (slots_at p (number_of p.numbering (own-place p.model s from.element))) made
      looked-by s k within here listed passes made is =
          let place : Place = own-place p.model s from.element in
          let n = number_of p.numbering place in
          let at = all.plan.numbering.there place within in
          let reads = reads_from p.model s (last_of p.model.space s.cube) from.element in
          let tests : reads_here p.model s place ≡ true = and_from (is_for p.model s place) reads (kind-same (node_kind p.model s.cube s.kind) place.kind refl) passes in
          let arrow : source_arrow p place k ≡ made = ap (λ (o : Option Source). option_map_or (read_arrow p place k) o None) here
          ∙ cond-true (reads_here p.model s place) (arrow_by p place k s (way_of p.model s)) None tests ∙ is in
          let leaves = map (leaf_arrow p place.cube) (leaves_below p.model place) in
          let cubes = map (source_arrow p place) (slice_index_or p.of_cubes place.cube []) in
          let nodes = map (source_arrow p place) (slice_index_or p.of_nodes n []) in
          let groups = group_slots p n place in
          let has : Contains (leaves ++ (cubes ++ nodes)) (source_arrow p place k) = elim (all.looked_at k s place here within refl refl listed) [
            | inl cube ↦ Contains-append_right leaves (cubes ++ nodes) _ (Contains-append_left cubes nodes _ (has-map (source_arrow p place) (slice_index_or p.of_cubes place.cube []) k cube))
            | inr node ↦ Contains-append_right leaves (cubes ++ nodes) _ (Contains-append_right cubes nodes _ (has-map (source_arrow p place) (slice_index_or p.of_nodes n []) k node))
          ] in
          subst (λ xs. Contains xs made) (sym (slots-element p n place at))
          (Contains-append_left (leaves ++ (cubes ++ nodes)) groups made (subst (Contains (leaves ++ (cubes ++ nodes))) arrow has))

  -- through the node of a group
  group-every : (r : IsReadByDimension p.model from to strict) → IsReadIn p.model p.heads p.groups r.cube r.statement r.kind r.read from to → IsThrough p from to strict
  group-every r rb =
      let s = rb.source in
      let m = p.model in
      let g = rb.member.group in
      let read = all.read_members g s rb.member.has in
      let is = All-contains (IsSource m) (members p g) s (all.plan.grouped g) rb.member.has in
      let j : JoinsAs m s from to = joins-as m s read from to rb.joins in
      let way = route s is read j in
      let weak : s.weak ≡ not strict = rb.weak ∙ r.weak in
      let strict_is : not s.weak ≡ strict = ap not weak ∙ not-not strict in
      let place : Place = own-place m s from.element in
      let within : IsPlace m place = own-there m s from.element is.cube way.low in
      let n = number_of p.numbering place in
      let goes = always-goes p s from.element to.element rb.member.shared j.named in
      let v = hubs_from p + g in
      record {
        source = place;
        target = target_at s to.element;
        source_within = within;
        target_within = way.target_within;
        from_is = way.from_is;
        to_is = way.to_is;
        goes_there = subst (λ b. GoesThrough p n (number_of p.numbering (target_at s to.element)) b) strict_is
            (inr (
              v,
              omega (arith, rb.member.low),
              to-group s g within rb.member.low rb.member.has j.own goes.serves,
              subst (λ xs. Contains xs (Some (sent_to p s to.element))) (sym (slots-shared p v g refl rb.member.low))
                  (subst (Contains (map (member_arrow p) (members p g))) goes.made (has-map (member_arrow p) (members p g) s rb.member.has)),
            ));
      }
    where
      to-group : (s : Source) (g : ℕ) → IsPlace p.model (own-place p.model s from.element) → g < length p.heads → Contains (members p g) s → reads_from p.model s (last_of p.model.space s.cube) from.element ≡ true
          → serves_any p.model s from.element ≡ true → Goes p (number_of p.numbering (own-place p.model s from.element)) (hubs_from p + g) false
      to-group s g within low has passes serving =
          let m = p.model in
          let place : Place = own-place m s from.element in
          let n = number_of p.numbering place in
          let at = all.plan.numbering.there place within in
          let (head, found) = there p.heads g low in
          let alike = all.alike g head s found has in
          let from_head : reads_from m head (last_of m.space head.cube) place.element ≡ true =
          alike.reads place.element ∙ subst (λ c. reads_from m s (last_of m.space c) place.element ≡ true) (sym alike.cube) passes in
          let serves_head : serves_any m head place.element ≡ true = alike.serves place.element ∙ serving in
          let kinds : place.kind ≡ node_kind m head.cube head.kind = ap (λ c. node_kind m c s.kind) (sym alike.cube) ∙ ap (node_kind m head.cube) (sym alike.kind) in
          let (inside, listed) = in-area m head.cube head.area.now (last_of m.space head.cube) place.element (from-area m head.cube head.area.now head.kind (precedent head) head.its (last_of m.space head.cube) place.element from_head) in
          let reads = reads_from m head (last_of m.space head.cube) place.element in
          let here : reads_here m head place ≡ true = and_from (is_for m head place) reads (kind-same (node_kind m head.cube head.kind) place.kind (sym kinds)) from_head in
          let tests = and_from (reads_here m head place) (serves_any m head place.element) here serves_head in
          let arrow : group_arrow p place g ≡ Some (record { to = hubs_from p + g; strict = false }) = ap (λ (o : Option Source). option_map_or (group_by p place g) o None) found
          ∙ cond-true (reads_here m head place && serves_any m head place.element) (Some (record { to = hubs_from p + g; strict = false })) None tests in
          let whole = slice_index_or p.groups_of_cubes place.cube [] in
          let own_row = slice_index_or p.groups_of_nodes n [] in
          let slot : Contains (group_slots p n place) (group_arrow p place g) = elim (all.heads_looked_at g head place found within (sym alike.cube) kinds listed) [
            | inl cube ↦ Contains-append_left (map (group_arrow p place) whole) (map (group_arrow p place) own_row) _ (has-map (group_arrow p place) whole g cube)
            | inr node ↦ Contains-append_right (map (group_arrow p place) whole) (map (group_arrow p place) own_row) _ (has-map (group_arrow p place) own_row g node)
          ] in
          subst (λ xs. Contains xs (Some (record { to = hubs_from p + g; strict = false }))) (sym (slots-element p n place at))
          (Contains-append_right (own_slots p n place) (group_slots p n place) _ (subst (Contains (group_slots p n place)) arrow slot))

  read-every : IsReadByDimension p.model from to strict → IsThrough p from to strict
  read-every r = elim (all.all r.cube r.statement r.kind r.read r.within r.stands r.reads r.level r.not_lagged from to r.joined) [
    | inl single ↦ single-every r single
    | inr group ↦ group-every r group
  ]

  -- a node of a leaf arrow leads to leaves
  leads-from : (kind kinds leaf : Bool) → kind ≡ not kinds → (kind ≡ true → leaf ≡ false) → not kind || (not kinds && not leaf) ≡ true
  leads-from true true leaf is total = absurd (cc is)
  leads-from true false true is total = let off = total refl in absurd (cc off)
  leads-from true false false is total = refl
  leads-from false kinds leaf is total = refl

  -- and there is such a node
  nodes-from : (kind kinds : Bool) → kind ≡ not kinds → kind || kinds ≡ true
  nodes-from true kinds is = refl
  nodes-from false true is = refl
  nodes-from false false is = absurd (cc is)

  leaf-every : IsLeafArrow p.model from to strict → IsThrough p from to strict
  leaf-every l =
      let m = p.model in
      let d = l.dimension in
      let size = size-at (axes m.space from.cube) (last_of m.space from.cube) d l.last in
      let place : Place = place_at from.cube from.kind from.element in
      let target : Place = place_at from.cube true to.element in
      let within : IsPlace m place = record { cube = l.within; element = subst (λ n. from.element < n) (sym size) l.source; kind = nodes-from from.kind (has_kinds m from.cube) l.source_kind } in
      let n = number_of p.numbering place in
      let at : slice_get p.numbering.places.items n ≡ Some place = all.plan.numbering.there place within in
      let leads : leads_below m place d ≡ true = leads-from from.kind (has_kinds m from.cube) (is_leaf d from.element) l.source_kind l.consolidated in
      let leaves : leaves_below m place ≡ leaves_of d from.element = ap (λ (o : Option Outline). option_map_or (λ d. if leads_below m place d then leaves_of d from.element else []) o []) l.last
      ∙ cond-true (leads_below m place d) (leaves_of d from.element) [] leads in
      let counts = counts-nonzero (coef d from.element to.element) l.counts in
      let has = among-in (coef d from.element) (range_with_len 0 (length d.elements)) to.element (has-range (length d.elements) to.element l.target) counts in
      let below : Contains (leaves_below m place) (to.element, coef d from.element to.element) = subst (λ (xs : List (ℕ × ℤ)). Contains xs (to.element, coef d from.element to.element)) (sym leaves) has in
      let arrow = has-map (leaf_arrow p from.cube) (leaves_below m place) (to.element, coef d from.element to.element) below in
      let row = map (source_arrow p place) (slice_index_or p.of_cubes from.cube []) ++ map (source_arrow p place) (slice_index_or p.of_nodes n []) in
      let slot = Contains-append_left (map (leaf_arrow p from.cube) (leaves_below m place)) row _ arrow in
      record {
        source = place;
        target = target;
        source_within = within;
        target_within = record { cube = l.within; element = subst (λ n. to.element < n) (sym size) l.target; kind = refl };
        from_is = refl;
        to_is = node-at from.cube to.element true to l.same_cube refl l.target_kind;
        goes_there = subst (λ b. GoesThrough p n (number_of p.numbering target) b) (sym l.weak)
            (inl (subst (λ xs. Contains xs (Some (arrow_to p target false))) (sym (slots-element p n place at))
            (Contains-append_left (own_slots p n place) (group_slots p n place) _ slot)));
      }

  pub every : IsArrow p.model from to strict → IsThrough p from to strict
  every (inl r) = read-every (read-dimension p.model all.plan.valid all.plan.ruled from to strict r)
  every (inr l) = leaf-every l
