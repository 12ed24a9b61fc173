-- Each arrow of a model is one of its plan, by itself or through another node.
use Rattle.std.proofs.Common.{◌≡◌, refl, sym, ap, ◌∙◌, arith, subst, ℕ, ◌+◌, ◌<◌, Bool, true, false, not, ◌&&◌, ◌||◌, Option, Some, None, List, [], length, map, Contains, inl, inr, if◌then◌else◌, option_map}
use Rattle.std.specs.Prelude.{slice_get, slice_index_or}
use Rattle.std.specs.List.{range_with_len}
use Rattle.std.proofs.lemmas.Bool.{and_from, cond-true}
use Rattle.std.proofs.lemmas.Option.{slice_get_within}
use Rattle.dim_weights.specs.Table.{is_nonzero}
use Rattle.cube_space.specs.Layout.{axes, sizes}
use Rattle.order_laws.specs.Scales.{is_total, is_leaf_element, set_count, set_element}
use Rattle.order_laws.proofs.SetFacts.{place-of}
use Rattle.cover_laws.specs.Looking.{sent}
use Rattle.least_ranks.specs.declared.arrow.Arrow.{Arrow}
use Rattle.arrow_laws.specs.Nodes.{last_of, kind_in}
use Rattle.arrow_laws.specs.ByDimension.{admits, names_total}
use Rattle.order_find.specs.declared.slots.Gives.{Gives}
use Rattle.read_sources.specs.declared.source.Source.{Source}
use Rattle.order_find.specs.Numbers.{IsPlace, width, number_of, place_at}
use Rattle.read_sources.specs.Ways.{Follows, Same, Component, Always, Sent, SentOver, IsSource, precedent, way_of, reads_from, is_consolidated, gives_total, suits, serves_any, cube_read, IsNamedAs, Names}
use Rattle.order_find.specs.Slots.{Plan, IsPlan, parts_from, node_count, components_from, given_from, arrow_to, sent_to, target_at, parts_of, is_meant, part_arrow, arrow_by, is_given, reached_from, reached_by, member_by, member_arrow, slots_at}
use Rattle.read_sources.specs.Sources.{IsRead}
use Rattle.read_sources.specs.Parts.{IsShared}
use Rattle.order_find.proofs.Through.{GoesThrough}
use Rattle.order_find.proofs.LookedAt.{own-place}
use Rattle.order_find.proofs.Sound.{target-place}
use Rattle.read_sources.proofs.Lists.{has-map, has-range}
use Rattle.read_sources.proofs.Within.{names-within}
use Rattle.order_find.proofs.Vertices.{slots-parts, slots-given}
use Rattle.order_find.proofs.Suiting.{is-part, part-suits, not-given, target-meant}
use Rattle.order_find.proofs.Area.{from-area}
use Rattle.order_find.proofs.Steps.{part-low}

-- what is reached from an element of another dimension
pub reached-in : (p : Plan) (s : Source) (gives : Gives) (i : ℕ) (to : List (Option ℕ)) (element t : ℕ) → reads_from p.model s i element ≡ true → is_given p.model s gives i element ≡ true → sent to element ≡ Some t
    → Contains (reached_by p s gives (SentOver i to)) (Some (sent_to p s t))
reached-in p s gives i to element t passes given sends =
    let set = slice_index_or s.area.now.sets i None in
    let size = slice_index_or (sizes p.model.space s.cube) i 0 in
    let (k, low, is) = place-of size set element (from-area p.model s.cube s.area.now s.kind (precedent s) s.its i element passes) in
    let has = has-map (λ k. reached_from p s gives i to (set_element set k)) (range_with_len 0 (set_count size set)) k (has-range (set_count size set) k low) in
    let both = and_from (reads_from p.model s i element) (is_given p.model s gives i element) passes given in
    let made : reached_from p s gives i to (set_element set k) ≡ Some (sent_to p s t) =
    ap (reached_from p s gives i to) is
    ∙ cond-true (reads_from p.model s i element && is_given p.model s gives i element) (option_map (sent_to p s) (sent to element)) None both
    ∙ ap (option_map (sent_to p s)) sends in
    subst (Contains (reached_by p s gives (SentOver i to))) made has

-- the nodes for components and for sources have numbers of the graph
components-low : (p : Plan) (totals : Bool) (n : ℕ) → n < parts_from p → components_from p totals + n < node_count p
components-low p true n low = omega (arith, low)
components-low p false n low = omega (arith, low)

given-low : (p : Plan) (own its : Bool) (k : ℕ) → k < length p.sources → given_from p own its + k < node_count p
given-low p true true k low = omega (arith, low)
given-low p true false k low = omega (arith, low)
given-low p false true k low = omega (arith, low)
given-low p false false k low = omega (arith, low)

module _ (p : Plan) (plan : IsPlan p) (s : Source) (is : IsSource p.model s) (read : IsRead p.model s) (e t n k : ℕ) (low : e < width p.model.space s.cube) (here : slice_get p.sources k ≡ Some s) where
  abbrev last : ℕ
  last = last_of p.model.space s.cube

  abbrev goal_of : Type 0
  goal_of = GoesThrough p n (number_of p.numbering (target_at s t)) (not s.weak)

  low_k : k < length p.sources
  low_k = slice_get_within p.sources k s here

  abbrev Names_by : Follows → Type 0
  Names_by w = Names s.cube (cube_read s) (width p.model.space (cube_read s)) w

  names : Names_by (way_of p.model s)
  names = names-within p.model s.cube (precedent s) plan.valid is.reads

  -- the arrow stands in a slot of the node
  module _ (looked : (made : Option Arrow) → arrow_by p (own-place p.model s e) k s (way_of p.model s) ≡ made → Contains (slots_at p n) made) where
    direct : (w : Follows) → way_of p.model s ≡ w → arrow_by p (own-place p.model s e) k s w ≡ Some (sent_to p s t) → goal_of
    direct w way made = inl (looked (Some (sent_to p s t)) (ap (arrow_by p (own-place p.model s e) k s) way ∙ made))

    over : (i : ℕ) (to : List (Option ℕ)) → way_of p.model s ≡ SentOver i to → (element : ℕ) → reads_from p.model s i element ≡ true → sent to element ≡ Some t
        → is_given p.model s (record { own = is_consolidated p.model s last e; its = gives_total p.model s last e }) i element ≡ true → goal_of
    over i to way element passes sends given =
        let own = is_consolidated p.model s last e in
        let its = gives_total p.model s last e in
        let gives : Gives = record { own = own; its = its } in
        let v = given_from p own its + k in
        let arrow : arrow_by p (own-place p.model s e) k s (way_of p.model s) ≡ Some (record { to = v; strict = false }) = ap (arrow_by p (own-place p.model s e) k s) way in
        let off : its && not s.asks ≡ false = not-given s.asks (names_total p.model.space s.cube (precedent s) last e) in
        let slots : slots_at p v ≡ reached_by p s gives (SentOver i to) = slots-given p own its v k s refl here
        ∙ ap (λ (b : Bool). if b then [] else reached_by p s gives (way_of p.model s)) off ∙ ap (reached_by p s gives) way in
        inr (
          v,
          given-low p own its k low_k,
          looked (Some (record { to = v; strict = false })) arrow,
          subst (λ xs. Contains xs (Some (sent_to p s t))) (sym slots) (reached-in p s gives i to element t passes given sends),
        )

    parts : way_of p.model s ≡ Component → IsNamedAs p.model s Component e t → goal_of
    parts way (named, admitted, suited) =
        let totals = not (suits s true false) in
        let place = target_at s e in
        let other : cube_read s ≡ s.cube = subst Names_by way names in
        let within : IsPlace p.model place = target-place p plan s is read e (subst (λ c. e < width p.model.space c) (sym other) low) in
        let at = plan.numbering.there place within in
        let v = components_from p totals + number_of p.numbering place in
        let arrow : arrow_by p (own-place p.model s e) k s (way_of p.model s) ≡ Some (record { to = v; strict = false }) = ap (arrow_by p (own-place p.model s e) k s) way in
        let (part, inside, to_is, counts) = is-part (axes p.model.space s.cube) last e t named in
        let weak : not s.weak ≡ false = ap not (read.parts way) in
        let as_kind : admits (kind_in p.model (cube_read s) place.kind) (is_leaf_element (axes p.model.space s.cube) last t) ≡ true =
        subst (λ its. admits its (is_leaf_element (axes p.model.space s.cube) last t) ≡ true) (sym (target-meant p.model s read.has_kind)) admitted in
        let here_meant : admits (kind_in p.model (cube_read s) place.kind) (is_leaf_element (axes p.model.space s.cube) last t) && (not totals || is_total (axes p.model.space s.cube) last t) ≡ true =
        and_from _ _ as_kind (part-suits s (is_total (axes p.model.space s.cube) last t) (suits s true false) refl suited) in
        let meant : is_meant p.model place totals t ≡ true =
        subst (λ c. admits (kind_in p.model (cube_read s) place.kind) (is_leaf_element (axes p.model.space c) (last_of p.model.space c) t) && (not totals || is_total (axes p.model.space c) (last_of p.model.space c) t) ≡ true) (sym other) here_meant in
        let passes : is_nonzero part.1 && is_meant p.model place totals part.0 ≡ true = and_from (is_nonzero part.1) (is_meant p.model place totals part.0) counts (subst (λ x. is_meant p.model place totals x ≡ true) (sym to_is) meant) in
        let made : part_arrow p place totals part ≡ Some (sent_to p s t) =
        cond-true (is_nonzero part.1 && is_meant p.model place totals part.0) (Some (arrow_to p (target_at s part.0) false)) None passes ∙ ap (λ x. Some (arrow_to p (target_at s x) false)) to_is
        ∙ ap (λ b. Some (arrow_to p (target_at s t) b)) (sym weak) in
        let inside_read : Contains (parts_of p.model.space place) part = subst (λ c. Contains (parts_of p.model.space (place_at c true e)) part) (sym other) inside in
        let has = has-map (part_arrow p place totals) (parts_of p.model.space place) part inside_read in
        inr (
          v,
          components-low p totals (number_of p.numbering place) (slice_get_within p.numbering.places.items (number_of p.numbering place) place at),
          looked (Some (record { to = v; strict = false })) arrow,
          subst (λ xs. Contains xs (Some (sent_to p s t))) (sym (slots-parts p totals v (number_of p.numbering place) place refl at)) (subst (Contains (map (part_arrow p place totals) (parts_of p.model.space place))) made has),
        )

    by-way : (w : Follows) → way_of p.model s ≡ w → IsNamedAs p.model s w e t → goal_of
    by-way Same way (same, suited) =
        direct Same way (cond-true (suits s true (is_consolidated p.model s last e)) (Some (sent_to p s e)) None suited ∙ ap (λ x. Some (sent_to p s x)) same)
    by-way Component way named = parts way named
    by-way (Always target) way (same, serving) =
        direct (Always target) way (cond-true (serves_any p.model s e) (Some (sent_to p s target)) None serving ∙ ap (λ x. Some (sent_to p s x)) same)
    by-way (Sent to) way (sends, serving) =
        direct (Sent to) way (cond-true (serves_any p.model s e) (option_map (sent_to p s) (sent to e)) None serving ∙ ap (option_map (sent_to p s)) sends)
    by-way (SentOver i to) way (element, passes, sends, given) = over i to way element passes sends given

    pub goes : IsNamedAs p.model s (way_of p.model s) e t → goal_of
    goes named = by-way (way_of p.model s) refl named

-- a source of a group serves where it reads, and its arrow is that of a member
pub record IsAlwaysThere (p : Plan) (s : Source) (e t : ℕ) : Type 0 where
  pub serves : serves_any p.model s e ≡ true
  pub made : member_arrow p s ≡ Some (sent_to p s t)

pub always-goes : (p : Plan) (s : Source) (e t : ℕ) → IsShared (way_of p.model s) → IsNamedAs p.model s (way_of p.model s) e t → IsAlwaysThere p s e t
always-goes p s e t shared named = by (way_of p.model s) refl shared named
  where
    by : (w : Follows) → way_of p.model s ≡ w → IsShared w → IsNamedAs p.model s w e t → IsAlwaysThere p s e t
    by Same way none named = absurd none
    by Component way none named = absurd none
    by (Always target) way some (same, serving) = record { serves = serving; made = ap (member_by p s) way ∙ ap (λ x. Some (sent_to p s x)) same }
    by (Sent to) way none named = absurd none
    by (SentOver i to) way none named = absurd none

-- what a source reads is an element
pub named-low : (p : Plan) (plan : IsPlan p) (s : Source) (is : IsSource p.model s) (e t : ℕ) → e < width p.model.space s.cube → IsNamedAs p.model s (way_of p.model s) e t → t < width p.model.space (cube_read s)
named-low p plan s is e t low named = by (way_of p.model s) (names-within p.model s.cube (precedent s) plan.valid is.reads) named
  where
    by : (w : Follows) → Names s.cube (cube_read s) (width p.model.space (cube_read s)) w → IsNamedAs p.model s w e t → t < width p.model.space (cube_read s)
    by Same other (same, suited) = subst (λ c. t < width p.model.space c) (sym other) (subst (λ x. x < width p.model.space s.cube) same low)
    by Component other (named, admitted, suited) =
        let (part, inside, to_is, counts) = is-part (axes p.model.space s.cube) (last_of p.model.space s.cube) e t named in
        subst (λ c. t < width p.model.space c) (sym other) (subst (λ x. x < width p.model.space s.cube) to_is (part-low p.model (place_at s.cube true e) part plan.valid inside))
    by (Always target) below (same, serving) = subst (λ x. x < width p.model.space (cube_read s)) same below
    by (Sent to) below (sends, serving) = below e t sends
    by (SentOver i to) below (element, passes, sends, given) = below element t sends
