-- Each arrow of a plan is one of the model, or leads to a node whose arrows go on to make ones of the model.
use Rattle.std.proofs.Common.{◌≡◌, refl, sym, ap, ◌∙◌, arith, subst, ℕ, ◌+◌, ◌<◌, ◌≤◌, ◌⊎◌, Bool, true, false, not, ◌&&◌, ◌||◌, Option, Some, None, List, [], map, Contains, ℤ, pos, inl, inr, if◌then◌else◌, option_map}
use Rattle.std.specs.Prelude.{IsTrue, slice_get, slice_index_or}
use Rattle.std.specs.List.{range_with_len}
use Rattle.std.proofs.lemmas.Bool.{and_parts}
use Rattle.std.proofs.lemmas.Option.{cond_some, same_Some}
use Rattle.dim_weights.specs.Table.{is_nonzero}
use Rattle.cube_space.specs.Layout.{axes, sizes}
use Rattle.lists.proofs.Found.{mapped}
use Rattle.order_laws.specs.Scales.{is_total, is_leaf_element, set_count, set_element}
use Rattle.cover_laws.specs.Looking.{sent}
use Rattle.least_ranks.specs.declared.arrow.Arrow.{Arrow}
use Rattle.arrow_laws.specs.Nodes.{last_of, kind_in}
use Rattle.arrow_laws.specs.ByDimension.{is_level, is_lagged, is_weak, admits, IsJoinedByDimension}
use Rattle.order_find.specs.declared.numbering.Place.{Place}
use Rattle.order_find.specs.declared.slots.Gives.{Gives}
use Rattle.read_sources.specs.declared.source.Source.{Source}
use Rattle.order_find.specs.Numbers.{IsPlace, width, number_of, place_at}
use Rattle.read_sources.specs.Ways.{Follows, Same, Component, Always, Sent, SentOver, IsSource, precedent, way_of, reads_from, is_consolidated, gives_total, suits, serves_any, cube_read, IsNamedAs, Names}
use Rattle.order_find.specs.Slots.{Plan, IsPlan, parts_from, components_from, given_from, arrow_to, sent_to, target_at, parts_of, is_meant, part_arrow, arrow_by, is_given, reached_from, reached_by, reached_slots, member_by, slots_at}
use Rattle.read_sources.specs.Sources.{IsRead, read_for}
use Rattle.read_sources.specs.Parts.{Joins}
use Rattle.order_find.proofs.Decided.{IsReadByDimension, dimension-read}
use Rattle.order_find.proofs.Through.{node, IsArrowOf, IsVia}
use Rattle.order_find.proofs.LookedAt.{own-place}
use Rattle.read_sources.proofs.Lists.{map-has, held-has}
use Rattle.read_sources.proofs.Named.{as-joins}
use Rattle.read_sources.proofs.Within.{names-within, reads-cube}
use Rattle.order_find.proofs.Vertices.{slots-parts, slots-given}
use Rattle.order_find.proofs.Suiting.{part-is, given-where, not-not, suits-part, target-meant, target-nodes}
use Rattle.order_find.specs.declared.link.LinkBy.{LinkBy}
use Rattle.order_find.specs.Circles.{IsBy}
use Rattle.ref_order.specs.Counted.{counted_of}
use Rattle.rule_model.specs.declared.rules.Statement.{Statement}
use Rattle.order_find.specs.Links.{reference_of}

-- an arrow of what a source reads
pub record IsReachedFrom (p : Plan) (s : Source) (gives : Gives) (w : Follows) (arrow : Arrow) : Type 0 where
  pub i : ℕ
  pub to : List (Option ℕ)
  pub way : w ≡ SentOver i to
  pub element : ℕ
  pub target : ℕ
  pub passes : reads_from p.model s i element ≡ true
  pub given : is_given p.model s gives i element ≡ true
  pub sends : sent to element ≡ Some target
  pub is : sent_to p s target ≡ arrow

pub reached-arrow : (p : Plan) (s : Source) (gives : Gives) (w : Follows) (arrow : Arrow) → Contains (reached_by p s gives w) (Some arrow) → IsReachedFrom p s gives w arrow
reached-arrow p s gives Same arrow (k, low, is) = absurd (omega (arith, low))
reached-arrow p s gives Component arrow (k, low, is) = absurd (omega (arith, low))
reached-arrow p s gives (Always target) arrow (k, low, is) = absurd (omega (arith, low))
reached-arrow p s gives (Sent to) arrow (k, low, is) = absurd (omega (arith, low))
reached-arrow p s gives (SentOver i to) arrow has =
    let set = slice_index_or s.area.now.sets i None in
    let count = set_count (slice_index_or (sizes p.model.space s.cube) i 0) set in
    let (k, inside, is) = map-has (λ k. reached_from p s gives i to (set_element set k)) (range_with_len 0 count) (Some arrow) has in
    let element = set_element set k in
    let parts = given-where (reads_from p.model s i element && is_given p.model s gives i element) (option_map (sent_to p s) (sent to element)) arrow is in
    let both = and_parts (reads_from p.model s i element) (is_given p.model s gives i element) parts.0 in
    let (target, sends, made) = mapped (sent_to p s) (sent to element) arrow parts.1 in
    record {
      i = i;
      to = to;
      way = refl;
      element = element;
      target = target;
      passes = both.0;
      given = both.1;
      sends = sends;
      is = made;
    }

-- where nothing is left out
from-slots : {A : Type 0} (b : Bool) (xs : List A) (x : A) → Contains (if b then [] else xs) x → Contains xs x
from-slots true xs x (k, low, is) = absurd (omega (arith, low))
from-slots false xs x has = has

pub slots-arrow : (p : Plan) (s : Source) (gives : Gives) (arrow : Arrow) → Contains (reached_slots p s gives) (Some arrow) → IsReachedFrom p s gives (way_of p.model s) arrow
slots-arrow p s gives arrow has = reached-arrow p s gives (way_of p.model s) arrow (from-slots (gives.its && not s.asks) (reached_by p s gives (way_of p.model s)) (Some arrow) has)

-- an arrow to a component
pub record IsPartArrow (p : Plan) (place : Place) (totals : Bool) (parts : List (ℕ × ℤ)) (arrow : Arrow) : Type 0 where
  pub part : ℕ × ℤ
  pub inside : Contains parts part
  pub counts : is_nonzero part.1 ≡ true
  pub meant : is_meant p.model place totals part.0 ≡ true
  pub is : arrow_to p (place_at place.cube place.kind part.0) false ≡ arrow

pub parts-arrow : (p : Plan) (place : Place) (totals : Bool) (parts : List (ℕ × ℤ)) (arrow : Arrow) → Contains (map (part_arrow p place totals) parts) (Some arrow) → IsPartArrow p place totals parts arrow
parts-arrow p place totals parts arrow has =
    let (part, inside, is) = map-has (part_arrow p place totals) parts (Some arrow) has in
    let both = cond_some (is_nonzero part.1 && is_meant p.model place totals part.0) (arrow_to p (place_at place.cube place.kind part.0) false) arrow is in
    let tests = and_parts (is_nonzero part.1) (is_meant p.model place totals part.0) both.0 in
    record { part = part; inside = inside; counts = tests.0; meant = tests.1; is = both.1 }

-- the nodes for components and for sources stand behind those of the model
pub components-behind : (p : Plan) (totals : Bool) → parts_from p ≤ components_from p totals
components-behind p true = omega arith
components-behind p false = omega arith

pub given-behind : (p : Plan) (own its : Bool) → parts_from p ≤ given_from p own its
given-behind p true true = omega arith
given-behind p true false = omega arith
given-behind p false true = omega arith
given-behind p false false = omega arith

-- what a source reads has a node
pub target-place : (p : Plan) (plan : IsPlan p) (s : Source) (is : IsSource p.model s) (read : IsRead p.model s) (t : ℕ) → t < width p.model.space (cube_read s) → IsPlace p.model (target_at s t)
target-place p plan s is read t below = record { cube = reads-cube p.model s.cube (precedent s) is.cube is.reads; element = below; kind = target-nodes p.model s read.has_kind }

module _ (p : Plan) (plan : IsPlan p) (s : Source) (is : IsSource p.model s) (read : IsRead p.model s) (e : ℕ) (own : reads_from p.model s (last_of p.model.space s.cube) e ≡ true)
    (low : e < width p.model.space s.cube) where
  abbrev last : ℕ
  last = last_of p.model.space s.cube

  abbrev place : Place
  place = own-place p.model s e

  abbrev IsNamed : Follows → ℕ → Type 0
  IsNamed w t = IsNamedAs p.model s w e t

  joined : (t : ℕ) → IsNamed (way_of p.model s) t → Joins p.model s (node place) (node (target_at s t))
  joined t named = as-joins p.model s read (node place) (node (target_at s t)) plan.valid is.reads (record {
    source = refl;
    source_kind = refl;
    target = refl;
    target_kind = target-nodes p.model s read.has_kind;
    meant = target-meant p.model s read.has_kind;
    own = own;
    named = named;
  })

  abbrev by : LinkBy
  by = reference_of s

  read-by : (t : ℕ) → IsNamed (way_of p.model s) t → IsReadByDimension p.model (node place) (node (target_at s t)) (not s.weak)
  read-by t named = record {
    cube = s.cube;
    within = is.cube;
    statement = read.statement;
    stands = read.stands;
    kind = s.kind;
    read = precedent s;
    reads = read.reads;
    level = subst (λ a. IsTrue (is_level p.model s.cube a s.kind (precedent s))) read.area read.level;
    not_lagged = subst (λ a. is_lagged p.model s.cube a s.kind (precedent s) ≡ false) read.area read.not_lagged;
    weak = ap (λ a. is_weak p.model s.cube a s.kind (precedent s)) (sym read.area) ∙ sym read.weak ∙ sym (not-not s.weak);
    joined = subst (λ a. IsJoinedByDimension p.model s.cube a s.kind (precedent s) (node place) (node (target_at s t))) read.area (joined t named).joined;
  }

  made : (t : ℕ) → IsNamed (way_of p.model s) t → IsBy p.model (node place) by (node (target_at s t)) (not s.weak)
  unfolding read-by
  made t named =
      let a = dimension-read p.model plan.valid plan.ruled (node place) (node (target_at s t)) (not s.weak) (read-by t named) in
      record {
        arrow = a.arrow;
        own = a.own_cube;
        place = read.place;
        number = read.number;
        here = read.here ∙ ap Some (sym a.own_statement);
        at = read.at;
        counted = read.counted;
        it = read.it;
        there = ap (λ (st : Statement). slice_get (counted_of st) read.at) a.own_statement ∙ read.there;
        reads = ap (λ kind. read_for kind read.it) a.own_kind ∙ read.own ∙ ap Some (sym a.own_read);
      }

  arrow-of : (t : ℕ) (arrow : Arrow) → IsNamed (way_of p.model s) t → t < width p.model.space (cube_read s) → sent_to p s t ≡ arrow → IsArrowOf p place by arrow
  arrow-of t arrow named below at = record {
    target = target_at s t;
    within = target-place p plan s is read t below;
    to = sym (ap (λ (a : Arrow). a.to) at);
    made = subst (λ b. IsBy p.model (node place) by (node (target_at s t)) b) (ap (λ (a : Arrow). a.strict) at) (made t named);
  }

  abbrev Names_by : Follows → Type 0
  Names_by w = Names s.cube (cube_read s) (width p.model.space (cube_read s)) w

  names : Names_by (way_of p.model s)
  names = names-within p.model s.cube (precedent s) plan.valid is.reads

  named-by : (w : Follows) → way_of p.model s ≡ w → Names_by w
  named-by w way = subst Names_by way names

  -- what is read over another dimension
  over : (arrow : Arrow) → Contains (reached_slots p s (record { own = is_consolidated p.model s last e; its = gives_total p.model s last e })) (Some arrow) → IsArrowOf p place by arrow
  over arrow has =
      let r = slots-arrow p s (record { own = is_consolidated p.model s last e; its = gives_total p.model s last e }) arrow has in
      let as_over : IsNamed (SentOver r.i r.to) r.target = (r.element, r.passes, r.sends, r.given) in
      let below : Names_by (SentOver r.i r.to) = named-by (SentOver r.i r.to) r.way in
      arrow-of r.target arrow (subst (λ w. IsNamed w r.target) (sym r.way) as_over) (below r.element r.target r.sends) r.is

  -- what it always reads, as a source of a group
  pub member-step : (w : Follows) (arrow : Arrow) → way_of p.model s ≡ w → serves_any p.model s e ≡ true → member_by p s w ≡ Some arrow → IsArrowOf p place by arrow
  member-step Same arrow way serving h = absurd (cc)
  member-step Component arrow way serving h = absurd (cc)
  member-step (Always t) arrow way serving h =
      let below : t < width p.model.space (cube_read s) = named-by (Always t) way in
      arrow-of t arrow (subst (λ w. IsNamed w t) (sym way) (refl, serving)) below (same_Some _ _ h)
  member-step (Sent to) arrow way serving h = absurd (cc)
  member-step (SentOver i to) arrow way serving h = absurd (cc)

  module _ (k : ℕ) (here : slice_get p.sources k ≡ Some s) where
    abbrev Step : Arrow → Type 0
    Step arrow = IsArrowOf p place by arrow ⊎ IsVia p place (Some by) arrow

    abbrev totals : Bool
    totals = not (suits s true false)

    -- a component that is meant is named
    part-named : cube_read s ≡ s.cube → (part : ℕ) → IsTrue (Rattle.arrow_laws.specs.ByDimension.is_part (axes p.model.space s.cube) last e part) → is_meant p.model (target_at s e) totals part ≡ true → IsNamed Component part
    part-named other part is_part_of meant =
        let dims = axes p.model.space (cube_read s) in
        let edge = last_of p.model.space (cube_read s) in
        let (admitted, suited) = and_parts (admits (kind_in p.model (cube_read s) (target_at s e).kind) (is_leaf_element dims edge part)) (not totals || is_total dims edge part) meant in
        let as_its : admits s.its (is_leaf_element dims edge part) ≡ true = subst (λ its. admits its (is_leaf_element dims edge part) ≡ true) (target-meant p.model s read.has_kind) admitted in (
          is_part_of,
          subst (λ c. admits s.its (is_leaf_element (axes p.model.space c) (last_of p.model.space c) part) ≡ true) other as_its,
          suits-part s (is_total (axes p.model.space s.cube) last part) (suits s true false) refl
              (subst (λ c. not totals || is_total (axes p.model.space c) (last_of p.model.space c) part ≡ true) other suited),
        )

    via-parts : (arrow : Arrow) → way_of p.model s ≡ Component → record { to = components_from p totals + number_of p.numbering (target_at s e); strict = false } ≡ arrow → IsVia p place (Some by) arrow
    via-parts arrow way same = record {
      weak = sym (ap (λ (a : Arrow). a.strict) same);
      behind = omega (arith, ap (λ (a : Arrow). a.to) same, components-behind p totals);
      each = λ slot next under held.
          let has = held-has (slots_at p arrow.to) slot next under held in
          let slots = slots-parts p totals arrow.to (number_of p.numbering (target_at s e)) (target_at s e) (sym (ap (λ (a : Arrow). a.to) same)) (plan.numbering.there (target_at s e) within) in
          let r = parts-arrow p (target_at s e) totals (parts_of p.model.space (target_at s e)) next (subst (λ xs. Contains xs (Some next)) slots has) in
          let low_part : r.part.0 < width p.model.space (cube_read s) = part-low r.part r.inside in
          let inside_own : Contains (parts_of p.model.space (place_at s.cube true e)) r.part = subst (λ c. Contains (parts_of p.model.space (place_at c true e)) r.part) other r.inside in
          let is_part_of = part-is (axes p.model.space s.cube) last e r.part inside_own r.counts in
          let weak : false ≡ not s.weak = sym (ap not (read.parts way)) in
          arrow-of r.part.0 next (subst (λ w. IsNamed w r.part.0) (sym way) (part-named other r.part.0 is_part_of r.meant)) low_part
          (ap (arrow_to p (target_at s r.part.0)) (sym weak) ∙ r.is);
    }
      where
        other : cube_read s ≡ s.cube
        other = named-by Component way

        within : IsPlace p.model (target_at s e)
        within = target-place p plan s is read e (subst (λ c. e < width p.model.space c) (sym other) low)

        part-low : (part : ℕ × ℤ) → Contains (parts_of p.model.space (target_at s e)) part → part.0 < width p.model.space (cube_read s)
        part-low part (j, less, same) =
            let first = Rattle.order_laws.proofs.ChildFacts.part-below p.model.space (cube_read s) (last_of p.model.space (cube_read s)) e j plan.valid less in
            subst (λ (x : ℕ × ℤ). x.0 < width p.model.space (cube_read s)) (Rattle.std.proofs.lemmas.List.get_or_default (parts_of p.model.space (target_at s e)) j (0, pos 0) part less ∙ same) first

    via-over : (i : ℕ) (to : List (Option ℕ)) (arrow : Arrow) → way_of p.model s ≡ SentOver i to
        → record { to = given_from p (is_consolidated p.model s last e) (gives_total p.model s last e) + k; strict = false } ≡ arrow → IsVia p place (Some by) arrow
    via-over i to arrow way same = record {
      weak = sym (ap (λ (a : Arrow). a.strict) same);
      behind = omega (arith, ap (λ (a : Arrow). a.to) same, given-behind p (is_consolidated p.model s last e) (gives_total p.model s last e));
      each = λ slot next under held.
          let has = held-has (slots_at p arrow.to) slot next under held in
          let slots = slots-given p (is_consolidated p.model s last e) (gives_total p.model s last e) arrow.to k s (sym (ap (λ (a : Arrow). a.to) same)) here in
          over next (subst (λ xs. Contains xs (Some next)) slots has);
    }

    by-way : (w : Follows) (arrow : Arrow) → way_of p.model s ≡ w → arrow_by p place k s w ≡ Some arrow → Step arrow
    by-way Same arrow way h =
        let (suited, same) = cond_some (suits s true (is_consolidated p.model s last e)) (sent_to p s e) arrow h in
        let other : cube_read s ≡ s.cube = named-by Same way in
        inl (arrow-of e arrow (subst (λ w. IsNamed w e) (sym way) (refl, suited)) (subst (λ c. e < width p.model.space c) (sym other) low) same)
    by-way Component arrow way h = inr (via-parts arrow way (same_Some _ _ h))
    by-way (Always t) arrow way h =
        let (serving, same) = cond_some (serves_any p.model s e) (sent_to p s t) arrow h in
        let below : t < width p.model.space (cube_read s) = named-by (Always t) way in
        inl (arrow-of t arrow (subst (λ w. IsNamed w t) (sym way) (refl, serving)) below same)
    by-way (Sent to) arrow way h =
        let (serving, found) = given-where (serves_any p.model s e) (option_map (sent_to p s) (sent to e)) arrow h in
        let (t, sends, same) = mapped (sent_to p s) (sent to e) arrow found in
        let below : Names_by (Sent to) = named-by (Sent to) way in
        inl (arrow-of t arrow (subst (λ w. IsNamed w t) (sym way) (sends, serving)) (below e t sends) same)
    by-way (SentOver i to) arrow way h = inr (via-over i to arrow way (same_Some _ _ h))

    pub source-step : (arrow : Arrow) → arrow_by p place k s (way_of p.model s) ≡ Some arrow → Step arrow
    source-step arrow h = by-way (way_of p.model s) arrow refl h
