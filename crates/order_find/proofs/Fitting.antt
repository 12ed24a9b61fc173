-- Ranks that fit a plan's graph are ranks that fit the model, and the other way round.
use Rattle.std.proofs.Common.{◌≡◌, refl, sym, ap, ◌∙◌, arith, ℕ, zero, suc, ◌+◌, ◌<◌, ◌≤◌, Bool, false, nat_lt, Option, Some, None, List, [], ◌∷◌, length, map, Contains, inl, inr, if◌then◌else◌}
use Rattle.std.specs.Prelude.{slice_get, slice_index_or, slice_index, unwrap_or}
use Rattle.std.specs.Option.{option_map_or}
use Rattle.std.specs.List.{range_with_len}
use Rattle.std.proofs.lemmas.Bool.{cases_lt, cond-true, cond-false, lt-ltb, le-ltb}
use Rattle.std.proofs.lemmas.List.{get_or_past}
use Rattle.std.proofs.lemmas.List.FromFn.{get_or-map-range_with_len, length-map-range_with_len}
use Rattle.std.proofs.lemmas.Option.{slice_get_within}
use Rattle.lists.proofs.Found.{there}
use Rattle.rule_model.specs.Order.{greatest}
use Rattle.least_ranks.specs.declared.arrow.Arrow.{Arrow}
use Rattle.least_ranks.specs.Graph.{IsArrow, Fits, fall_of}
use Rattle.arrow_laws.specs.Nodes.{NodeRanks, rank_of}
use Rattle.arrow_laws.specs.Arrows.{FitArrows}
use Rattle.order_find.specs.declared.numbering.Place.{Place}
use Rattle.order_find.specs.Numbers.{IsPlace, number_of}
use Rattle.order_find.specs.Slots.{Plan, parts_from, node_count, slots_at, arrows_of}
use Rattle.order_find.specs.PlanOfAll.{IsPlanOfAll, AreRanksOf}
use Rattle.order_find.proofs.Through.{node, made-arrow, IsArrowOf, IsVia, Goes, GoesThrough}
use Rattle.order_find.specs.declared.link.LinkBy.{LinkBy}
use Rattle.read_sources.proofs.Lists.{map-has, has-map, held-has, has-held}
use Rattle.order_find.proofs.Steps.{element-step, behind-back}
use Rattle.order_find.proofs.Every.{IsThrough, every}

-- the arrows of the graph are those in its slots
pub slot-has : (p : Plan) (n slot : ℕ) (arrow : Arrow) → IsArrow (arrows_of p) n slot arrow → (n < node_count p) × Contains (slots_at p n) (Some arrow)
unfolding arrows_of
slot-has p n slot arrow is = (is.node_within, held-has (slots_at p n) slot arrow is.slot_within is.holds)

pub slot-at : (p : Plan) (n slot : ℕ) (arrow : Arrow) → IsArrow (arrows_of p) n slot arrow → (slot < length (slots_at p n)) × (unwrap_or (slice_get (slots_at p n) slot) None ≡ Some arrow)
unfolding arrows_of
slot-at p n slot arrow is = (is.slot_within, is.holds)

pub has-slot : (p : Plan) (n : ℕ) (arrow : Arrow) → n < node_count p → Contains (slots_at p n) (Some arrow) → (slot : ℕ) × IsArrow (arrows_of p) n slot arrow
unfolding arrows_of
has-slot p n arrow few (slot, low, is) = (slot, record { node_within = few; slot_within = low; holds = has-held (slots_at p n) slot arrow low is })

pub nodes-are : (p : Plan) → (arrows_of p).nodes ≡ node_count p
unfolding arrows_of
nodes-are p = refl

-- ranks of the graph fit the model
module _ (p : Plan) (all : IsPlanOfAll p) (numbered : List ℕ) (fits : Fits (arrows_of p) numbered) where
  hop : (n to : ℕ) (strict : Bool) → n < node_count p → Goes p n to strict → slice_index numbered to + (if strict then 1 else 0) ≤ slice_index numbered n
  hop n to strict few has =
      let (slot, is) = has-slot p n (record { to = to; strict = strict }) few has in
      fits.falls n slot (record { to = to; strict = strict }) is

  through : (n to : ℕ) (strict : Bool) → n < node_count p → GoesThrough p n to strict → slice_index numbered to + (if strict then 1 else 0) ≤ slice_index numbered n
  through n to strict few (inl has) = hop n to strict few has
  through n to strict few (inr (v, low, first, next)) = omega (arith, hop n v false few first, hop v to strict low next)

  pub fit-model : (ranks : NodeRanks) → AreRanksOf p numbered ranks → FitArrows p.model ranks
  fit-model ranks are from to strict arrow =
      let t : IsThrough p from to strict = every p all from to strict arrow in
      let n = number_of p.numbering t.source in
      let low : n < node_count p = omega (arith, slice_get_within p.numbering.places.items n t.source (all.plan.numbering.there t.source t.source_within)) in
      let falls = through n (number_of p.numbering t.target) strict low t.goes_there in
      let first : rank_of ranks from ≡ slice_index numbered n = ap (rank_of ranks) (sym t.from_is) ∙ are t.source t.source_within in
      let second : rank_of ranks to ≡ slice_index numbered (number_of p.numbering t.target) = ap (rank_of ranks) (sym t.to_is) ∙ are t.target t.target_within in
      omega (arith, falls, first, second)

-- ranks of the model fit the graph
greatest-has : (xs : List ℕ) (x k : ℕ) → k < length xs → slice_index_or xs k x ≡ x → x ≤ greatest xs
greatest-has [] x k low is = absurd (omega arith)
greatest-has (y ∷ xs) x zero low is = let same : y ≡ x = is in omega arith
greatest-has (y ∷ xs) x (suc k) low is = omega (arith, greatest-has xs x k (omega arith) is)

greatest-below : (xs : List ℕ) (most : ℕ) → ((x : ℕ) → Contains xs x → x ≤ most) → greatest xs ≤ most
greatest-below [] most each = omega arith
greatest-below (x ∷ xs) most each =
    let first = each x (0, omega arith, refl) in
    let rest = greatest-below xs most (λ y (k, low, is). each y (suc k, omega (arith, low), is)) in
    omega (arith, first, rest)

module _ (p : Plan) (all : IsPlanOfAll p) (ranks : NodeRanks) (fits : FitArrows p.model ranks) where
  -- the rank of the node of an element
  abbrev own : ℕ → ℕ
  own n = option_map_or (λ place. rank_of ranks (node place)) (slice_get p.numbering.places.items n) 0

  abbrev slot_rank : Option Arrow → ℕ
  slot_rank None = 0
  slot_rank (Some arrow) = own arrow.to + fall_of arrow

  -- another node is as high as its arrows want it
  abbrev top : ℕ → ℕ
  top n = greatest (map slot_rank (slots_at p n))

  abbrev rank : ℕ → ℕ
  rank n = if nat_lt n (parts_from p) then own n else top n

  abbrev numbered : List ℕ
  numbered = map rank (range_with_len 0 (node_count p))

  rank-low : (n : ℕ) → n < parts_from p → rank n ≡ own n
  rank-low n low = cond-true (nat_lt n (parts_from p)) (own n) (top n) (lt-ltb n (parts_from p) low)

  rank-high : (n : ℕ) → parts_from p ≤ n → rank n ≡ top n
  rank-high n high = cond-false (nat_lt n (parts_from p)) (own n) (top n) (le-ltb n (parts_from p) high)

  numbered-at : (n : ℕ) → n < node_count p → slice_index numbered n ≡ rank n
  numbered-at n low = get_or-map-range_with_len rank 0 (node_count p) n n 0 low (omega arith)

  numbered-most : (n : ℕ) → slice_index numbered n ≤ rank n
  numbered-most n = elim (cases_lt n (node_count p)) [
    | inl low ↦ omega (arith, numbered-at n low)
    | inr past ↦ omega (arith, get_or_past numbered n 0 (omega (arith, length-map-range_with_len rank 0 (node_count p))))
  ]

  own-at : (n : ℕ) (place : Place) → slice_get p.numbering.places.items n ≡ Some place → own n ≡ rank_of ranks (node place)
  own-at n place is = ap (λ (o : Option Place). option_map_or (λ place. rank_of ranks (node place)) o 0) is

  -- the node of an element has its rank
  place-own : (place : Place) → IsPlace p.model place → own (number_of p.numbering place) ≡ rank_of ranks (node place)
  place-own place is = own-at (number_of p.numbering place) place (all.plan.numbering.there place is)

  place-low : (place : Place) → IsPlace p.model place → number_of p.numbering place < parts_from p
  place-low place is = slice_get_within p.numbering.places.items (number_of p.numbering place) place (all.plan.numbering.there place is)

  place-rank : (place : Place) (n : ℕ) → IsPlace p.model place → n ≡ number_of p.numbering place → rank n ≡ rank_of ranks (node place)
  place-rank place n is same = ap rank same ∙ rank-low (number_of p.numbering place) (place-low place is) ∙ place-own place is

  -- an arrow of the model
  arrow-falls : (place : Place) (by : LinkBy) (arrow : Arrow) → IsArrowOf p place by arrow → rank arrow.to + fall_of arrow ≤ rank_of ranks (node place)
  arrow-falls place by arrow a =
      let falls = fits (node place) (node a.target) arrow.strict (made-arrow p.model (node place) by (node a.target) arrow.strict a.made) in
      omega (arith, falls, place-rank a.target arrow.to a.within a.to)

  arrow-own : (place : Place) (by : LinkBy) (arrow : Arrow) → IsArrowOf p place by arrow → own arrow.to + fall_of arrow ≤ rank_of ranks (node place)
  arrow-own place by arrow a =
      let falls = fits (node place) (node a.target) arrow.strict (made-arrow p.model (node place) by (node a.target) arrow.strict a.made) in
      let same : own arrow.to ≡ rank_of ranks (node a.target) = ap own a.to ∙ place-own a.target a.within in
      omega (arith, falls, same)

  -- an arrow through another node
  via-falls : (place : Place) (by : Option LinkBy) (arrow : Arrow) → IsVia p place by arrow → rank arrow.to + fall_of arrow ≤ rank_of ranks (node place)
  via-falls place by arrow via =
      let weak : fall_of arrow ≡ 0 = ap (λ b. if b then 1 else 0) via.weak in
      let low = greatest-below (map slot_rank (slots_at p arrow.to)) (rank_of ranks (node place)) each in
      omega (arith, rank-high arrow.to via.behind, low, weak)
    where
      slot : (o : Option Arrow) → Contains (slots_at p arrow.to) o → slot_rank o ≤ rank_of ranks (node place)
      slot None has = omega arith
      slot (Some next) (k, low, is) = arrow-own place _ next (via.each k next low (has-held (slots_at p arrow.to) k next low is))

      each : (x : ℕ) → Contains (map slot_rank (slots_at p arrow.to)) x → x ≤ rank_of ranks (node place)
      each x has =
          let (o, inside, is) = map-has slot_rank (slots_at p arrow.to) x has in
          omega (arith, slot o inside, is)

  falls-low : (n : ℕ) (arrow : Arrow) → n < parts_from p → Contains (slots_at p n) (Some arrow) → rank arrow.to + fall_of arrow ≤ rank n
  falls-low n arrow low has =
      let (place, at) = there p.numbering.places.items n low in
      let here : rank n ≡ rank_of ranks (node place) = rank-low n low ∙ own-at n place at in
      elim (element-step p all n place at arrow has) [
        | inl (by, made) ↦ omega (arith, arrow-falls place by arrow made, here)
        | inr (by, via) ↦ omega (arith, via-falls place by arrow via, here)
      ]

  falls-high : (n : ℕ) (arrow : Arrow) → parts_from p ≤ n → Contains (slots_at p n) (Some arrow) → rank arrow.to + fall_of arrow ≤ rank n
  falls-high n arrow high has =
      let (target, within, to_is) = behind-back p all n arrow high has in
      let there : rank arrow.to ≡ rank_of ranks (node target) = place-rank target arrow.to within to_is in
      let same : own arrow.to ≡ rank_of ranks (node target) = ap own to_is ∙ place-own target within in
      let (k, low, is) = has-map slot_rank (slots_at p n) (Some arrow) has in
      let most = greatest-has (map slot_rank (slots_at p n)) (own arrow.to + fall_of arrow) k low is in
      omega (arith, rank-high n high, there, same, most)

  falls : (n slot : ℕ) (arrow : Arrow) → IsArrow (arrows_of p) n slot arrow → slice_index numbered arrow.to + fall_of arrow ≤ slice_index numbered n
  falls n slot arrow is =
      let (low, has) = slot-has p n slot arrow is in
      let rest = elim (cases_lt n (parts_from p)) as (λ _. rank arrow.to + fall_of arrow ≤ rank n) [ inl below ↦ falls-low n arrow below has | inr behind ↦ falls-high n arrow behind has ] in
      omega (arith, rest, numbered-most arrow.to, numbered-at n low)

  pub fit-graph : Fits (arrows_of p) numbered
  fit-graph = record { whole = length-map-range_with_len rank 0 (node_count p) ∙ sym (nodes-are p); falls = falls }

  pub ranks-numbered : AreRanksOf p numbered ranks
  ranks-numbered place is =
      let n = number_of p.numbering place in
      let low = place-low place is in
      sym (place-own place is) ∙ sym (rank-low n low) ∙ sym (numbered-at n (omega (arith, low)))

pub extended : (p : Plan) (ranks : NodeRanks) → IsPlanOfAll p → FitArrows p.model ranks → (numbered : List ℕ) × Fits (arrows_of p) numbered × AreRanksOf p numbered ranks
extended p ranks all fits = (numbered p all ranks fits, fit-graph p all ranks fits, ranks-numbered p all ranks fits)
