-- The links of a closed walk over a plan's graph are a circle of arrows of its model.
use Rattle.std.proofs.Common.{◌≡◌, refl, sym, ap, ◌∙◌, arith, subst, ℕ, zero, suc, ◌<◌, ◌≤◌, ◌⊎◌, Bool, true, false, ◌||◌, Option, Some, None, List, [], ◌∷◌, ◌++◌, length, inl, inr}
use Rattle.std.specs.Prelude.{slice_get, slice_index_or, unwrap_or, is_some, not, Any, if◌then◌else◌}
use Rattle.std.specs.Option.{option_map_or}
use Rattle.std.proofs.lemmas.Bool.{cases_lt, or_left, or_right}
use Rattle.std.proofs.lemmas.Option.{slice_get_within, slice_get_past, same_Some}
use Rattle.lists.proofs.Found.{there}
use Rattle.rule_model.specs.BoundModel.{BoundModel}
use Rattle.least_ranks.specs.declared.arrow.Arrow.{Arrow}
use Rattle.least_ranks.specs.declared.arrow.Step.{Step}
use Rattle.least_ranks.specs.Graph.{Arrows, IsArrow, IsStrictStep, IsClosedWalk, IsWalk as IsTrail}
use Rattle.least_ranks.proofs.WayFacts.{IsWalk-push}
use Rattle.order_find.specs.declared.link.Link.{Link}
use Rattle.order_find.specs.declared.link.LinkBy.{LinkBy}
use Rattle.order_find.specs.declared.numbering.Place.{Place}
use Rattle.order_find.specs.Slots.{Plan, parts_from, slots_at, arrows_of}
use Rattle.order_find.specs.PlanOfAll.{IsPlanOfAll}
use Rattle.order_find.specs.Circles.{IsWalk, IsCircle}
use Rattle.order_find.specs.Links.{made_by, made_on, link_of, links_at, links_of, begun_of}
use Rattle.order_find.proofs.Through.{node, link_from, IsArrowOf, IsVia, Made}
use Rattle.order_find.proofs.Steps.{slot-step, LeadsBack, behind-back}
use Rattle.order_find.proofs.Fitting.{slot-has, slot-at}

-- one of the steps is along a strict arrow
abbrev HasStrict : Arrows → List Step → Type 0
HasStrict graph [] = ⊥
HasStrict graph (step ∷ steps) = IsStrictStep graph step ⊎ HasStrict graph steps

strict-at : (graph : Arrows) (steps : List Step) (k : ℕ) (step : Step) → k < length steps → slice_index_or steps k step ≡ step → IsStrictStep graph step → HasStrict graph steps
strict-at graph [] k step low is strict = absurd (omega (arith, low))
strict-at graph (first ∷ steps) zero step low is strict = inl (subst (IsStrictStep graph) (sym is) strict)
strict-at graph (first ∷ steps) (suc k) step low is strict = inr (strict-at graph steps k step (omega (arith, low)) is strict)

strict-any : (graph : Arrows) (steps : List Step) → Any (IsStrictStep graph) steps → HasStrict graph steps
strict-any graph steps (k, step, low, is, strict) = strict-at graph steps k step low is strict

strict-last : (graph : Arrows) (step : Step) (steps : List Step) → HasStrict graph (step ∷ steps) → HasStrict graph (steps ++ step ∷ [])
strict-last graph step [] strict = strict
strict-last graph step (first ∷ steps) (inl own) = inr (strict-last graph step steps (inl own))
strict-last graph step (first ∷ steps) (inr (inl here)) = inl here
strict-last graph step (first ∷ steps) (inr (inr later)) = inr (strict-last graph step steps (inr later))

-- the arrow of a strict step is strict
strict-here : (graph : Arrows) (step : Step) (arrow : Arrow) → IsArrow graph step.node step.slot arrow → IsStrictStep graph step → arrow.strict ≡ true
strict-here graph step arrow is strict =
    let same : arrow ≡ strict.arrow = same_Some _ _ (sym is.holds ∙ strict.there.holds) in
    ap (λ (a : Arrow). a.strict) same ∙ strict.strict

-- links lead from the node of a place to that of another, by a strict arrow where there is one on the way
pub record Leads (m : BoundModel) (links : List Link) (from to : Place) (Strict : Type 0) : Type 0 where
  pub strict : Bool
  pub walk : IsWalk m links strict (node from) (node to)
  pub has : Strict → strict ≡ true

where-strict : (m : BoundModel) (links : List Link) (from to : Place) (Strict Other : Type 0) → (Other → Strict) → Leads m links from to Strict → Leads m links from to Other
where-strict m links from to Strict Other by leads = record { strict = leads.strict; walk = leads.walk; has = λ other. leads.has (by other) }

module _ (p : Plan) (all : IsPlanOfAll p) where
  abbrev graph : Arrows
  graph = arrows_of p

  abbrev FromPlace : List Step → ℕ → Place → Type 0
  FromPlace steps t to = (n : ℕ) (from : Place) → slice_get p.numbering.places.items n ≡ Some from → IsTrail graph steps n t
      → Leads p.model (links_of p steps) from to (HasStrict graph steps)

  -- from a node behind those of elements, to which a step from the node of an element leads
  abbrev FromBehind : List Step → ℕ → Place → Type 0
  FromBehind steps t to = (n : ℕ) (from : Place) (by : Option LinkBy) → parts_from p ≤ n
      → ((slot : ℕ) (next : Arrow) → slot < length (slots_at p n) → unwrap_or (slice_get (slots_at p n) slot) None ≡ Some next
      → IsArrowOf p from (made_on p by (Some (record { node = n; slot = slot }))) next) → IsTrail graph steps n t
      → Leads p.model (link_from from (made_on p by (slice_get steps 0)) ∷ links_of p steps) from to (HasStrict graph steps)

  there-at : (place : Place) (by : LinkBy) (arrow : Arrow) (a : IsArrowOf p place by arrow) → slice_get p.numbering.places.items arrow.to ≡ Some a.target
  there-at place by arrow a = ap (slice_get p.numbering.places.items) a.to ∙ all.plan.numbering.there a.target a.within

  -- a link that this arrow makes, and the links behind it
  join : (by : LinkBy) (arrow : Arrow) (from to : Place) (links : List Link) (Strict : Type 0) (a : IsArrowOf p from by arrow) → Leads p.model links a.target to Strict
      → Leads p.model (link_from from by ∷ links) from to ((arrow.strict ≡ true) ⊎ Strict)
  join by arrow from to links Strict a rest = record {
    strict = arrow.strict || rest.strict;
    walk = ((refl, refl), (node a.target, arrow.strict, rest.strict, a.made, rest.walk, refl));
    has = has;
  }
    where
      has : (arrow.strict ≡ true) ⊎ Strict → (arrow.strict || rest.strict) ≡ true
      has (inl here) = or_left arrow.strict rest.strict here
      has (inr later) = or_right arrow.strict rest.strict (rest.has later)

  none-behind : (n : ℕ) → parts_from p ≤ n → slice_get p.numbering.places.items n ≡ None
  none-behind n behind = slice_get_past p.numbering.places.items n behind

  links-none : (step : Step) (next : Option Step) → parts_from p ≤ step.node → links_at p step next ≡ []
  links-none step next behind = ap (λ (o : Option Place). option_map_or (λ place. link_of p step next place ∷ []) o []) (none-behind step.node behind)

  links-here : (step : Step) (next : Option Step) (place : Place) → slice_get p.numbering.places.items step.node ≡ Some place → links_at p step next ≡ link_of p step next place ∷ []
  links-here step next place at = ap (λ (o : Option Place). option_map_or (λ place. link_of p step next place ∷ []) o []) at

  from-place : (step : Step) (steps : List Step) (t : ℕ) (to : Place) → FromPlace steps t to → FromBehind steps t to → FromPlace (step ∷ steps) t to
  from-place step steps t to on through n from here walk =
      let at : slice_get p.numbering.places.items step.node ≡ Some from = ap (slice_get p.numbering.places.items) walk.0 ∙ here in
      let arrow : Arrow = walk.1.0 in
      let is = walk.1.1 in
      let held = slot-at p step.node step.slot arrow is in
      let first : links_of p (step ∷ steps) ≡ link_of p step (slice_get steps 0) from ∷ links_of p steps = ap (λ ls. ls ++ links_of p steps) (links-here step (slice_get steps 0) from at) in
      subst (λ ls. Leads p.model ls from to (HasStrict graph (step ∷ steps))) (sym first)
      (by-step arrow is walk.1.2 (made_by p step.node from step.slot) (slot-step p all step.node from at step.slot arrow held.0 held.1))
    where
      direct : (by : LinkBy) (arrow : Arrow) → IsArrow graph step.node step.slot arrow → IsTrail graph steps arrow.to t → IsArrowOf p from by arrow
          → Leads p.model (link_from from by ∷ links_of p steps) from to (HasStrict graph (step ∷ steps))
      direct by arrow is rest a =
          where-strict p.model (link_from from by ∷ links_of p steps) from to ((arrow.strict ≡ true) ⊎ HasStrict graph steps) (HasStrict graph (step ∷ steps)) which
          (join by arrow from to (links_of p steps) (HasStrict graph steps) a (on arrow.to a.target (there-at from by arrow a) rest))
        where
          which : HasStrict graph (step ∷ steps) → (arrow.strict ≡ true) ⊎ HasStrict graph steps
          which (inl own) = inl (strict-here graph step arrow is own)
          which (inr later) = inr later

      over : (by : Option LinkBy) (arrow : Arrow) → IsArrow graph step.node step.slot arrow → IsTrail graph steps arrow.to t → IsVia p from by arrow
          → Leads p.model (link_from from (made_on p by (slice_get steps 0)) ∷ links_of p steps) from to (HasStrict graph (step ∷ steps))
      over by arrow is rest via =
          where-strict p.model (link_from from (made_on p by (slice_get steps 0)) ∷ links_of p steps) from to (HasStrict graph steps) (HasStrict graph (step ∷ steps)) which
          (through arrow.to from by via.behind via.each rest)
        where
          which : HasStrict graph (step ∷ steps) → HasStrict graph steps
          which (inl own) = let on_it = strict-here graph step arrow is own in let off = via.weak in absurd (cc)
          which (inr later) = later

      by-step : (arrow : Arrow) → IsArrow graph step.node step.slot arrow → IsTrail graph steps arrow.to t → (by : Option LinkBy) → Made p from by arrow
          → Leads p.model (link_from from (made_on p by (slice_get steps 0)) ∷ links_of p steps) from to (HasStrict graph (step ∷ steps))
      by-step arrow is rest None via = over None arrow is rest via
      by-step arrow is rest (Some by) (inl a) = direct by arrow is rest a
      by-step arrow is rest (Some by) (inr via) = over (Some by) arrow is rest via

  from-behind : (step : Step) (steps : List Step) (t : ℕ) (to : Place) → FromPlace steps t to → FromBehind (step ∷ steps) t to
  from-behind step steps t to on n from by behind each walk =
      let arrow : Arrow = walk.1.0 in
      let is = walk.1.1 in
      let held = slot-at p step.node step.slot arrow is in
      let itself : IsArrowOf p from (made_on p by (Some (record { node = n; slot = step.slot }))) arrow =
      each step.slot arrow (subst (λ m. step.slot < length (slots_at p m)) walk.0 held.0) (subst (λ m. unwrap_or (slice_get (slots_at p m) step.slot) None ≡ Some arrow) walk.0 held.1) in
      let a : IsArrowOf p from (made_on p by (Some step)) arrow = subst (λ m. IsArrowOf p from (made_on p by (Some (record { node = m; slot = step.slot }))) arrow) (sym walk.0) itself in
      let none : links_of p (step ∷ steps) ≡ links_of p steps = ap (λ ls. ls ++ links_of p steps) (links-none step (slice_get steps 0) (omega (arith, behind, walk.0))) in
      subst (λ ls. Leads p.model (link_from from (made_on p by (Some step)) ∷ ls) from to (HasStrict graph (step ∷ steps))) (sym none)
      (where-strict p.model (link_from from (made_on p by (Some step)) ∷ links_of p steps) from to ((arrow.strict ≡ true) ⊎ HasStrict graph steps) (HasStrict graph (step ∷ steps)) (which arrow is)
      (join (made_on p by (Some step)) arrow from to (links_of p steps) (HasStrict graph steps) a (on arrow.to a.target (there-at from (made_on p by (Some step)) arrow a) walk.1.2)))
    where
      which : (arrow : Arrow) → IsArrow graph step.node step.slot arrow → HasStrict graph (step ∷ steps) → (arrow.strict ≡ true) ⊎ HasStrict graph steps
      which arrow is (inl own) = inl (strict-here graph step arrow is own)
      which arrow is (inr later) = inr later

  lead : (steps : List Step) (t : ℕ) (to : Place) → slice_get p.numbering.places.items t ≡ Some to → FromPlace steps t to × FromBehind steps t to
  lead [] t to at = (stays, λ n from by behind each walk. absurd (omega (arith, behind, walk, slice_get_within p.numbering.places.items t to at)))
    where
      stays : FromPlace [] t to
      stays n from here walk =
          let same : from ≡ to = same_Some _ _ (sym here ∙ ap (slice_get p.numbering.places.items) walk ∙ at) in
          record { strict = false; walk = (ap node same, refl); has = λ none. absurd none }
  lead (step ∷ steps) t to at =
      let rest = lead steps t to at in
      (from-place step steps t to rest.0 rest.1, from-behind step steps t to rest.0)

  circle-from : (steps : List Step) (n : ℕ) (place : Place) → slice_get p.numbering.places.items n ≡ Some place → IsTrail graph steps n n → HasStrict graph steps → IsCircle p.model (links_of p steps)
  circle-from steps n place at walk strict =
      let leads = (lead steps n place at).0 n place at walk in
      (node place, subst (λ b. IsWalk p.model (links_of p steps) b (node place) (node place)) (leads.has strict) leads.walk)

  -- a walk that begins behind the nodes of elements begins as well with its next step
  from-next : (step : Step) (steps : List Step) (start : ℕ) → parts_from p ≤ start → IsTrail graph (step ∷ steps) start start → HasStrict graph (step ∷ steps) → IsCircle p.model (links_of p (steps ++ step ∷ []))
  from-next step steps start high walk strict =
      let arrow : Arrow = walk.1.0 in
      let is = walk.1.1 in
      let behind : parts_from p ≤ step.node = omega (arith, high, walk.0) in
      let has = (slot-has p step.node step.slot arrow is).1 in
      let back : LeadsBack p arrow = behind-back p all step.node arrow behind has in
      let at : slice_get p.numbering.places.items arrow.to ≡ Some back.0 = ap (slice_get p.numbering.places.items) back.2 ∙ all.plan.numbering.there back.0 back.1 in
      let rest : IsTrail graph steps arrow.to step.node = subst (λ m. IsTrail graph steps arrow.to m) (sym walk.0) walk.1.2 in
      circle-from (steps ++ step ∷ []) arrow.to back.0 at (IsWalk-push graph steps step arrow.to arrow is rest) (strict-last graph step steps strict)

  begun-low : (step : Step) (steps : List Step) (place : Place) → slice_get p.numbering.places.items step.node ≡ Some place → begun_of p (step ∷ steps) ≡ step ∷ steps
  begun-low step steps place at = ap (λ (o : Option Place). if not (is_some o) then steps ++ step ∷ [] else step ∷ steps) at

  begun-high : (step : Step) (steps : List Step) → parts_from p ≤ step.node → begun_of p (step ∷ steps) ≡ steps ++ step ∷ []
  begun-high step steps behind = ap (λ (o : Option Place). if not (is_some o) then steps ++ step ∷ [] else step ∷ steps) (none-behind step.node behind)

  circle-at : (steps : List Step) (start : ℕ) → IsTrail graph steps start start → HasStrict graph steps → (start < parts_from p) ⊎ (parts_from p ≤ start) → IsCircle p.model (links_of p (begun_of p steps))
  circle-at [] start walk strict which = absurd strict
  circle-at (step ∷ steps) start walk strict (inl low) =
      let (place, at) = there p.numbering.places.items start low in
      subst (λ xs. IsCircle p.model (links_of p xs)) (sym (begun-low step steps place (ap (slice_get p.numbering.places.items) walk.0 ∙ at)))
      (circle-from (step ∷ steps) start place at walk strict)
  circle-at (step ∷ steps) start walk strict (inr high) =
      subst (λ xs. IsCircle p.model (links_of p xs)) (sym (begun-high step steps (omega (arith, high, walk.0)))) (from-next step steps start high walk strict)

  pub links-circle : (steps : List Step) → IsClosedWalk graph steps → IsCircle p.model (links_of p (begun_of p steps))
  links-circle steps closed = circle-at steps closed.start closed.walk (strict-any graph steps closed.strict) (cases_lt closed.start (parts_from p))
