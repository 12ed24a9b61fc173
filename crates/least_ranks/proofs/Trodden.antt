-- What the parts of a path say of the arrows between its nodes, and what a sound walk says of them.
use Rattle.std.proofs.Common.{◌≡◌, ◌⊎◌, inl, inr, ℕ, ◌<◌, ◌≤◌, List, [], ◌∷◌, ◌++◌, All, Contains, length}
use Rattle.std.proofs.Common.{sym, subst, arith, slice_index}
use Rattle.std.proofs.lemmas.List.Elements.{Contains-push, Contains-push_cases, All-contains}
use Rattle.least_ranks.specs.declared.arrow.Arrow.{Arrow}
use Rattle.least_ranks.specs.declared.state.State.{State}
use Rattle.least_ranks.specs.declared.state.State.TheVariants.{New, Waiting, Ranked}
use Rattle.least_ranks.specs.Graph.{Arrows, IsArrow, Fits}
use Rattle.least_ranks.specs.Inside.Trails.{Trail, IsTop}
use Rattle.least_ranks.specs.Inside.Sound.{NeverRises, LeadsTo, IsTogether, IsMet, IsSound}

-- ranks that fit never rise
pub NeverRises-fits : (graph : Arrows) (ranks : List ℕ) → Fits graph ranks → NeverRises graph (slice_index ranks)
NeverRises-fits graph ranks fits node slot arrow there = let falls = fits.falls node slot arrow there in
    omega (arith, falls)

-- an arrow leads to its target
pub LeadsTo-arrow : (graph : Arrows) (node slot : ℕ) (arrow : Arrow) → IsArrow graph node slot arrow
    → LeadsTo graph node arrow.to
LeadsTo-arrow graph node slot arrow there height never = never node slot arrow there

-- fewer parts join more
pub IsTogether-fewer : (parts few : List ℕ) (low high : ℕ) → ((start : ℕ) → Contains few start → Contains parts start)
    → IsTogether parts low high → IsTogether few low high
IsTogether-fewer parts few low high of together start there after upto = together start (of start there) after upto

-- no part begins after what all begin before
pub together-past : (parts : List ℕ) (low high : ℕ) → All (λ start. start ≤ low) parts → IsTogether parts low high
together-past parts low high before start there after upto =
    let bound = All-contains (λ s. s ≤ low) parts start before there in
    omega (arith, bound, after)

pub IsMet-fewer : (parts few : List ℕ) (place : ℕ) (state : State)
    → ((start : ℕ) → Contains few start → Contains parts start)
    → IsMet parts place state → IsMet few place state
IsMet-fewer parts few place New of met = met
IsMet-fewer parts few place (Waiting target) of met = IsTogether-fewer parts few target place of met
IsMet-fewer parts few place (Ranked rank) of met = met

-- a part that begins later changes nothing
pub IsMet-later : (parts : List ℕ) (later place : ℕ) (state : State) → place < later → IsMet parts place state
    → IsMet (parts ++ later ∷ []) place state
IsMet-later parts later place New less met = met
IsMet-later parts later place (Waiting target) less met =
    λ start there after upto. by start there after upto (Contains-push_cases parts later start there)
  where
    by : (start : ℕ) → Contains (parts ++ later ∷ []) start → target < start → start ≤ place
        → Contains parts start ⊎ (later ≡ start) → ⊥
    by start there after upto (inl before) = met start before after upto
    by start there after upto (inr last) = omega (arith, last, less, upto)
IsMet-later parts later place (Ranked rank) less met = met

module _ (graph : Arrows) (trail : Trail) (sound : IsSound graph trail) (place : ℕ) (top : IsTop trail place) where
  pub top-within : place < length trail.path
  top-within =
      let there : Contains trail.busy place = let P : List ℕ → Type 0 = λ xs. Contains xs place in
      subst P (sym top.last.is) (Contains-push top.last.front place) in
      All-contains (λ p. p < length trail.path) trail.busy place sound.busy.within there

  -- arrows lead from the top to each node of the path that comes later or is in its part, and so does the path to it
  pub top-reached : (low : ℕ) → low < length trail.path
      → LeadsTo graph (slice_index trail.path low) (slice_index trail.path place)
  top-reached low within = sound.joined place low top-within within (together-past trail.parts place low top.above)

-- arrows lead on
pub LeadsTo-then : (graph : Arrows) (from mid to : ℕ) → LeadsTo graph from mid → LeadsTo graph mid to
    → LeadsTo graph from to
LeadsTo-then graph from mid to first second height never = let a = first height never in
    let b = second height never in omega (arith, a, b)
