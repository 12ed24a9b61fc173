-- Walks that lead back to where they begin.
use Rattle.std.proofs.Common.{◌≡◌, ℕ, ◌<◌, ◌≤◌, Some, List, [], ◌∷◌}
use Rattle.std.proofs.Common.{slice_index, zero, suc, refl, sym, ◌∙◌, ap, subst, arith}
use Rattle.std.specs.Prelude.{Any}
use Rattle.least_ranks.specs.declared.arrow.Arrow.{Arrow}
use Rattle.least_ranks.specs.declared.arrow.Step.{Step}
use Rattle.least_ranks.specs.Graph.{Arrows, IsArrow, Fits, fall_of, IsWalk, IsStrictStep, IsClosedWalk}
use Rattle.least_ranks.specs.Inside.Ways.{IsStrictTo}

module _ (graph : Arrows) (ranks : List ℕ) (fits : Fits graph ranks) where
  -- along a walk ranks don't rise
  walk-falls : (steps : List Step) (from to : ℕ) → IsWalk graph steps from to
      → slice_index ranks to ≤ slice_index ranks from
  walk-falls [] from to walk = omega (arith, ap (slice_index ranks) walk)
  walk-falls (step ∷ steps) from to walk =
      let falls = fits.falls step.node step.slot walk.1.0 walk.1.1 in
      let rest = walk-falls steps walk.1.0.to to walk.1.2 in
      omega (arith, falls, rest, ap (slice_index ranks) walk.0)

  -- and they fall where a step is strict
  walk-falls-strictly : (steps : List Step) (from to : ℕ) → IsWalk graph steps from to
      → Any (IsStrictStep graph) steps → slice_index ranks to < slice_index ranks from
  walk-falls-strictly [] from to walk (k, step, within, is, strict) = absurd (omega (arith, within))
  walk-falls-strictly (step ∷ steps) from to walk (zero, it, within, is, strict) =
      let falls = fits.falls step.node step.slot walk.1.0 walk.1.1 in
      let rest = walk-falls steps walk.1.0.to to walk.1.2 in
      let here : IsStrictStep graph step = subst (IsStrictStep graph) (sym is) strict in
      let one = strict-fall step walk.1.0 walk.1.1 here in
      omega (arith, falls, rest, one, ap (slice_index ranks) walk.0)
    where
      strict-fall : (s : Step) (arrow : Arrow) → IsArrow graph s.node s.slot arrow → IsStrictStep graph s
          → ◌≡◌ {A = ℕ} (fall_of arrow) 1
      strict-fall s arrow there here =
          let same_ : Some arrow ≡ Some here.arrow = sym there.holds ∙ here.there.holds in
          let same : arrow ≡ here.arrow = cc in
          rw (same, here.strict) refl
  walk-falls-strictly (step ∷ steps) from to walk (suc k, it, within, is, strict) =
      let falls = fits.falls step.node step.slot walk.1.0 walk.1.1 in
      let rest = walk-falls-strictly steps walk.1.0.to to walk.1.2 (k, it, omega (arith, within), is, strict) in
      omega (arith, falls, rest, ap (slice_index ranks) walk.0)

  pub no-ranks : (steps : List Step) → IsClosedWalk graph steps → ⊥
  no-ranks steps closed = let less = walk-falls-strictly steps closed.start closed.start closed.walk closed.strict in
      omega (arith, less)

-- a strict step and the way back are such a walk
pub closed-from : (graph : Arrows) (step : Step) (to : ℕ) (steps : List Step) → IsStrictTo graph step to
    → IsWalk graph steps to step.node → IsClosedWalk graph (step ∷ steps)
closed-from graph step to steps strict walk = record {
  start = step.node;
  walk = (refl, (strict.arrow, strict.there, rw strict.leads walk));
  strict = (0, step, omega arith, refl, record { arrow = strict.arrow; there = strict.there; strict = strict.strict });
}
