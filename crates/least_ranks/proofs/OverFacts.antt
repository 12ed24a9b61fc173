-- The greatest of the ranks that some nodes must have at least.
use Rattle.std.proofs.Common.{◌≡◌, ◌⊎◌, inl, inr, ℕ, ◌+◌, ◌<◌, ◌≤◌, max, Bool, true, false, cond, eqb, nat_lt, List}
use Rattle.std.proofs.Common.{length, slice_index, refl, arith}
use Rattle.std.specs.Ordering.{ord_max, nat_cmp, is_lt}
use Rattle.std.specs.declared.cmp.Ordering.TheVariants.{Less, Equal, Greater}
use Rattle.std.proofs.lemmas.Bool.{cases_lt}
use Rattle.std.proofs.lemmas.Bool.Decides.{nat_tests}
use Rattle.std.proofs.lemmas.List.Elements.{Contains-get_or}
use Rattle.least_ranks.specs.declared.arrow.Arrow.{Arrow}
use Rattle.least_ranks.specs.declared.state.State.{State}
use Rattle.least_ranks.specs.declared.state.State.TheVariants.{New, Waiting, Ranked}
use Rattle.least_ranks.specs.Graph.{Arrows, IsArrow}
use Rattle.least_ranks.specs.Inside.Trails.{Trail, state_of}
use Rattle.least_ranks.specs.Inside.Bounds.{IsOverArrow, IsOver, IsLowest, IsLowestOfSome, IsBound}

ord_max-is : (a b : ℕ) → ord_max nat_cmp a b ≡ max a b
ord_max-is a b = by (nat_lt b a) (eqb b a) refl
  where
    by : (v w : Bool) → nat_lt b a ≡ v → cond (is_lt (cond v Less (cond w Equal Greater))) a b ≡ max a b
    by true w e = grind (arith, nat_tests)
    by false true e = grind (arith, nat_tests)
    by false false e = grind (arith, nat_tests)

IsOverArrow-more : (rank more : ℕ) (arrow : Arrow) (state : State) → rank ≤ more → IsOverArrow rank arrow state
    → IsOverArrow more arrow state
IsOverArrow-more rank more arrow New le over = over
IsOverArrow-more rank more arrow (Waiting place) le over = over
IsOverArrow-more rank more arrow (Ranked target) le over = omega (arith, over, le)

module _ (graph : Arrows) (trail : Trail) (nodes : List ℕ) (i rank here most : ℕ) (within : i < length nodes)
    (is : most ≡ ord_max nat_cmp rank here) where
  most-is : most ≡ max rank here
  most-is = omega (arith, is, ord_max-is rank here)

  pub over-more : ((k : ℕ) → k < i → IsOver graph trail rank (slice_index nodes k))
      → IsOver graph trail here (slice_index nodes i)
      → (k : ℕ) → k < i + 1 → IsOver graph trail most (slice_index nodes k)
  over-more before now k less slot arrow there = by (cases_lt k i)
    where
      by : (k < i) ⊎ (i ≤ k) → IsOverArrow most arrow (state_of trail arrow.to)
      by (inl early) = IsOverArrow-more rank most arrow (state_of trail arrow.to) (omega (arith, most-is))
          (before k early slot arrow there)
      by (inr late) =
          let same : k ≡ i = omega (arith, late, less) in
          let arrow_is : IsArrow graph (slice_index nodes i) slot arrow = rw same at there in
          IsOverArrow-more here most arrow (state_of trail arrow.to) (omega (arith, most-is)) (now slot arrow arrow_is)

  pub lowest-more : IsLowestOfSome graph nodes rank → IsLowest graph (slice_index nodes i) here
      → IsLowestOfSome graph nodes most
  lowest-more before now = by (cases_lt here rank)
    where
      by : (here < rank) ⊎ (rank ≤ here) → IsLowestOfSome graph nodes most
      by (inl less) = let same : most ≡ rank = omega (arith, most-is, less) in rw same before
      by (inr least) =
          let same : most ≡ here = omega (arith, most-is, least) in
          inr (
            slice_index nodes i,
            Contains-get_or nodes i 0 within,
            (λ others fit. (let low = now others fit in omega (arith, low, same))),
          )

  pub bound-more : IsBound graph trail rank → IsBound graph trail here → IsBound graph trail most
  bound-more before now = omega (arith, before, now, most-is)
