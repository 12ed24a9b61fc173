-- A search over runs: `last` is the cell of the last item of a run, and `items` gives its items.
use Rattle.std.proofs.Common.{◌≡◌, ℕ, List, [], ◌∷◌, ◌++◌, map, arith, refl, ap, ◌∙◌, inl, inr, None, Some, All, append_assoc}
use Rattle.std.proofs.lemmas.Bool.Decides.{leb_tells}
use Rattle.std.proofs.lemmas.List.Elements.{All-head, All-tail}
use Rattle.std.specs.List.{slice_get, flat_map}
use Rattle.cell_store.specs.Inside.Order.{at_least_by, first_from, EndsAt}
use Rattle.cell_store.proofs.Rising.{AllAbove, Rises}
use Rattle.cell_store.proofs.InOrder.{InOrder, AllOver, in_order-front, in_order-back, ends_up_to, ends_over, over-front, over-back, over-ended, first-stops, first-passes}

module _ {R X : Type 0} (cell : X → ℕ) (last : R → ℕ) (items : R → List X) where
  -- the first run that ends at or above the cell has the first item
  pub first_in_run : (runs : List R) (more : List X) (k : ℕ) (r : R) → All (λ run. EndsAt cell (last run) (items run)) runs
      → InOrder cell (flat_map items runs ++ more) → slice_get (at_least_by last runs k) 0 ≡ Some r
      → first_from cell (flat_map items runs ++ more) k ≡ first_from cell (items r) k
  first_in_run [] more k r ends rises is = absurd (cc)
  first_in_run (x ∷ runs) more k r ends rises is =
      let here = All-head (λ run. EndsAt cell (last run) (items run)) x runs ends in
      let whole : InOrder cell (items x ++ (flat_map items runs ++ more)) = rw append_assoc at rises in
      elim (leb_tells k (last x)) [
        | inl t ↦ (
            let first = rw t.0 at is in
            let same : x ≡ r = cc in
            rw append_assoc (first-stops cell (items x) (flat_map items runs ++ more) k (last x) here t.1 ∙ ap (λ run. first_from cell (items run) k) same))
        | inr t ↦ (
            let rest = rw t.0 at is in
            rw append_assoc (first-passes cell (items x) (flat_map items runs ++ more) k (last x) (ends_up_to cell (last x) (items x) (in_order-front cell (items x) (flat_map items runs ++ more) whole) here) (omega arith) ∙ first_in_run runs more k r (All-tail (λ run. EndsAt cell (last run) (items run)) x runs ends) (in_order-back cell (items x) (flat_map items runs ++ more) whole) rest))
      ]

  -- where none does, the first item comes after all runs
  pub first_past_runs : (runs : List R) (more : List X) (k : ℕ) → All (λ run. EndsAt cell (last run) (items run)) runs
      → InOrder cell (flat_map items runs ++ more) → slice_get (at_least_by last runs k) 0 ≡ None
      → first_from cell (flat_map items runs ++ more) k ≡ first_from cell more k
  first_past_runs [] more k ends rises is = refl
  first_past_runs (x ∷ runs) more k ends rises is =
      let here = All-head (λ run. EndsAt cell (last run) (items run)) x runs ends in
      let whole : InOrder cell (items x ++ (flat_map items runs ++ more)) = rw append_assoc at rises in
      elim (leb_tells k (last x)) [
        | inl t ↦ absurd (let bad = rw t.0 at is in cc)
        | inr t ↦ (
            let rest = rw t.0 at is in
            rw append_assoc (first-passes cell (items x) (flat_map items runs ++ more) k (last x) (ends_up_to cell (last x) (items x) (in_order-front cell (items x) (flat_map items runs ++ more) whole) here) (omega arith) ∙ first_past_runs runs more k (All-tail (λ run. EndsAt cell (last run) (items run)) x runs ends) (in_order-back cell (items x) (flat_map items runs ++ more) whole) rest))
      ]

  over-runs : (n : ℕ) (runs : List R) → All (λ run. EndsAt cell (last run) (items run)) runs → AllOver cell n (flat_map items runs) → AllAbove n (map last runs)
  over-runs n [] ends over = tt
  over-runs n (x ∷ runs) ends over =
      let here = All-head (λ run. EndsAt cell (last run) (items run)) x runs ends in (
        ends_over cell n (last x) (items x) (over-front cell n (items x) (flat_map items runs) over) here,
        over-runs n runs (All-tail (λ run. EndsAt cell (last run) (items run)) x runs ends) (over-back cell n (items x) (flat_map items runs) over),
      )

  -- runs in order come in the order of their ends
  pub runs_in_order : (runs : List R) → All (λ run. EndsAt cell (last run) (items run)) runs → InOrder cell (flat_map items runs) → Rises (map last runs)
  runs_in_order [] ends rises = tt
  runs_in_order (x ∷ runs) ends rises =
      let here = All-head (λ run. EndsAt cell (last run) (items run)) x runs ends in
      let later = All-tail (λ run. EndsAt cell (last run) (items run)) x runs ends in (
        over-runs (last x) runs later (over-ended cell (last x) (items x) (flat_map items runs) here rises),
        runs_in_order runs later (in_order-back cell (items x) (flat_map items runs) rises),
      )

  -- each run rises
  pub run_in_order : (runs : List R) (more : List X) (k : ℕ) (r : R) → InOrder cell (flat_map items runs ++ more) → slice_get (at_least_by last runs k) 0 ≡ Some r → InOrder cell (items r)
  run_in_order [] more k r rises is = absurd (cc)
  run_in_order (x ∷ runs) more k r rises is =
      let whole : InOrder cell (items x ++ (flat_map items runs ++ more)) = rw append_assoc at rises in
      elim (leb_tells k (last x)) [
        | inl t ↦ (
            let first = rw t.0 at is in
            let same : x ≡ r = cc in
            rw same at (in_order-front cell (items x) (flat_map items runs ++ more) whole))
        | inr t ↦ (
            let rest = rw t.0 at is in
            run_in_order runs more k r (in_order-back cell (items x) (flat_map items runs ++ more) whole) rest)
      ]
