-- A walk that passes a slot, or leaves a node with no slots left, stays sound.
use Rattle.std.proofs.Common.{◌≡◌, ◌≢◌, ◌⊎◌, inl, inr, ℕ, ◌+◌, ◌-◌, ◌<◌, ◌≤◌, List, [], ◌∷◌, Contains}
use Rattle.std.proofs.Common.{length, take, set, sym, ◌∙◌, ap, subst, arith, slice_index}
use Rattle.std.proofs.Math.ListN.{length-set}
use Rattle.std.proofs.lemmas.Bool.{cases_lt, cases_eq}
use Rattle.std.proofs.lemmas.List.{get_or-set_same, get_or-set_other, length_push}
use Rattle.std.proofs.lemmas.List.Elements.{Contains-push_cases}
use Rattle.least_ranks.specs.declared.arrow.Arrow.{Arrow}
use Rattle.least_ranks.specs.Graph.{Arrows, IsArrow}
use Rattle.least_ranks.specs.Inside.Trails.{Trail, state_of, passed_on, left, work_left, IsTop, EndsWith}
use Rattle.least_ranks.specs.Inside.Sound.{IsMet, IsSlotMet, AreBusy, ArePassed, IsSound}
use Rattle.least_ranks.proofs.Rises.{IsRising-front, All-front, front-is}

module _ (graph : Arrows) (trail : Trail) (sound : IsSound graph trail) (place slot : ℕ)
    (within : place < length trail.path)
    (slots : slice_index trail.passed place ≡ slot) (now : IsSlotMet graph trail place slot) where
  inside : place < length trail.passed
  inside = omega (arith, within, sound.passed.long)

  here : slice_index (set trail.passed place (slot + 1)) place ≡ slot + 1
  here = get_or-set_same trail.passed place (slot + 1) 0 inside

  elsewhere : (k : ℕ) → k ≢ place → slice_index (set trail.passed place (slot + 1)) k ≡ slice_index trail.passed k
  elsewhere k other = get_or-set_other trail.passed place k (slot + 1) 0 other

  busy : AreBusy graph trail.path (set trail.passed place (slot + 1)) trail.busy
  busy =
      record {
        rise = sound.busy.rise;
        within = sound.busy.within;
        done =
            λ k there out. done k (sound.busy.done k there out) (cases_eq k place);
      }
    where
      done : (k : ℕ) → graph.slots (slice_index trail.path k) ≤ slice_index trail.passed k
          → (k ≡ place) ⊎ (k ≡ place → ⊥)
          → graph.slots (slice_index trail.path k) ≤ slice_index (set trail.passed place (slot + 1)) k
      done k old (inl same) = let at = ap (slice_index (set trail.passed place (slot + 1))) same in
          let before = ap (slice_index trail.passed) same in omega (arith, old, at, before, here, slots)
      done k old (inr other) = rw (elsewhere k other) old

  passed : ArePassed graph trail.states trail.path (set trail.passed place (slot + 1)) trail.parts
  passed = record {
    long = length-set trail.passed place (slot + 1) ∙ sound.passed.long;
    met = λ k there s arrow less is. met k there s arrow less is (cases_eq k place);
  }
    where
      met : (k : ℕ) → k < length trail.path → (s : ℕ) (arrow : Arrow)
          → s < slice_index (set trail.passed place (slot + 1)) k → IsArrow graph (slice_index trail.path k) s arrow
          → (k ≡ place) ⊎ (k ≡ place → ⊥) → IsMet trail.parts k (state_of trail arrow.to)
      met k there s arrow less is (inr other) =
          sound.passed.met k there s arrow (omega (arith, less, elsewhere k other)) is
      met k there s arrow less is (inl same) = by (cases_lt s slot)
        where
          by : (s < slot) ⊎ (slot ≤ s) → IsMet trail.parts k (state_of trail arrow.to)
          by (inl before) =
              sound.passed.met k there s arrow (omega (arith, before, slots, ap (slice_index trail.passed) same)) is
          by (inr late) =
              let at : slice_index (set trail.passed place (slot + 1)) k ≡ slot + 1 =
              ap (slice_index (set trail.passed place (slot + 1))) same ∙ here in
              let last : s ≡ slot = omega (arith, less, at, late) in
              let arrow_is : IsArrow graph (slice_index trail.path place) slot arrow = rw (same, last) at is in
              let it = now arrow arrow_is in
              let P : ℕ → Type 0 = λ x. IsMet trail.parts x (state_of trail arrow.to) in
              subst P (sym same) it

  pub IsSound-passed_on : IsSound graph (passed_on trail place (slot + 1))
  IsSound-passed_on =
      record {
        placed = sound.placed;
        parts = sound.parts;
        busy = busy;
        passed = passed;
        joined = sound.joined;
        ranked =
            sound.ranked;
        small = record { few = sound.small.few; room = sound.small.room; small = sound.small.small };
      }

  -- and it is where it was
  pub Goes-passed_on : IsTop trail place
      → IsTop (passed_on trail place (slot + 1)) place
      × (slice_index (passed_on trail place (slot + 1)).passed place ≡ slot + 1)
  Goes-passed_on top = (record { last = top.last; above = top.above }, here)

module _ (graph : Arrows) (trail : Trail) (sound : IsSound graph trail) (place : ℕ) (last : EndsWith trail.busy place)
    (none : graph.slots (slice_index trail.path place) ≤ slice_index trail.passed place) where
  front : take (length trail.busy - 1) trail.busy ≡ last.front
  front = front-is trail.busy last.front place last.is

  busy_front : AreBusy graph trail.path trail.passed last.front
  busy_front = record {
    rise = IsRising-front last.front (place ∷ []) (rw last.is at sound.busy.rise);
    within = All-front (λ p. p < length trail.path) last.front (place ∷ []) (rw last.is at sound.busy.within);
    done = λ k there out. done k there out (cases_eq k place);
  }
    where
      done : (k : ℕ) → k < length trail.path → (Contains last.front k → ⊥) → (k ≡ place) ⊎ (k ≡ place → ⊥)
          → graph.slots (slice_index trail.path k) ≤ slice_index trail.passed k
      done k there out (inl same) = rw same none
      done k there out (inr other) =
          sound.busy.done k there
          (λ has.
          gone
          (Contains-push_cases last.front place k
          (let P : List ℕ → Type 0 = λ xs. Contains xs k in subst P last.is has)))
        where
          gone : Contains last.front k ⊎ (place ≡ k) → ⊥
          gone (inl before) = out before
          gone (inr same) = other (sym same)

  pub IsSound-left : IsSound graph (left trail)
  IsSound-left =
      record {
        placed = sound.placed;
        parts = sound.parts;
        busy = rw front busy_front;
        passed = sound.passed;
        joined =
            sound.joined;
        ranked = sound.ranked;
        small =
            record { few = sound.small.few; room = sound.small.room; small = sound.small.small };
      }

  pub work_left-left : work_left (left trail) < work_left trail
  work_left-left = omega (arith, ap length front, ap length last.is, length_push last.front place)
