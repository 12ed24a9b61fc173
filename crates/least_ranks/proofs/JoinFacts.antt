-- A walk that joins parts of its path stays sound.
use Rattle.std.proofs.Common.{◌≡◌, ◌⊎◌, inl, inr, ℕ, ◌<◌, ◌≤◌, List, Contains, length}
use Rattle.std.proofs.Common.{refl, sym, ap, subst, arith, slice_index, length-append}
use Rattle.std.proofs.lemmas.Bool.{cases_lt}
use Rattle.std.proofs.lemmas.List.Elements.{Contains-append_left, Contains-append_cases, All-contains}
use Rattle.least_ranks.specs.Graph.{Arrows}
use Rattle.least_ranks.specs.Inside.Trails.{Trail, state_of, work_left, IsTop, IsCut, IsJoined}
use Rattle.least_ranks.specs.Inside.Sound.{LeadsTo, IsTogether, AreParts, ArePassed, AreJoined}
use Rattle.least_ranks.specs.Inside.Sound.{IsSound, StaysAt}
use Rattle.least_ranks.proofs.Rises.{IsRising-front, All-front}
use Rattle.least_ranks.proofs.Trodden.{IsMet-fewer, top-within, top-reached}

module _ (graph : Arrows) (trail : Trail) (sound : IsSound graph trail) (place : ℕ) (top : IsTop trail place)
    (target : ℕ) (target_in : target < length trail.path)
    (led : LeadsTo graph (slice_index trail.path place) (slice_index trail.path target)) (few : List ℕ)
    (cut : IsCut trail.parts few target) where
  kept : (start : ℕ) → Contains few start → Contains trail.parts start
  kept start there = let P : List ℕ → Type 0 = λ xs. Contains xs start in
      subst P (sym cut.is) (Contains-append_left few cut.rest start there)

  few-or-after : (start : ℕ) → Contains trail.parts start → Contains few start ⊎ (target < start)
  few-or-after start there =
      by
      (Contains-append_cases few cut.rest start
      (let P : List ℕ → Type 0 = λ xs. Contains xs start in subst P cut.is there))
    where
      by : Contains few start ⊎ Contains cut.rest start → Contains few start ⊎ (target < start)
      by (inl front) = inl front
      by (inr back) = inr (All-contains (λ n. target < n) cut.rest start cut.above back)

  parts : AreParts (length trail.path) few
  parts = record {
    rise = IsRising-front few cut.rest (rw cut.is at sound.parts.rise);
    within = All-front (λ s. s < length trail.path) few cut.rest (rw cut.is at sound.parts.within);
    first =
        λ some.
        (elim
        (few-or-after 0 (sound.parts.first some)) [ inl there ↦ there | inr less ↦ absurd (omega (arith, less)) ]);
  }

  passed : ArePassed graph trail.states trail.path trail.passed few
  passed = record {
    long = sound.passed.long;
    met = λ k there slot arrow less is. IsMet-fewer trail.parts few k (state_of trail arrow.to) kept
        (sound.passed.met k there slot arrow less is);
  }

  joined : AreJoined graph trail.path few
  joined low high low_in high_in together = by (cases_lt target high)
    where
      by : (target < high) ⊎ (high ≤ target) → LeadsTo graph (slice_index trail.path high) (slice_index trail.path low)
      by (inr before) =
          sound.joined low high low_in high_in
          (λ start there after upto.
          elim
          (few-or-after start there)
          [ inl front ↦ together start front after upto | inr past ↦ omega (arith, past, upto, before) ])
      by (inl past) = λ height never.
          let first = sound.joined low target low_in target_in
          (λ start there after upto.
          elim
          (few-or-after start there) [
            | inl front ↦ together start front after (omega (arith, upto, past))
            | inr late ↦ omega
                (arith, late, upto)
          ])
          height never in
          let second = led height never in
          let third = top-reached graph trail sound place top high high_in height never in
          omega (arith, first, second, third)

  sound-joined : IsSound graph (record trail { parts = few })
  sound-joined =
      record {
        placed = sound.placed;
        parts = parts;
        busy = sound.busy;
        passed = passed;
        joined = joined;
        ranked =
            sound.ranked;
        small = record { few = sound.small.few; room = sound.small.room; small = sound.small.small };
      }

  -- the top stays
  top-joined : IsTop (record trail { parts = few }) place
  top-joined = record { last = top.last; above = All-front (λ s. s ≤ place) few cut.rest (rw cut.is at top.above) }

  work-joined : work_left (record trail { parts = few }) ≤ work_left trail
  work-joined = omega (arith, ap length cut.is, length-append few cut.rest)

  -- the passed arrow stays in its part
  met-joined : IsTogether few target place
  met-joined start there after upto = let most = All-contains (λ n. n ≤ target) few start cut.within there in
      omega (arith, most, after)

module _ (graph : Arrows) (old new : Trail) (sound : IsSound graph old) (place : ℕ) (top : IsTop old place)
    (target : ℕ) (target_in : target < length old.path)
    (led : LeadsTo graph (slice_index old.path place) (slice_index old.path target))
    (join : IsJoined old new target) where
  pub IsSound-joined : IsSound graph new
  IsSound-joined =
      subst (λ t. IsSound graph t) (sym join.others)
      (sound-joined graph old sound place top target target_in led new.parts join.parts)

  pub IsTop-joined : IsTop new place
  IsTop-joined =
      subst (λ t. IsTop t place) (sym join.others)
      (top-joined graph old sound place top target target_in led new.parts join.parts)

  pub work_left-joined : work_left new ≤ work_left old
  work_left-joined =
      subst (λ t. work_left t ≤ work_left old) (sym join.others)
      (work-joined graph old sound place top target target_in led new.parts join.parts)

  pub states-joined : new.states ≡ old.states
  states-joined = ap (λ (t : Trail). t.states) join.others

  pub StaysAt-joined : StaysAt old new place
  StaysAt-joined =
      subst (λ t. StaysAt old t place) (sym join.others)
      (record { within = top-within graph old sound place top; node = refl; slots = refl })

  pub IsMet-joined : IsTogether new.parts target place
  IsMet-joined = met-joined graph old sound place top target target_in led new.parts join.parts
