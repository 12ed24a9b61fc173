-- A walk that gives a part its rank stays sound.
use Rattle.std.proofs.Common.{◌≡◌, ◌⊎◌, inl, inr, ℕ, ◌+◌, ◌-◌, ◌<◌, ◌≤◌, Bool, true, false, cond, leb, List}
use Rattle.std.proofs.Common.{[], ◌∷◌, All, Contains, length, take, drop, get_or, refl, sym, ◌∙◌, ap}
use Rattle.std.proofs.Common.{subst, arith, slice_index, length-drop, get_or-take}
use Rattle.std.proofs.Common.{get_or-drop}
use Rattle.std.proofs.lemmas.Bool.{cases_lt}
use Rattle.std.proofs.lemmas.Bool.Decides.{nat_tests}
use Rattle.std.proofs.lemmas.List.{length_push, get_or_default, length-take-le}
use Rattle.std.proofs.lemmas.List.Elements.{Contains-append_left, Contains-push, Contains-push_cases, All-contains}
use Rattle.std.proofs.lemmas.List.Elements.{All-weaker, Contains-get_or}
use Rattle.least_ranks.specs.declared.arrow.Arrow.{Arrow}
use Rattle.least_ranks.specs.declared.state.State.{State}
use Rattle.least_ranks.specs.declared.state.State.TheVariants.{New, Waiting, Ranked}
use Rattle.least_ranks.specs.Graph.{Arrows, IsArrow, Fits, fall_of}
use Rattle.least_ranks.specs.Inside.States.{is_new}
use Rattle.least_ranks.specs.Inside.Trails.{Trail, state_of, state_in, rank_all, settled, new_count, work_left}
use Rattle.least_ranks.specs.Inside.Trails.{EndsWith, IsIdle}
use Rattle.least_ranks.specs.Inside.Sound.{LeadsTo, IsTogether, IsMet, LetsHave, ArePlaced, AreParts}
use Rattle.least_ranks.specs.Inside.Sound.{AreBusy, ArePassed, AreJoined, AreRanked, AreSmall, IsSound, IsLater}
use Rattle.least_ranks.specs.Inside.Bounds.{LeadsBack, IsInside, IsOverArrow, IsOver, IsLowestOfSome, IsBound}
use Rattle.least_ranks.proofs.Rises.{IsRising-front, front-is, below-last, at_most-last}
use Rattle.least_ranks.proofs.Trodden.{NeverRises-fits, IsTogether-fewer, together-past}
use Rattle.least_ranks.proofs.RankedStates.{length-rank_all, rank_all-out, rank_all-in, new-rank_all, state_after}
use Rattle.least_ranks.proofs.RankedStates.{WasRanked, waits-before, ranked-before, waits-after}
use Rattle.least_ranks.proofs.RankedStates.{ranked-after, is_new-after, lets-after}

-- a node stands at a place of the last part
abbrev pub HasPlace : Trail → ℕ → ℕ → Type 0
HasPlace trail start node =
    (place : ℕ) × (start ≤ place) × (place < length trail.path) × (slice_index trail.path place ≡ node)

module _ (graph : Arrows) (trail : Trail) (start : ℕ) (sound : IsSound graph trail)
    (ends : EndsWith trail.parts start) (idle : IsIdle trail) where
  begins : Contains trail.parts start
  begins = let P : List ℕ → Type 0 = λ xs. Contains xs start in subst P (sym ends.is) (Contains-push ends.front start)

  pub start-within : start < length trail.path
  start-within = All-contains (λ s. s < length trail.path) trail.parts start sound.parts.within begins

  all-before : All (λ s. s ≤ start) trail.parts
  all-before = at_most-last trail.parts start ends sound.parts.rise

  -- the places of the last part
  together : (low high : ℕ) → start ≤ low → IsTogether trail.parts low high
  together low high late =
      together-past trail.parts low high
      (All-weaker (λ s. s ≤ start) (λ s. s ≤ low) (λ s less. omega (arith, less, late)) trail.parts all-before)

  in-part : (low high : ℕ) → start ≤ high → IsTogether trail.parts low high → start ≤ low
  in-part low high late near =
      elim (cases_lt low start) [ inl before ↦ absurd (near start begins before late) | inr past ↦ past ]

  not-busy : (place : ℕ) → start ≤ place → Contains trail.busy place → ⊥
  not-busy place late has = let less = All-contains (λ p. p < start) trail.busy place (idle start ends) has in
      omega (arith, less, late)

  -- where the arrows of a node of the last part lead
  met : (place : ℕ) → start ≤ place → place < length trail.path → (slot : ℕ) (arrow : Arrow)
      → IsArrow graph (slice_index trail.path place) slot arrow
      → IsMet trail.parts place (state_of trail arrow.to)
  met place late within slot arrow there =
      let done = sound.busy.done place within (not-busy place late) in
      sound.passed.met place within slot arrow (omega (arith, there.slot_within, done)) there

  inside-at : (place : ℕ) → start ≤ place → place < length trail.path
      → IsInside graph trail (slice_index trail.path place)
  inside-at place late within = record {
    within = sound.placed.within place within;
    back = λ slot arrow there. back arrow (state_of trail arrow.to) refl (met place late within slot arrow there);
  }
    where
      back : (arrow : Arrow) (s : State) → state_of trail arrow.to ≡ s → IsMet trail.parts place s
          → LeadsBack graph (slice_index trail.path place) arrow.to s
      back arrow New is m = m
      back arrow (Waiting target) is m =
          let at = sound.placed.at arrow.to target is in
          let led = sound.joined place target within at.0 (together place target late) in
          let P : ℕ → Type 0 = λ x. LeadsTo graph x (slice_index trail.path place) in
          subst P at.1 led
      back arrow (Ranked rank) is m = m

  -- what stands in the last part
  part-place : (node : ℕ) → Contains (drop start trail.path) node → HasPlace trail start node
  part-place node has =
      let long = length-drop start trail.path in
      let at : get_or (drop start trail.path) has.0 node ≡ get_or trail.path (start + has.0) node =
      get_or-drop start trail.path has.0 node in
      let within : start + has.0 < length trail.path = omega (arith, has.1, long) in
      (start + has.0, omega arith, within, get_or_default trail.path (start + has.0) 0 node within ∙ sym at ∙ has.2)

  place-part : (place : ℕ) → start ≤ place → place < length trail.path
      → Contains (drop start trail.path) (slice_index trail.path place)
  place-part place late within =
      let long = length-drop start trail.path in
      let here : place - start < length (drop start trail.path) = omega (arith, long, within, late) in
      let at : get_or (drop start trail.path) (place - start) 0 ≡ get_or trail.path (start + (place - start)) 0 =
      get_or-drop start trail.path (place - start) 0 in
      let same : start + (place - start) ≡ place = omega (arith, late) in
      let P : ℕ → Type 0 = λ x. Contains (drop start trail.path) x in
      subst P (at ∙ ap (λ k. get_or trail.path k 0) same)
      (Contains-get_or (drop start trail.path) (place - start) 0 here)

  pub are-inside : All (IsInside graph trail) (drop start trail.path)
  are-inside k d within =
      let it = part-place (get_or (drop start trail.path) k d) (Contains-get_or (drop start trail.path) k d within) in
      subst (IsInside graph trail) it.3 (inside-at it.0 it.1 it.2)

  module _ (rank : ℕ) (over : All (IsOver graph trail rank) (drop start trail.path))
      (lowest : IsLowestOfSome graph (drop start trail.path) rank) (bound : IsBound graph trail rank) where
    abbrev nodes : List ℕ
    nodes = drop start trail.path

    abbrev states : List State
    states = rank_all rank (drop start trail.path) trail.states

    abbrev path : List ℕ
    path = take start trail.path

    abbrev passed_now : List ℕ
    passed_now = take start trail.passed

    state-now : (node : ℕ) → state_in states node ≡ state_after start rank (state_in trail.states node)
    state-now node = by (state_in trail.states node) refl
      where
        out : ((place : ℕ) → start ≤ place → state_in trail.states node ≡ Waiting place → ⊥)
            → state_in states node ≡ state_in trail.states node
        out none =
            rank_all-out rank nodes trail.states node
            (λ has. let it = part-place node has in
            none it.0 it.1 (ap (state_in trail.states) (sym it.3) ∙ sound.placed.waits it.0 it.2))

        by : (s : State) → state_in trail.states node ≡ s → state_in states node ≡ state_after start rank s
        by New is = out (λ place late waits. (let e : New ≡ Waiting place = sym is ∙ waits in absurd (cc))) ∙ is
        by (Ranked other) is =
            out (λ place late waits. (let e : Ranked other ≡ Waiting place = sym is ∙ waits in absurd (cc))) ∙ is
        by (Waiting place) is = waiting (leb start place) refl
          where
            at : (place < length trail.path) × (slice_index trail.path place ≡ node)
            at = sound.placed.at node place is

            waiting : (b : Bool) → leb start place ≡ b → state_in states node ≡ cond b (Ranked rank) (Waiting place)
            waiting true e =
                let late : start ≤ place = grind (arith, nat_tests) in
                let P : ℕ → Type 0 = λ x. Contains nodes x in
                let node_in : node < graph.nodes = (let n = sound.placed.within place at.0 in omega (arith, n, at.1)) in
                rank_all-in rank nodes trail.states node (omega (arith, node_in, sound.placed.whole))
                (subst P at.1 (place-part place late at.0))
            waiting false e =
                let early : place < start = grind (arith, nat_tests) in
                out
                (λ other late waits.
                (let same : Waiting place ≡ Waiting other = sym is ∙ waits in let n : place ≡ other = cc in
                omega (arith, n, early, late))) ∙ is

    long : length path ≡ start
    long = length-take-le start trail.path (omega (arith, start-within))

    placed : ArePlaced graph states path
    placed = record {
      whole = length-rank_all rank nodes trail.states ∙ sound.placed.whole;
      within = λ place there. rw (get_or-take start trail.path place 0 (omega (arith, there, long)))
          (sound.placed.within place (omega (arith, there, long, start-within)));
      waits = λ place there. waits place (omega (arith, there, long));
      at =
          λ node place is.
          at node place (waits-before start rank place (state_in trail.states node) (sym (state-now node) ∙ is));
    }
      where
        waits : (place : ℕ) → place < start → state_in states (slice_index path place) ≡ Waiting place
        waits place early =
            let old = sound.placed.waits place (omega (arith, early, start-within)) in
            rw (get_or-take start trail.path place 0 early)
            (state-now (slice_index trail.path place) ∙ ap (state_after start rank) old
            ∙ waits-after start rank place early)

        at : (node place : ℕ) → (state_in trail.states node ≡ Waiting place) × (place < start)
            → (place < length path) × (slice_index path place ≡ node)
        at node place was =
            let old = sound.placed.at node place was.0 in
            (omega (arith, was.1, long), get_or-take start trail.path place 0 was.1 ∙ old.1)

    parts : AreParts (length path) ends.front
    parts = record {
      rise = IsRising-front ends.front (start ∷ []) (rw ends.is at sound.parts.rise);
      within = rw long (below-last ends.front start (rw ends.is at sound.parts.rise));
      first =
          λ some. first (omega (arith, some, long))
          (Contains-push_cases ends.front start 0
          (subst (λ (xs : List ℕ). Contains xs 0) ends.is (sound.parts.first (omega (arith, start-within)))));
    }
      where
        first : 0 < start → Contains ends.front 0 ⊎ (start ≡ 0) → Contains ends.front 0
        first some (inl has) = has
        first some (inr none) = absurd (omega (arith, some, none))

    kept : (s : ℕ) → Contains ends.front s → Contains trail.parts s
    kept s has =
        subst (λ (xs : List ℕ). Contains xs s) (sym ends.is) (Contains-append_left ends.front (start ∷ []) s has)

    busy : AreBusy graph path passed_now trail.busy
    busy = record {
      rise = sound.busy.rise;
      within = rw long (idle start ends);
      done = λ place there out. done place (omega (arith, there, long)) out;
    }
      where
        done : (place : ℕ) → place < start → (Contains trail.busy place → ⊥)
            → graph.slots (slice_index path place) ≤ slice_index passed_now place
        done place early out =
            rw (get_or-take start trail.path place 0 early, get_or-take start trail.passed place 0 early)
            (sound.busy.done place (omega (arith, early, start-within)) out)

    met-after : (place : ℕ) (s : State) → IsMet trail.parts place s → IsMet ends.front place (state_after start rank s)
    met-after place New m = m
    met-after place (Ranked other) m = m
    met-after place (Waiting target) m = by (leb start target)
      where
        by : (b : Bool) → IsMet ends.front place (cond b (Ranked rank) (Waiting target))
        by true = tt
        by false = IsTogether-fewer trail.parts ends.front target place kept m

    passed : ArePassed graph states path passed_now ends.front
    passed = record {
      long = length-take-le start trail.passed (omega (arith, start-within, sound.passed.long)) ∙ sym long;
      met = λ place there slot arrow less is. met-now place (omega (arith, there, long)) slot arrow less is;
    }
      where
        met-now : (place : ℕ) → place < start → (slot : ℕ) (arrow : Arrow) → slot < slice_index passed_now place
            → IsArrow graph (slice_index path place) slot arrow
            → IsMet ends.front place (state_in states arrow.to)
        met-now place early slot arrow less is =
            let arrow_is : IsArrow graph (slice_index trail.path place) slot arrow =
            rw (get_or-take start trail.path place 0 early) at is in
            let slot_less : slot < slice_index trail.passed place =
            rw (get_or-take start trail.passed place 0 early) at less in
            let old = sound.passed.met place (omega (arith, early, start-within)) slot arrow slot_less arrow_is in
            rw (state-now arrow.to) (met-after place (state_in trail.states arrow.to) old)

    joined : AreJoined graph path ends.front
    joined low high low_in high_in near = by (omega (arith, low_in, long)) (omega (arith, high_in, long))
      where
        by : low < start → high < start → LeadsTo graph (slice_index path high) (slice_index path low)
        by low_early high_early =
            rw (get_or-take start trail.path low 0 low_early, get_or-take start trail.path high 0 high_early)
            (sound.joined low high (omega (arith, low_early, start-within)) (omega (arith, high_early, start-within))
            (λ s has after upto.
            gone s after upto
            (Contains-push_cases ends.front start s (subst (λ (xs : List ℕ). Contains xs s) ends.is has))))
          where
            gone : (s : ℕ) → low < s → s ≤ high → Contains ends.front s ⊎ (start ≡ s) → ⊥
            gone s after upto (inl has) = near s has after upto
            gone s after upto (inr same) = omega (arith, same, upto, high_early)

    ranked-now : (node r : ℕ) → state_in states node ≡ Ranked r
        → WasRanked start rank r (state_in trail.states node)
    ranked-now node r is = ranked-before start rank r (state_in trail.states node) (sym (state-now node) ∙ is)

    lets-over : (place : ℕ) → start ≤ place → (arrow : Arrow) (s : State) → IsOverArrow rank arrow s
        → IsMet trail.parts place s → LetsHave rank (fall_of arrow) (state_after start rank s)
    lets-over place late arrow New o m = absurd m
    lets-over place late arrow (Ranked other) o m = o
    lets-over place late arrow (Waiting target) o m =
        let weak : ◌≡◌ {A = ℕ} (fall_of arrow) 0 = rw o refl in
        rw (ranked-after start rank target (in-part target place late m)) (omega (arith, weak))

    fits : (node r slot : ℕ) (arrow : Arrow) → IsArrow graph node slot arrow
        → WasRanked start rank r (state_in trail.states node)
        → LetsHave r (fall_of arrow) (state_after start rank (state_in trail.states arrow.to))
    fits node r slot arrow there (inl old) =
        lets-after start rank r (fall_of arrow) (state_in trail.states arrow.to)
        (sound.ranked.fits node r old slot arrow there)
    fits node r slot arrow there (inr (place, waits, late, same)) =
        let at = sound.placed.at node place waits in
        let here : Contains nodes node = subst (λ (x : ℕ). Contains nodes x) at.1 (place-part place late at.0) in
        let o = All-contains (IsOver graph trail rank) nodes node over here slot arrow there in
        let m = met place late at.0 slot arrow (subst (λ (x : ℕ). IsArrow graph x slot arrow) (sym at.1) there) in
        rw same (lets-over place late arrow (state_in trail.states arrow.to) o m)

    least : (node r : ℕ) (others : List ℕ) → Fits graph others
        → WasRanked start rank r (state_in trail.states node)
        → r ≤ slice_index others node
    least node r others fit (inl old) = sound.ranked.least node r old others fit
    least node r others fit (inr (place, waits, late, same)) = by lowest
      where
        by : IsLowestOfSome graph nodes rank → r ≤ slice_index others node
        by (inl zero_is) = omega (arith, zero_is, same)
        by (inr (other, has, low)) =
            let at = sound.placed.at node place waits in
            let it = part-place other has in
            let led =
            sound.joined it.0 place it.2 at.0 (together it.0 place it.1) (slice_index others)
            (NeverRises-fits graph others fit) in
            omega (arith, low others fit, led, ap (slice_index others) at.1, ap (slice_index others) it.3, same)

    ranked : AreRanked graph states
    ranked = record {
      fits =
          λ node r is slot arrow there. rw (state-now arrow.to) (fits node r slot arrow there (ranked-now node r is));
      least = λ node r is others fit. least node r others fit (ranked-now node r is);
    }

    pub new_count-settled : new_count (settled trail start rank) ≡ new_count trail
    new_count-settled =
        new-rank_all rank nodes trail.states
        (λ k d within. known (get_or nodes k d) (part-place (get_or nodes k d) (Contains-get_or nodes k d within)))
      where
        known : (node : ℕ) → HasPlace trail start node
            → (node < length trail.states) × (is_new (state_in trail.states node) ≡ false)
        known node (place, late, within, is) =
            let inside = sound.placed.within place within in
            let waits = sound.placed.waits place within in
            let state_is : state_in trail.states node ≡ Waiting place = rw is at waits in
            (omega (arith, inside, is, sound.placed.whole), ap is_new state_is)

    small : AreSmall graph (settled trail start rank)
    small = record {
      few = sound.small.few;
      room = omega (arith, new_count-settled, long, start-within, sound.small.room);
      small = λ node r is. less node r (ranked-now node r is);
    }
      where
        less : (node r : ℕ) → WasRanked start rank r (state_in trail.states node)
            → r + (new_count (settled trail start rank) + length path) < graph.nodes
        less node r (inl old) = let before = sound.small.small node r old in
            omega (arith, before, new_count-settled, long, start-within)
        less node r (inr (place, waits, late, same)) = omega (arith, bound, same, new_count-settled, long, start-within)

    front : take (length trail.parts - 1) trail.parts ≡ ends.front
    front = front-is trail.parts ends.front start ends.is

    pub IsSound-settled : IsSound graph (settled trail start rank)
    IsSound-settled =
        record {
          placed = placed;
          parts = rw front parts;
          busy = busy;
          passed = rw front passed;
          joined =
              rw front joined;
          ranked = ranked;
          small = small;
        }

    pub work_left-settled : work_left (settled trail start rank) < work_left trail
    work_left-settled =
        omega (arith, new_count-settled, ap length front, ap length ends.is, length_push ends.front start)

    pub IsLater-settled : IsLater trail (settled trail start rank)
    IsLater-settled node was = rw (state-now node) (is_new-after start rank (state_in trail.states node) was)
