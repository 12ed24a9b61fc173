-- A walk that comes to a new node stays sound.
use Rattle.std.proofs.Common.{◌≡◌, ◌≢◌, ◌⊎◌, inl, inr, ℕ, ◌+◌, ◌<◌, ◌≤◌, List, [], ◌∷◌, ◌++◌, Contains}
use Rattle.std.proofs.Common.{length, get_or, set, cond, false, refl, sym, ◌∙◌, ap, subst, arith, slice_index}
use Rattle.std.proofs.Math.ListN.{length-set}
use Rattle.std.proofs.lemmas.Bool.{cases_lt, cases_eq}
use Rattle.std.proofs.lemmas.List.{get_or-set_same, get_or-set_other, get_or_append_left, get_or_push, length_push}
use Rattle.std.proofs.lemmas.List.Elements.{Contains-append_left, Contains-push, All-push}
use Rattle.std.proofs.lemmas.List.Elements.{All-weaker}
use Rattle.std.proofs.lemmas.List.Sums.{sum_by-set}
use Rattle.least_ranks.specs.declared.arrow.Arrow.{Arrow}
use Rattle.least_ranks.specs.declared.state.State.{State}
use Rattle.least_ranks.specs.declared.state.State.TheVariants.{New, Waiting, Ranked}
use Rattle.least_ranks.specs.Graph.{Arrows, IsArrow, fall_of}
use Rattle.least_ranks.specs.Inside.States.{is_new}
use Rattle.least_ranks.specs.Inside.Trails.{Trail, state_of, state_in, entered, new_count, work_left}
use Rattle.least_ranks.specs.Inside.Sound.{LeadsTo, IsTogether, IsMet, LetsHave, ArePlaced, AreParts}
use Rattle.least_ranks.specs.Inside.Sound.{AreBusy, ArePassed, AreJoined, AreRanked, AreSmall, IsSound, IsLater}
use Rattle.least_ranks.specs.Inside.Sound.{StaysAt}
use Rattle.least_ranks.proofs.Rises.{IsPlaceOf, IsRising-push, get_or-push_cases}
use Rattle.least_ranks.proofs.Trodden.{IsMet-later}

module _ (graph : Arrows) (trail : Trail) (node : ℕ) (sound : IsSound graph trail) (within : node < graph.nodes)
    (fresh : state_of trail node ≡ New) where
  abbrev states : List State
  states = set trail.states node (Waiting (length trail.path))

  abbrev path : List ℕ
  path = trail.path ++ node ∷ []

  abbrev parts_now : List ℕ
  parts_now = trail.parts ++ length trail.path ∷ []

  abbrev busy_now : List ℕ
  busy_now = trail.busy ++ length trail.path ∷ []

  inside : node < length trail.states
  inside = omega (arith, within, sound.placed.whole)

  here : state_in states node ≡ Waiting (length trail.path)
  here = get_or-set_same trail.states node (Waiting (length trail.path)) New inside

  elsewhere : (k : ℕ) → k ≢ node → state_in states k ≡ state_in trail.states k
  elsewhere k other = get_or-set_other trail.states node k (Waiting (length trail.path)) New other

  -- what isn't new is another node
  another : (k : ℕ) → is_new (state_of trail k) ≡ false → k ≢ node
  another k not_new same = let e : is_new New ≡ false = rw (same, fresh) at not_new in cc

  placed : ArePlaced graph (entered trail node).states (entered trail node).path
  placed = record {
    whole = length-set trail.states node (Waiting (length trail.path)) ∙ sound.placed.whole;
    within = λ k there. elim (get_or-push_cases trail.path node k there) [
      | inl at ↦ (let before = sound.placed.within k at.0 in omega (arith, at.1, before))
      | inr at ↦ omega (arith, at.1, within)
    ];
    waits = λ k there. waits k (get_or-push_cases trail.path node k there);
    at = λ k p is. at k p is (cases_eq k node);
  }
    where
      waits : (k : ℕ) → IsPlaceOf trail.path node k
          → state_in states (slice_index path k) ≡ Waiting k
      waits k (inl there) =
          let old = sound.placed.waits k there.0 in
          let other : slice_index trail.path k ≢ node = another (slice_index trail.path k) (rw old refl) in
          rw there.1 (elsewhere (slice_index trail.path k) other ∙ old)
      waits k (inr there) = rw there.1 (here ∙ ap Waiting (sym there.0))

      at : (k p : ℕ) → state_in states k ≡ Waiting p → (k ≡ node) ⊎ (k ≡ node → ⊥)
          → (p < length path) × (slice_index path p ≡ k)
      at k p is (inl same) =
          let now : state_in states node ≡ Waiting p = rw same at is in
          let last : length trail.path ≡ p = cc (here, now) in
          (omega (arith, length_push trail.path node, last), get_or_push trail.path node 0 p last ∙ sym same)
      at k p is (inr other) =
          let old = sound.placed.at k p (sym (elsewhere k other) ∙ is) in (
            omega (arith, length_push trail.path node, old.0),
            get_or_append_left trail.path (node ∷ []) 0 p old.0
                ∙ old.1,
          )

  parts : AreParts (length (entered trail node).path) (entered trail node).parts
  parts = record {
    rise = IsRising-push trail.parts (length trail.path) sound.parts.rise sound.parts.within;
    within = All-push (λ s. s < length path) trail.parts (length trail.path)
        (All-weaker (λ s. s < length trail.path) (λ s. s < length path)
        (λ s less. omega (arith, less, length_push trail.path node)) trail.parts sound.parts.within)
        (omega (arith, length_push trail.path node));
    first = λ some. first (cases_lt 0 (length trail.path));
  }
    where
      first : (0 < length trail.path) ⊎ (length trail.path ≤ 0) → Contains parts_now 0
      first (inl some) = Contains-append_left trail.parts (length trail.path ∷ []) 0 (sound.parts.first some)
      first (inr none) =
          let zero_is : length trail.path ≡ 0 = omega arith in
          let P : ℕ → Type 0 = λ x. Contains parts_now x in
          subst P zero_is (Contains-push trail.parts (length trail.path))

  busy : AreBusy graph (entered trail node).path (entered trail node).passed (entered trail node).busy
  busy = record {
    rise = IsRising-push trail.busy (length trail.path) sound.busy.rise sound.busy.within;
    within = All-push (λ s. s < length path) trail.busy (length trail.path)
        (All-weaker (λ s. s < length trail.path) (λ s. s < length path)
        (λ s less. omega (arith, less, length_push trail.path node)) trail.busy sound.busy.within)
        (omega (arith, length_push trail.path node));
    done = λ k there out. done k out (get_or-push_cases trail.path node k there);
  }
    where
      done : (k : ℕ) → (Contains busy_now k → ⊥)
          → IsPlaceOf trail.path node k
          → graph.slots (slice_index path k) ≤ slice_index (trail.passed ++ 0 ∷ []) k
      done k out (inl there) =
          let old =
          sound.busy.done k there.0 (λ has. out (Contains-append_left trail.busy (length trail.path ∷ []) k has)) in
          rw (there.1, get_or_append_left trail.passed (0 ∷ []) 0 k (omega (arith, there.0, sound.passed.long))) old
      done k out (inr there) =
          let P : ℕ → Type 0 = λ x. Contains busy_now x in
          absurd (out (subst P (sym there.0) (Contains-push trail.busy (length trail.path))))

  passed : ArePassed graph (entered trail node).states (entered trail node).path (entered trail node).passed
      (entered trail node).parts
  passed = record {
    long = omega (arith, length_push trail.passed 0, length_push trail.path node, sound.passed.long);
    met = λ k there slot arrow less is. met k slot arrow less is (get_or-push_cases trail.path node k there);
  }
    where
      met : (k slot : ℕ) (arrow : Arrow) → slot < slice_index (trail.passed ++ 0 ∷ []) k
          → IsArrow graph (slice_index path k) slot arrow
          → IsPlaceOf trail.path node k
          → IsMet parts_now k (state_in states arrow.to)
      met k slot arrow less is (inl there) =
          let slots = get_or_append_left trail.passed (0 ∷ []) 0 k (omega (arith, there.0, sound.passed.long)) in
          let arrow_is : IsArrow graph (slice_index trail.path k) slot arrow = rw there.1 at is in
          let old = sound.passed.met k there.0 slot arrow (omega (arith, less, slots)) arrow_is in
          let met_old : (s : State) → IsMet trail.parts k s → s ≡ New
          → ⊥ = λ s m e. (let n : IsMet trail.parts k New = rw e at m in n) in
          let other : arrow.to ≢ node =
          λ same. met_old (state_in trail.states arrow.to) old (ap (state_in trail.states) same ∙ fresh) in
          rw (elsewhere arrow.to other)
          (IsMet-later trail.parts (length trail.path) k (state_in trail.states arrow.to) there.0 old)
      met k slot arrow less is (inr there) =
          let slots = get_or_push trail.passed 0 0 k (sound.passed.long ∙ sym there.0) in
          absurd (omega (arith, less, slots))

  -- one node less is new
  pub new_count-entered : new_count (entered trail node) + 1 ≡ new_count trail
  new_count-entered =
      let step = sum_by-set (λ s. cond (is_new s) 1 0) trail.states node (Waiting (length trail.path)) New inside in
      let was : ◌≡◌ {A = ℕ} (cond (is_new (get_or trail.states node New)) 1 0) 1 = rw fresh refl in
      omega (arith, step, was)

  module _ (led : (k : ℕ) → k < length trail.path → LeadsTo graph (slice_index trail.path k) node) where
    joined : AreJoined graph (entered trail node).path (entered trail node).parts
    joined low high low_in high_in together =
        by (get_or-push_cases trail.path node low low_in) (get_or-push_cases trail.path node high high_in)
      where
        old : IsTogether trail.parts low high
        old start there after upto =
            together start (Contains-append_left trail.parts (length trail.path ∷ []) start there) after upto

        by : IsPlaceOf trail.path node low
            → IsPlaceOf trail.path node high
            → LeadsTo graph (slice_index path high) (slice_index path low)
        by (inl a) (inl b) = rw (a.1, b.1) (sound.joined low high a.0 b.0 old)
        by (inr a) (inl b) = rw (a.1, b.1) (led high b.0)
        by (inl a) (inr b) =
            absurd
            (together (length trail.path) (Contains-push trail.parts (length trail.path)) a.0 (omega (arith, b.0)))
        by (inr a) (inr b) = λ height never. omega (arith, ap height a.1, ap height b.1)

    ranked : AreRanked graph (entered trail node).states
    ranked = record {
      fits = λ k rank is slot arrow there. fits k rank slot arrow there (was k rank is);
      least = λ k rank is others fit. sound.ranked.least k rank (was k rank is) others fit;
    }
      where
        was : (k rank : ℕ) → state_in states k ≡ Ranked rank → state_in trail.states k ≡ Ranked rank
        was k rank is = by (cases_eq k node)
          where
            by : (k ≡ node) ⊎ (k ≡ node → ⊥) → state_in trail.states k ≡ Ranked rank
            by (inl same) = let now : state_in states node ≡ Ranked rank = rw same at is in absurd (cc (here, now))
            by (inr other) = sym (elsewhere k other) ∙ is

        fits : (k rank slot : ℕ) (arrow : Arrow) → IsArrow graph k slot arrow → state_in trail.states k ≡ Ranked rank
            → LetsHave rank (fall_of arrow) (state_in states arrow.to)
        fits k rank slot arrow there is =
            let old = sound.ranked.fits k rank is slot arrow there in
            let no : (s : State) → LetsHave rank (fall_of arrow) s → s ≡ New
            → ⊥ = λ s m e. (let n : LetsHave rank (fall_of arrow) New = rw e at m in n) in
            let other : arrow.to ≢ node =
            λ same. no (state_in trail.states arrow.to) old (ap (state_in trail.states) same ∙ fresh) in
            rw (elsewhere arrow.to other) old

    small : AreSmall graph (entered trail node)
    small = record {
      few = sound.small.few;
      room = omega (arith, new_count-entered, length_push trail.path node, sound.small.room);
      small =
          λ k rank is.
          (let old = sound.small.small k rank (was k rank is (cases_eq k node)) in
          omega (arith, old, new_count-entered, length_push trail.path node));
    }
      where
        was : (k rank : ℕ) → state_in states k ≡ Ranked rank → (k ≡ node) ⊎ (k ≡ node → ⊥)
            → state_in trail.states k ≡ Ranked rank
        was k rank is (inl same) = let now : state_in states node ≡ Ranked rank = rw same at is in
            absurd (cc (here, now))
        was k rank is (inr other) = sym (elsewhere k other) ∙ is

    pub IsSound-entered : IsSound graph (entered trail node)
    IsSound-entered =
        record {
          placed = placed;
          parts = parts;
          busy = busy;
          passed = passed;
          joined = joined;
          ranked = ranked;
          small =
              small;
        }

  pub state-entered : state_of (entered trail node) node ≡ Waiting (length trail.path)
  state-entered = here

  pub IsLater-entered : IsLater trail (entered trail node)
  IsLater-entered k not_new = rw (elsewhere k (another k not_new)) not_new

  pub work_left-entered : work_left (entered trail node) < work_left trail
  work_left-entered =
      let count = new_count-entered in
      omega (arith, count, length_push trail.busy (length trail.path), length_push trail.parts (length trail.path))

  -- what leads to the new node is passed rightly
  pub IsMet-entered : (k : ℕ) → k < length trail.path
      → IsMet (entered trail node).parts k (state_of (entered trail node) node)
  IsMet-entered k there = rw here (λ start has after upto. omega (arith, there, after, upto))

  pub StaysAt-entered : (k : ℕ) → k < length trail.path → StaysAt trail (entered trail node) k
  StaysAt-entered k there = record {
    within = omega (arith, there, length_push trail.path node);
    node = get_or_append_left trail.path (node ∷ []) 0 k there;
    slots = get_or_append_left trail.passed (0 ∷ []) 0 k (omega (arith, there, sound.passed.long));
  }
