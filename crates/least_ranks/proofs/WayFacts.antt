-- The search for a walk from a node to another one.
use Rattle.std.proofs.Common.{◌≡◌, ◌≢◌, ◌⊎◌, inl, inr, ℕ, ◌+◌, ◌<◌, ◌≤◌, Bool, true, false, cond, not, List, []}
use Rattle.std.proofs.Common.{◌∷◌, ◌++◌, Contains, length, get_or, set, replicate, count_by, refl, sym}
use Rattle.std.proofs.Common.{◌∙◌, ap, subst, arith}
use Rattle.std.proofs.Math.ListN.{length-set}
use Rattle.std.proofs.lemmas.Bool.{cases_eq, cases_lt}
use Rattle.std.proofs.lemmas.List.{get_or-set_same, get_or-set_other, get_or-replicate, get_or_past}
use Rattle.std.proofs.lemmas.List.{length-replicate}
use Rattle.std.proofs.lemmas.List.Elements.{Contains-append_left, Contains-push, Contains-push_cases}
use Rattle.std.proofs.lemmas.List.Sums.{sum_by-set}
use Rattle.least_ranks.specs.declared.arrow.Arrow.{Arrow}
use Rattle.least_ranks.specs.declared.arrow.Step.{Step}
use Rattle.least_ranks.specs.Graph.{Arrows, IsArrow, IsWalk}
use Rattle.least_ranks.specs.Inside.Sound.{NeverRises, LeadsTo}
use Rattle.least_ranks.specs.Inside.Ways.{is_seen, IsSeenUpTo, IsUnseen}

-- a walk with one more step, and without its last
pub IsWalk-push : (graph : Arrows) (steps : List Step) (step : Step) (from : ℕ) (arrow : Arrow)
    → IsArrow graph step.node step.slot arrow
    → IsWalk graph steps from step.node → IsWalk graph (steps ++ step ∷ []) from arrow.to
IsWalk-push graph [] step from arrow there walk = (sym walk, (arrow, there, refl))
IsWalk-push graph (first ∷ steps) step from arrow there walk =
    (walk.0, (walk.1.0, walk.1.1, IsWalk-push graph steps step walk.1.0.to arrow there walk.1.2))

pub IsWalk-pop : (graph : Arrows) (steps : List Step) (step : Step) (from to : ℕ)
    → IsWalk graph (steps ++ step ∷ []) from to
    → IsWalk graph steps from step.node × (step.node < graph.nodes)
IsWalk-pop graph [] step from to walk = (sym walk.0, walk.1.1.node_within)
IsWalk-pop graph (first ∷ steps) step from to walk = let rest =
    IsWalk-pop graph steps step walk.1.0.to to walk.1.2 in ((walk.0, (walk.1.0, walk.1.1, rest.0)), rest.1)

-- what is known of a node that is seen: the search is at it, or comes back to it, or all its arrows lead to nodes
-- that are seen
abbrev pub IsKnown : Arrows → List Bool → List Step → ℕ → ℕ → Type 0
IsKnown graph seen steps here node =
    (node ≡ here)
    ⊎ (((step : Step) × Contains steps step × (step.node ≡ node)) ⊎ IsSeenUpTo graph seen node (graph.slots node))

-- what holds at each turn of the search
pub record IsSearch (graph : Arrows) (from to : ℕ) (seen : List Bool) (steps : List Step) (here : Step) : Type 0 where
  pub whole : length seen ≡ graph.nodes
  pub begun : is_seen seen from ≡ true
  pub within : here.node < graph.nodes
  pub walk : IsWalk graph steps from here.node
  pub passed : IsSeenUpTo graph seen here.node here.slot
  pub left : (step : Step) → Contains steps step → IsSeenUpTo graph seen step.node step.slot
  pub known : (node : ℕ) → is_seen seen node ≡ true → IsKnown graph seen steps here.node node
  pub found : is_seen seen to ≡ true → here.node ≡ to

-- how many nodes aren't seen
abbrev pub unseen_count : List Bool → ℕ
unseen_count seen = count_by not seen

module _ (seen : List Bool) (next : ℕ) (within : next < length seen) where
  seen-here : is_seen (set seen next true) next ≡ true
  seen-here = get_or-set_same seen next true false within

  seen-elsewhere : (k : ℕ) → k ≢ next → is_seen (set seen next true) k ≡ is_seen seen k
  seen-elsewhere k other = get_or-set_other seen next k true false other

  seen-still : (k : ℕ) → is_seen seen k ≡ true → is_seen (set seen next true) k ≡ true
  seen-still k is =
      elim
      (cases_eq k next)
      [ inl same ↦ ap (is_seen (set seen next true)) same ∙ seen-here | inr other ↦ seen-elsewhere k other ∙ is ]

  -- it is the new one, or was seen before
  seen-before : (k : ℕ) → is_seen (set seen next true) k ≡ true → (k ≡ next) ⊎ (is_seen seen k ≡ true)
  seen-before k is =
      elim (cases_eq k next) [ inl same ↦ inl same | inr other ↦ inr (sym (seen-elsewhere k other) ∙ is) ]

  pub unseen_count-set : is_seen seen next ≡ false → unseen_count (set seen next true) + 1 ≡ unseen_count seen
  unseen_count-set unseen =
      let step = sum_by-set (λ b. cond (not b) 1 0) seen next true false within in
      let was : ◌≡◌ {A = ℕ} (cond (not (get_or seen next false)) 1 0) 1 = rw unseen refl in
      omega (arith, step, was)

-- nothing is seen at first
none-seen : (n k : ℕ) → is_seen (replicate n false) k ≡ false
none-seen n k =
    elim
    (cases_lt k n) [
      | inl there ↦ get_or-replicate n k false false there
      | inr past ↦ get_or_past (replicate n false) k false
          (omega (arith, past, length-replicate n false))
    ]

pub first-search : (graph : Arrows) (from to : ℕ) → from < graph.nodes
    → IsSearch graph from to (set (replicate graph.nodes false) from true) [] (record { node = from; slot = 0 })
first-search graph from to within = record {
  whole = length-set (replicate graph.nodes false) from true ∙ length-replicate graph.nodes false;
  begun = seen-here (replicate graph.nodes false) from there;
  within = within;
  walk = refl;
  passed = λ slot arrow less is. absurd (omega (arith, less));
  left = λ step has. absurd (omega (arith, has.1));
  known = λ node is. inl (alone node (seen-before (replicate graph.nodes false) from there node is));
  found = λ is. sym (alone to (seen-before (replicate graph.nodes false) from there to is));
}
  where
    there : from < length (replicate graph.nodes false)
    there = omega (arith, within, length-replicate graph.nodes false)

    alone : (k : ℕ) → (k ≡ from) ⊎ (is_seen (replicate graph.nodes false) k ≡ true) → k ≡ from
    alone k (inl same) = same
    alone k (inr is) = let no : false ≡ true = sym (none-seen graph.nodes k) ∙ is in absurd (cc)

module _ (graph : Arrows) (from to : ℕ) (seen : List Bool) (steps : List Step) (here : Step)
    (search_ : IsSearch graph from to seen steps here) (apart : here.node ≡ to → ⊥) where
  -- on to a node that isn't seen
  module _ (slot next : ℕ) (unseen : IsUnseen graph seen here.node slot next) where
    inside : next < length seen
    inside = omega (arith, unseen.within, search_.whole)

    more : (node count : ℕ) → IsSeenUpTo graph seen node count → IsSeenUpTo graph (set seen next true) node count
    more node count upto s arrow less is = seen-still seen next inside arrow.to (upto s arrow less is)

    here-step : Step
    here-step = record { node = here.node; slot = slot }

    pub on-search : IsSearch graph from to (set seen next true)
        (steps ++ record { node = here.node; slot = slot } ∷ []) (record { node = next; slot = 0 })
    on-search = record {
      whole = length-set seen next true ∙ search_.whole;
      begun = seen-still seen next inside from search_.begun;
      within = unseen.within;
      walk =
          rw (← unseen.leads)
          (IsWalk-push graph steps
          (record { node = here.node; slot = slot }) from unseen.arrow unseen.there search_.walk);
      passed = λ s arrow less is. absurd (omega (arith, less));
      left = λ step has. left step (Contains-push_cases steps (record { node = here.node; slot = slot }) step has);
      known = λ node is. known node (seen-before seen next inside node is);
      found = λ is. found (seen-before seen next inside to is);
    }
      where
        left : (step : Step) → Contains steps step ⊎ (record { node = here.node; slot = slot } ≡ step)
            → IsSeenUpTo graph (set seen next true) step.node step.slot
        left step (inl has) = more step.node step.slot (search_.left step has)
        left step (inr same) =
            subst (λ (s : Step). IsSeenUpTo graph (set seen next true) s.node s.slot) same
            (more here.node slot unseen.before)

        known : (node : ℕ) → (node ≡ next) ⊎ (is_seen seen node ≡ true)
            → IsKnown graph (set seen next true) (steps ++ record { node = here.node; slot = slot } ∷ []) next node
        known node (inl same) = inl same
        known node (inr is) = by (search_.known node is)
          where
            by : IsKnown graph seen steps here.node node
                → IsKnown graph (set seen next true) (steps ++ record { node = here.node; slot = slot } ∷ []) next node
            by (inl at) =
                inr
                (inl (
                  record { node = here.node; slot = slot },
                  Contains-push steps
                      (record { node = here.node; slot = slot }),
                  sym at,
                ))
            by (inr (inl (step, has, at))) =
                inr
                (inl (step, Contains-append_left steps (record { node = here.node; slot = slot } ∷ []) step has, at))
            by (inr (inr upto)) = inr (inr (more node (graph.slots node) upto))

        found : (to ≡ next) ⊎ (is_seen seen to ≡ true) → next ≡ to
        found (inl same) = sym same
        found (inr is) = absurd (apart (search_.found is))

  -- all arrows of the node lead to nodes that are seen
  module _ (all : IsSeenUpTo graph seen here.node (graph.slots here.node)) where
    -- back to the node that the search came from
    pub back-search : (rest : List Step) (step : Step) → steps ≡ rest ++ step ∷ []
        → IsSearch graph from to seen rest step
    back-search rest step is = record {
      whole = search_.whole;
      begun = search_.begun;
      within = popped.1;
      walk = popped.0;
      passed = search_.left step (rw is (Contains-push rest step));
      left = λ s has. search_.left s (rw is (Contains-append_left rest (step ∷ []) s has));
      known = λ node seen_is. known node (search_.known node seen_is);
      found = λ seen_is. absurd (apart (search_.found seen_is));
    }
      where
        popped : IsWalk graph rest from step.node × (step.node < graph.nodes)
        popped = IsWalk-pop graph rest step from here.node (rw is at search_.walk)

        known : (node : ℕ) → IsKnown graph seen steps here.node node → IsKnown graph seen rest step.node node
        known node (inl at) = inr (inr (rw at all))
        known node (inr (inr upto)) = inr (inr upto)
        known node (inr (inl (s, has, at))) = by (Contains-push_cases rest step s (rw is at has))
          where
            by : Contains rest s ⊎ (step ≡ s) → IsKnown graph seen rest step.node node
            by (inl before) = inr (inl (s, before, at))
            by (inr same) = inl (sym at ∙ sym (ap (λ (x : Step). x.node) same))

    -- what is seen leads only to what is seen, so that what isn't seen stands higher
    abbrev height : ℕ → ℕ
    height node = cond (is_seen seen node) 0 1

    -- the search is over: no walk leads to the other node
    module _ (none : steps ≡ []) where
      seen-all : (node : ℕ) → IsKnown graph seen steps here.node node → IsSeenUpTo graph seen node (graph.slots node)
      seen-all node (inl at) = rw at all
      seen-all node (inr (inl (s, has, at))) = let no : Contains [] s = rw none at has in absurd (omega (arith, no.1))
      seen-all node (inr (inr upto)) = upto

      never : NeverRises graph height
      never node slot arrow is = by (is_seen seen node) refl
        where
          most : (b : Bool) → cond b 0 1 ≤ 1
          most true = omega arith
          most false = omega arith

          by : (b : Bool) → is_seen seen node ≡ b → height arrow.to ≤ height node
          by true e = let there = seen-all node (search_.known node e) slot arrow is.slot_within is in
              rw (e, there) (omega arith)
          by false e = rw e (most (is_seen seen arrow.to))

      low : height from ≡ 0
      low = rw search_.begun refl

      high : height to ≡ 1
      high = by (is_seen seen to) refl
        where
          by : (b : Bool) → is_seen seen to ≡ b → ◌≡◌ {A = ℕ} (cond (is_seen seen to) 0 1) 1
          by true e = absurd (apart (search_.found e))
          by false e = rw e refl

      pub no-way : LeadsTo graph from to → ⊥
      no-way leads = let least = leads height never in omega (arith, least, low, high)
