-- Looking at the cells that may be at risk, one after another.
use Rattle.std.proofs.Common.{◌≡◌, sym, ap, true, ◌∙◌, subst, ℕ, ◌+◌, ◌<◌, ◌≤◌, ◌⊎◌, inl, inr, List, [], ◌∷◌, ◌++◌, length, take, get_or, Some, None, length-append, arith}
use Rattle.std.specs.Prelude.{slice_get}
use Rattle.std.specs.List.{Contains}
use Rattle.std.proofs.lemmas.Bool.{cases_lt}
use Rattle.std.proofs.lemmas.List.{take_more}
use Rattle.std.proofs.lemmas.List.Elements.{Contains-append_left, Contains-append_right, Contains-push, Contains-push_cases}
use Rattle.std.proofs.lemmas.Option.{slice_get_within, slice_get-get_or}
use Rattle.cell_store.specs.declared.entry.Entry.{Entry}
use Rattle.rule_laws.specs.Feeding.{Feeds}
use Rattle.cube_space.specs.Cells.{IsCell, is_leaf_cell}
use Rattle.rule_laws.specs.Ordered.{IsWellFormed}
use Rattle.rule_model.specs.BoundModel.{BoundModel}
use Rattle.rule_model.specs.System.{system_of}
use Rattle.feed_map.specs.declared.growth.Growth.{Growth}
use Rattle.feed_map.specs.FedCells.{most_fed}
use Rattle.feed_map.specs.Inside.Gains.{HasCell, Grows, Gains, NoCell}
use Rattle.feed_map.specs.Inside.Follows.{FeedsFrom}
use Rattle.feed_map.specs.Inside.Risks.{AreAtRisk, AreOutside, HaveRisk, IsAgain, IsAgainOne, IsSure}
use Rattle.feed_sources.proofs.Members.{none-there}
use Rattle.feed_map.proofs.ChainFacts.{feeds-leaf}
use Rattle.feed_map.proofs.GainFacts.{gains-none, gains-as, gains-then, grows-then}
use Rattle.feed_map.proofs.FollowSteps.{get-front}

-- what some cell feeds is a leaf cell
pub from-leaf : (m : BoundModel) → IsWellFormed (system_of m) → (sources : List ℕ) (c : ℕ) → FeedsFrom m sources c → IsCell m.space c × (is_leaf_cell m.space c ≡ true)
unfolding system_of
from-leaf m formed sources c (x, has, feed) = feeds-leaf (system_of m) formed x c feed

module _ (m : BoundModel) (base : List ℕ) (stored : List Entry) where
  pub outside-none : (g : Growth) → AreOutside m base stored g []
  outside-none g = record { unsure = λ c none. absurd (none-there c none); followed = λ x c none. absurd (none-there x none) }

  pub outside-still : (g h : Growth) (risk : List ℕ) → Grows g h → AreOutside m base stored g risk → AreOutside m base stored h risk
  outside-still g h risk grows outside = record { unsure = outside.unsure; followed = λ x c has feed. grows.kept c (outside.followed x c has feed) }

  -- one cell more is at risk, and what it feeds was found
  pub outside-more : (g h : Growth) (risk more : List ℕ) (cell : ℕ) → (IsSure m base stored cell → ⊥) → more ≡ risk ++ cell ∷ [] → Gains (Feeds (system_of m) cell) g h
      → AreOutside m base stored g risk → AreOutside m base stored h more
  outside-more g h risk more cell unsure is gains outside = record {
    unsure = λ c has sure. elim (cases c has) [
      | inl old ↦ outside.unsure c old sure
      | inr same ↦ unsure (subst (IsSure m base stored) (sym same) sure)
    ];
    followed = λ x c has feed. elim (cases x has) [
      | inl old ↦ gains.grows.kept c (outside.followed x c old feed)
      | inr same ↦ gains.each c (subst (λ (y : ℕ). Feeds (system_of m) y c) (sym same) feed)
    ];
  }
    where
      cases : (c : ℕ) → Contains more c → Contains risk c ⊎ (cell ≡ c)
      cases c has = Contains-push_cases risk cell c (subst (λ (xs : List ℕ). Contains xs c) is has)

  -- those of the opened cells up to a place are sure or at risk
  abbrev pub AreLooked : Growth → List ℕ → ℕ → Type 0
  AreLooked growth risk places =
      (place x : ℕ) → place < places → slice_get growth.opened.items place ≡ Some x → IsSure m base stored x ⊎ Contains risk x

  pub looked-none : (g : Growth) (risk : List ℕ) → AreLooked g risk 0
  looked-none g risk place x low found = absurd (omega (arith, low))

  same-place : (g h : Growth) (n : ℕ) → Grows g h → n < length g.opened.items → slice_get h.opened.items n ≡ slice_get g.opened.items n
  same-place g h n grows low = ap (λ (xs : List ℕ). slice_get xs n) grows.opened.1 ∙ get-front g.opened.items grows.opened.0 n low

  module _ (f g h : Growth) (place : ℕ) (risk : List ℕ) (grows : Grows f g) (looked : AreLooked g risk place) (within : place ≤ length g.opened.items) (settled : Gains NoCell g h) where
    longer : Grows f h
    longer = grows-then f g h grows settled.grows

    settled-looked : AreLooked h risk place
    settled-looked n x low found = looked n x low (sym (same-place g h n settled.grows (omega (arith, low, within))) ∙ found)

    module _ (cell : ℕ) (found : slice_get h.opened.items place ≡ Some cell) where
      -- the measure falls
      pub looked-room : length f.known ≤ most_fed → place < length f.opened.items + most_fed
      looked-room few =
          let low = slice_get_within h.opened.items place cell found in
          let count = longer.opened.2.counted in
          let most = longer.few few in
          let long = ap length longer.opened.1 in
          omega (arith, low, count, most, long, length-append f.opened.items longer.opened.0)

      module _ (k : Growth) (more : List ℕ) (last : Grows h k) (kept : (c : ℕ) → Contains risk c → Contains more c) (one : IsSure m base stored cell ⊎ Contains more cell) where
        pub looked-grows : Grows f k
        looked-grows = grows-then f h k longer last

        pub looked-within : place + 1 ≤ length k.opened.items
        looked-within =
            let low = slice_get_within h.opened.items place cell found in
            let long = ap length last.opened.1 in
            omega (arith, low, long, length-append h.opened.items last.opened.0)

        pub looked-more : AreLooked k more (place + 1)
        looked-more n x low at = by (cases_lt n place)
          where
            far : slice_get h.opened.items n ≡ Some x
            far =
                let less = slice_get_within h.opened.items place cell found in
                sym (same-place h k n last (omega (arith, low, less))) ∙ at

            by : (n < place) ⊎ (place ≤ n) → IsSure m base stored x ⊎ Contains more x
            by (inl before) = elim (settled-looked n x before far) [ inl sure ↦ inl sure | inr has ↦ inr (kept x has) ]
            by (inr past) =
                let same : n ≡ place = omega (arith, past, low) in
                let some : Some cell ≡ Some x = sym found ∙ ap (slice_get h.opened.items) (sym same) ∙ far in
                let own : cell ≡ x = cc in
                subst (λ (y : ℕ). IsSure m base stored y ⊎ Contains more y) own one

    -- where no more is opened, each cell that was found is sure or at risk
    pub looked-end : ((c : ℕ) → Contains f.known c → Contains f.opened.items c) → AreOutside m base stored g risk → slice_get h.opened.items place ≡ None → h.found.items ≡ [] → HaveRisk m base stored f risk
    looked-end begun outside none empty = record {
      first = λ c has. each c (longer.kept c has);
      next = λ x c has feed. each c (settled.grows.kept c (outside.followed x c has feed));
      unsure = outside.unsure;
    }
      where
        past : length h.opened.items ≤ place
        past =
            elim (cases_lt place (length h.opened.items)) [
              | inl low ↦ absurd (let some = slice_get-get_or h.opened.items place 0 low in let clash : None ≡ Some (get_or h.opened.items place 0) = sym none ∙ some in cc)
              | inr high ↦ high
            ]

        listed : (c : ℕ) → Contains h.opened.items c → IsSure m base stored c ⊎ Contains risk c
        listed c (n, low, is) = settled-looked n c (omega (arith, low, past)) (slice_get-get_or h.opened.items n c low ∙ ap Some is)

        each : (c : ℕ) → HasCell h c → IsSure m base stored c ⊎ Contains risk c
        each c (inr found) = absurd (none-there c (subst (λ (cells : List ℕ). Contains cells c) empty found))
        each c (inl known) = listed c (subst (λ (cells : List ℕ). Contains cells c) (sym longer.opened.1) (elim (longer.opened.2.only c known) [
          | inl before ↦ Contains-append_left f.opened.items longer.opened.0 c (begun c before)
          | inr more ↦ Contains-append_right f.opened.items longer.opened.0 c more
        ]))

  -- what the cells that went feed may be at risk
  module _ (z a : Growth) (went risk : List ℕ) (gains : Gains (FeedsFrom m went) z a) where
    pub all-open : z.known ≡ [] → z.opened.items ≡ [] → (c : ℕ) → Contains a.known c → Contains a.opened.items c
    all-open known opened c has =
        let is : a.opened.items ≡ gains.grows.opened.0 = gains.grows.opened.1 ∙ ap (λ (xs : List ℕ). xs ++ gains.grows.opened.0) opened in
        subst (λ (cells : List ℕ). Contains cells c) (sym is) (elim (gains.grows.opened.2.only c has) [
          | inl none ↦ absurd (none-there c (subst (λ (cells : List ℕ). Contains cells c) known none))
          | inr more ↦ more
        ])

    pub few-known : z.known ≡ [] → length a.known ≤ most_fed
    few-known known = gains.grows.few (omega (arith, ap length known))

    pub at-risk : HaveRisk m base stored a risk → AreAtRisk m base stored went risk
    at-risk have = record {
      first = λ x c has feed. have.first c (gains.each c (x, has, feed));
      next = have.next;
      unsure = have.unsure;
    }

-- ---- those that come again

module _ (m : BoundModel) (kept : List ℕ) where
  pub again-none : (g : Growth) → Gains (IsAgain m kept []) g g
  again-none g = gains-none (IsAgain m kept []) (λ c again. none-there c again.0) g

  pub again-one : (cell : ℕ) → FeedsFrom m kept cell → (g h : Growth) → Gains (λ other. cell ≡ other) g h → Gains (IsAgainOne m kept cell) g h
  again-one cell from = gains-as (λ other. cell ≡ other) (IsAgainOne m kept cell) (λ c is. (is, subst (FeedsFrom m kept) is from)) (λ c one. one.0)

  pub again-not : (cell : ℕ) → (FeedsFrom m kept cell → ⊥) → (g : Growth) → Gains (IsAgainOne m kept cell) g g
  again-not cell none g = gains-none (IsAgainOne m kept cell) (λ c one. none (subst (FeedsFrom m kept) (sym one.0) one.1)) g

  pub again-more : (risk : List ℕ) (place x : ℕ) → place < length risk → x ≡ get_or risk place 0 → (a b c : Growth) → Gains (IsAgain m kept (take place risk)) a b → Gains (IsAgainOne m kept x) b c
      → Gains (IsAgain m kept (take (place + 1) risk)) a c
  again-more risk place x low is = gains-then (IsAgain m kept (take place risk)) (IsAgainOne m kept x) (IsAgain m kept (take (place + 1) risk))
      (λ c one. (subst (λ (xs : List ℕ). Contains xs c) (sym taken) (Contains-append_left (take place risk) (x ∷ []) c one.0), one.1))
      (λ c one. (subst (λ (xs : List ℕ). Contains xs c) (sym taken) (subst (Contains (take place risk ++ x ∷ [])) one.0 (Contains-push (take place risk) x)), one.1))
      (λ c one. elim (Contains-push_cases (take place risk) x c (subst (λ (xs : List ℕ). Contains xs c) taken one.0)) [ inl before ↦ inl (before, one.1) | inr same ↦ inr (same, one.1) ])
    where
      taken : take (place + 1) risk ≡ take place risk ++ x ∷ []
      taken = take_more risk place 0 low ∙ ap (λ (y : ℕ). take place risk ++ y ∷ []) (sym is)
