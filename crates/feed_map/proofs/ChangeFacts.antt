-- What is fed after a change: what is kept, what comes again, and what grows from there.
use Rattle.std.proofs.Common.{◌≡◌, refl, sym, ap, ◌∙◌, subst, ℕ, zero, suc, ◌≤◌, ◌⊎◌, inl, inr, Bool, true, false, List, [], ◌++◌, length, Ok, arith}
use Rattle.std.specs.Prelude.{IsSome, ◌==◌}
use Rattle.std.specs.List.{Contains, list_any}
use Rattle.std.proofs.lemmas.List.Elements.{Contains-append_left, Contains-append_right, Contains-append_cases}
use Rattle.cell_store.specs.declared.entry.Entry.{Entry}
use Rattle.cell_store.specs.Entries.{cells_of}
use Rattle.cell_store.specs.Cells.{IsUnion, IsDifference}
use Rattle.rule_laws.specs.Feeding.{IsDenseCell, Feeds, Leads, IsFed}
use Rattle.rule_model.specs.BoundModel.{BoundModel}
use Rattle.rule_model.specs.System.{system_of}
use Rattle.stored_laws.specs.Stored.{stored_in}
use Rattle.feed_map.specs.declared.growth.Growth.{Growth}
use Rattle.feed_map.specs.FedCells.{AreFedCells, HaveLeaves, IsStoredChange, most_fed}
use Rattle.feed_map.specs.Inside.Gains.{HasCell, Gains}
use Rattle.feed_map.specs.Inside.Follows.{AreOpen, AreOpened, EndsChain, FeedsFrom, IsVerdict}
use Rattle.feed_map.specs.Inside.Risks.{AreAtRisk, IsAgain, IsSure}
use Rattle.feed_sources.proofs.Members.{none-there}
use Rattle.feed_map.proofs.Counts.{within-counts}
use Rattle.feed_map.proofs.ChainFacts.{fed-next, fed-from-stored, fed-ends}
use Rattle.feed_map.proofs.FedFacts.{entry-stored, stored-entry, listed-has, listed-is, from-fed, all-found}

-- a number is in a list or not
is-listed : (xs : List ℕ) (c : ℕ) → Contains xs c ⊎ (Contains xs c → ⊥)
is-listed xs c = by (list_any (λ e. e == c) xs) refl
  where
    by : (b : Bool) → list_any (λ e. e == c) xs ≡ b → Contains xs c ⊎ (Contains xs c → ⊥)
    by true on = inl (listed-has xs c on)
    by false off = inr (λ has. let clash : true ≡ false = sym (listed-is xs c has) ∙ off in cc)

-- what is fed over nothing is fed over all
always-fed : (m : BoundModel) (entries : List Entry) (c : ℕ) → IsFed (system_of m) (stored_in []) c → IsFed (system_of m) (stored_in entries) c
always-fed m entries c (inl dense) = inl dense
always-fed m entries c (inr (n, a, inl (cell, some), chain)) = absurd (none-there a (stored-entry [] a some))
always-fed m entries c (inr (n, a, inr dense, chain)) = inr (n, a, inr dense, chain)

module _ (m : BoundModel) (before after : List Entry) (went came base fed risk kept : List ℕ) (change : IsStoredChange before after went came)
    (was : AreFedCells m before fed) (always : AreFedCells m [] base) (danger : AreAtRisk m base after went risk) (left : IsDifference fed risk kept) where
  sure-fed : (c : ℕ) → IsSure m base after c → IsFed (system_of m) (stored_in after) c
  sure-fed c (inl has) = always-fed m after c ((always.fed c).0 has)
  sure-fed c (inr from) = from-fed m after (cells_of after) (entry-stored after) c from

  -- what was fed is fed, or at risk
  chain-end : (n x c : ℕ) → IsFed (system_of m) (stored_in after) x ⊎ Contains risk x → Leads (system_of m) n x c → IsFed (system_of m) (stored_in after) c ⊎ Contains risk c
  chain-end zero x c start same = subst (λ (y : ℕ). IsFed (system_of m) (stored_in after) y ⊎ Contains risk y) same start
  chain-end (suc n) x c start (y, chain, last) =
      elim (chain-end n x y start chain) [
        | inl is ↦ inl (fed-next (system_of m) (stored_in after) y c is last)
        | inr has ↦ elim (danger.next y c has last) [ inl sure ↦ inl (sure-fed c sure) | inr more ↦ inr more ]
      ]

  begun : (a x : ℕ) → IsSome (stored_in before a) → Feeds (system_of m) a x → IsFed (system_of m) (stored_in after) x ⊎ Contains risk x
  begun a x some feed =
      elim (change.gone a (stored-entry before a some)) [
        | inl still ↦ inl (fed-from-stored (system_of m) (stored_in after) a x (entry-stored after a still) feed)
        | inr gone ↦ elim (danger.first a x gone feed) [ inl sure ↦ inl (sure-fed x sure) | inr more ↦ inr more ]
      ]

  fed-or-risk : (c : ℕ) → IsFed (system_of m) (stored_in before) c → IsFed (system_of m) (stored_in after) c ⊎ Contains risk c
  fed-or-risk c is =
      let ends = fed-ends (system_of m) (stored_in before) (λ x. IsFed (system_of m) (stored_in after) x ⊎ Contains risk x) (λ x dense. inl (inl dense)) begun c is in
      chain-end ends.0 ends.1 c ends.2 ends.3

  kept-fed : (c : ℕ) → Contains kept c → IsFed (system_of m) (stored_in after) c
  kept-fed c has =
      let one = (left.cells c).0 has in
      elim (fed-or-risk c ((was.fed c).0 one.0)) [
        | inl is ↦ is
        | inr gone ↦ absurd (one.1 gone)
      ]

  kept-or-risk : (c : ℕ) → IsFed (system_of m) (stored_in before) c → Contains kept c ⊎ Contains risk c
  kept-or-risk c is =
      elim (is-listed risk c) [
        | inl gone ↦ inr gone
        | inr safe ↦ inl ((left.cells c).1 ((was.fed c).1 is, safe))
      ]

  kept-if-sure : (c : ℕ) → IsFed (system_of m) (stored_in before) c → IsSure m base after c → Contains kept c
  kept-if-sure c is sure =
      elim (kept-or-risk c is) [
        | inl has ↦ has
        | inr gone ↦ absurd (danger.unsure c gone sure)
      ]

  kept-few : length fed ≤ most_fed → length kept ≤ most_fed
  kept-few few = let counts = within-counts fed kept was.rising left.rising (λ c has. ((left.cells c).0 has).0) in omega (arith, counts, few)

  module _ (z a b : Growth) (few : length fed ≤ most_fed) (union : IsUnion kept [] z.known) (opened : z.opened.items ≡ []) (found : z.found.items ≡ [])
      (again : Gains (IsAgain m kept risk) z a) (more : Gains (FeedsFrom m came) a b) where
    known-kept : (x : ℕ) → Contains z.known x → Contains kept x
    known-kept x has = elim ((union.cells x).0 has) [ inl is ↦ is | inr none ↦ absurd (none-there x none) ]

    kept-there : (x : ℕ) → Contains kept x → HasCell b x
    kept-there x has = more.grows.kept x (again.grows.kept x (inl ((union.cells x).1 (inl has))))

    start-fed : (x : ℕ) → HasCell z x → IsFed (system_of m) (stored_in after) x
    start-fed x (inl has) = kept-fed x (known-kept x has)
    start-fed x (inr has) = absurd (none-there x (subst (λ (cells : List ℕ). Contains cells x) found has))

    again-fed : (x : ℕ) → HasCell a x → IsFed (system_of m) (stored_in after) x
    again-fed x has =
        elim (again.only x has) [
          | inl start ↦ start-fed x start
          | inr one ↦ fed-next (system_of m) (stored_in after) one.1.0 x (kept-fed one.1.0 one.1.1) one.1.2
        ]

    known-fed : (x : ℕ) → HasCell b x → IsFed (system_of m) (stored_in after) x
    known-fed x has =
        elim (more.only x has) [
          | inl start ↦ again-fed x start
          | inr from ↦ from-fed m after came (λ y new. entry-stored after y (change.stored y new)) x from
        ]

    -- what a kept cell feeds is there
    next-there : (x c : ℕ) → Contains kept x → Feeds (system_of m) x c → HasCell b c
    next-there x c has feed =
        elim (kept-or-risk c (fed-next (system_of m) (stored_in before) x c ((was.fed x).0 ((left.cells x).0 has).0) feed)) [
          | inl is ↦ kept-there c is
          | inr gone ↦ more.grows.kept c (again.each c (gone, (x, has, feed)))
        ]

    opened-is : b.opened.items ≡ again.grows.opened.0 ++ more.grows.opened.0
    opened-is = more.grows.opened.1 ∙ ap (λ (xs : List ℕ). xs ++ more.grows.opened.0) (again.grows.opened.1 ∙ ap (λ (xs : List ℕ). xs ++ again.grows.opened.0) opened)

    pub regrowth-open : AreOpen m b
    regrowth-open = record {
      known = λ x has. elim (Contains-append_cases again.grows.opened.0 more.grows.opened.0 x (subst (λ (cells : List ℕ). Contains cells x) opened-is has)) [
        | inl first ↦ more.grows.opened.2.kept x (again.grows.opened.2.there x first)
        | inr second ↦ more.grows.opened.2.there x second
      ];
      others = λ x has. elim (more.grows.opened.2.only x has) [
        | inl before ↦ elim (again.grows.opened.2.only x before) [
          | inl start ↦ inr (λ c feed. next-there x c (known-kept x start) feed)
          | inr one ↦ inl (subst (λ (cells : List ℕ). Contains cells x) (sym opened-is) (Contains-append_left again.grows.opened.0 more.grows.opened.0 x one))
        ]
        | inr one ↦ inl (subst (λ (cells : List ℕ). Contains cells x) (sym opened-is) (Contains-append_right again.grows.opened.0 more.grows.opened.0 x one))
      ];
    }

    start-few : length z.known ≤ most_fed
    start-few = let counts = within-counts kept z.known left.rising union.rising known-kept in let low = kept-few few in omega (arith, counts, low)

    pub regrowth-few : length b.known ≤ most_fed
    regrowth-few = more.grows.few (again.grows.few start-few)

    dense-there : (x : ℕ) → IsDenseCell (system_of m) x → HasCell b x
    dense-there x dense = kept-there x (kept-if-sure x (inl dense) (inl ((always.fed x).1 (inl dense))))

    stored-there : (s x : ℕ) → IsSome (stored_in after s) → Feeds (system_of m) s x → HasCell b x
    stored-there s x some feed =
        elim (change.new s (stored-entry after s some)) [
          | inl old ↦ kept-there x (kept-if-sure x (fed-from-stored (system_of m) (stored_in before) s x (entry-stored before s old) feed) (inr (s, stored-entry after s some, feed)))
          | inr new ↦ more.each x (s, new, feed)
        ]

    pub all-regrown : (h : Growth) → Gains (EndsChain m b) b h → h.found.items ≡ [] → IsVerdict m after (Ok h.known)
    all-regrown h ends none =
        all-found m after b h known-fed dense-there stored-there (ends.grows.rising (more.grows.rising (again.grows.rising union.rising))) (ends.grows.few regrowth-few) ends none

  -- the totals that are left were opened, where none is at risk
  pub left-opened : (totals these : List ℕ) (z : Growth) → HaveLeaves m totals fed → ((t : ℕ) → Contains these t → Contains totals t × (risk ≡ [])) → IsUnion kept [] z.known → AreOpened m these z
  left-opened totals these z have same union t c has under =
      let one = same t has in
      let all : Contains fed c = have t c one.0 under in
      inl ((union.cells c).1 (inl ((left.cells c).1 (all, λ gone. none-there c (subst (λ (cells : List ℕ). Contains cells c) one.1 gone)))))
