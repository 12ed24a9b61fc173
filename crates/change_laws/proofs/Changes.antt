-- Why the fed cells after a change are those that are kept, those that come again, and what grows from there.
use Rattle.std.proofs.Common.{◌≡◌, refl, sym, subst, ℕ, zero, suc, ◌⊎◌, inl, inr, List}
use Rattle.std.specs.Prelude.{◌↔◌, IsSome}
use Rattle.std.specs.List.{Contains}
use Rattle.rule_laws.specs.RuleSystem.{RuleSystem, Stored, IsCell}
use Rattle.rule_laws.specs.Feeding.{IsDenseCell, Feeds, Leads, IsStart, IsFed}
use Rattle.change_laws.specs.Change.{AreFed, AreSure, IsChange, IsSureBy}
use Rattle.change_laws.specs.Regrowth.{AreAgain, AreAtRisk, HaveGrown, IsRegrowth, IsRoot, IsStillFed, kept_of}
use Rattle.change_laws.proofs.Listed.{kept-fed, kept-safe, kept-or-risk}

module _ (w : RuleSystem) where
  source-cell : (x c : ℕ) → Feeds w x c → IsCell w x
  source-cell x c (k, feed, low, is, by) = by.0.0

  module _ (stored : Stored) where
    fed-next : (x c : ℕ) → IsFed w stored x → Feeds w x c → IsFed w stored c
    fed-next x c (inl dense) feed = inr (0, x, inr dense, (x, refl, feed))
    fed-next x c (inr (n, a, start, chain)) feed = inr (suc n, a, start, (x, chain, feed))

    fed-from : (x c : ℕ) → IsSome (stored x) → Feeds w x c → IsFed w stored c
    fed-from x c some feed = inr (0, x, inl (source-cell x c feed, some), (x, refl, feed))

    fed-on : (n x c : ℕ) → IsFed w stored x → Leads w n x c → IsFed w stored c
    fed-on zero x c fed same = subst (IsFed w stored) same fed
    fed-on (suc n) x c fed (y, chain, last) = fed-next y c (fed-on n x y fed chain) last

    fed-chain : (n x c : ℕ) → IsSome (stored x) → Leads w (suc n) x c → IsFed w stored c
    fed-chain zero x c some (y, same, last) = fed-from x c some (subst (λ (z : ℕ). Feeds w z c) (sym same) last)
    fed-chain (suc n) x c some (y, chain, last) = fed-next y c (fed-chain n x y some chain) last

    -- what holds of dense cells and of what stored ones feed, and goes on by feeds, holds of all fed cells
    by-chains : (P : ℕ → Type 0) → ((c : ℕ) → IsDenseCell w c → P c) → ((x c : ℕ) → IsSome (stored x) → Feeds w x c → P c)
        → ((x c : ℕ) → P x → Feeds w x c → P c) → (c : ℕ) → IsFed w stored c → P c
    by-chains P dense begun next c (inl is) = dense c is
    by-chains P dense begun next c (inr (n, a, start, chain)) = on n c chain
      where
        on : (n c : ℕ) → Leads w (suc n) a c → P c
        on zero c (x, same, last) =
            let feed : Feeds w a c = subst (λ (z : ℕ). Feeds w z c) (sym same) last in
            elim start [ inl one ↦ begun a c one.1 feed | inr is ↦ next a c (dense a is) feed ]
        on (suc n) c (x, chain, last) = next x c (on n x chain) last

    pub looks-fed : (looks c : ℕ) → IsSureBy w stored looks c → IsFed w stored c
    looks-fed zero c (inl dense) = inl dense
    looks-fed zero c (inr (x, some, feed)) = fed-from x c some feed
    looks-fed (suc looks) c (inl fewer) = looks-fed looks c fewer
    looks-fed (suc looks) c (inr (x, sure, feed)) = fed-next x c (looks-fed looks x sure) feed

  pub more-fed : (some more : Stored) → ((x : ℕ) → IsSome (some x) → IsSome (more x)) → (c : ℕ) → IsFed w some c → IsFed w more c
  more-fed some more stored =
      by-chains some (IsFed w more) (λ c dense. inl dense) (λ x c is feed. fed-from more x c (stored x is) feed) (fed-next more)

  module _ (before after : Stored) (went came fed sure risk again : List ℕ)
      (change : IsChange before after went came) (are : AreFed w before fed) (surely : AreSure w after sure)
      (at_risk : AreAtRisk w after went sure risk) (back : AreAgain w after (kept_of fed risk) risk again) where
    -- what was fed is fed, or at risk
    fed-or-risk : (c : ℕ) → IsFed w before c → IsFed w after c ⊎ Contains risk c
    fed-or-risk = by-chains before (λ c. IsFed w after c ⊎ Contains risk c) (λ c dense. inl (inl dense)) begun next
      where
        begun : (x c : ℕ) → IsSome (before x) → Feeds w x c → IsFed w after c ⊎ Contains risk c
        begun x c some feed =
            elim (change.gone x some) [
              | inl still ↦ inl (fed-from after x c still feed)
              | inr went ↦ elim (at_risk.first x c went feed) [ inl is ↦ inl (surely.fed c is) | inr is ↦ inr is ]
            ]

        next : (x c : ℕ) → IsFed w after x ⊎ Contains risk x → Feeds w x c → IsFed w after c ⊎ Contains risk c
        next x c (inl is) feed = inl (fed-next after x c is feed)
        next x c (inr is) feed =
            elim (at_risk.next x c is feed) [
              | inl still ↦ inl (fed-from after x c still feed)
              | inr rest ↦ elim rest [ inl is ↦ inl (surely.fed c is) | inr is ↦ inr is ]
            ]

    kept-is-fed : (c : ℕ) → Contains (kept_of fed risk) c → IsFed w after c
    kept-is-fed c has =
        elim (fed-or-risk c ((are c).0 (kept-fed fed risk c has))) [
          | inl is ↦ is
          | inr gone ↦ absurd (kept-safe fed risk c has gone)
        ]

    still-is-fed : (c : ℕ) → IsStillFed w after (kept_of fed risk) c → IsFed w after c
    still-is-fed c (x, source, feed) =
        elim source [ inl some ↦ fed-from after x c some feed | inr has ↦ fed-next after x c (kept-is-fed x has) feed ]

    -- what was fed and is still fed is kept or comes again
    there : (x c : ℕ) → IsFed w before c → IsSome (after x) ⊎ Contains (kept_of fed risk) x → Feeds w x c → Contains (kept_of fed risk) c ⊎ Contains again c
    there x c was source feed =
        elim (kept-or-risk fed risk c ((are c).1 was)) [
          | inl has ↦ inl has
          | inr gone ↦ inr (back.each c gone (x, source, feed))
        ]

    pub is-regrowth : IsRegrowth w after came (kept_of fed risk) again
    is-regrowth = record {
      kept_fed = kept-is-fed;
      again_fed = λ c has. still-is-fed c (back.fed c has);
      came_stored = change.stored;
      dense = λ c dense. elim (kept-or-risk fed risk c ((are c).1 (inl dense))) [
        | inl has ↦ has
        | inr gone ↦ absurd (at_risk.others c gone (surely.dense c dense))
      ];
      stored = λ x c some feed. elim (change.new x some) [
        | inl was ↦ inr (there x c (fed-from before x c was feed) (inl some) feed)
        | inr new ↦ inl new
      ];
      next = λ x c has feed. there x c (fed-next before x c ((are x).0 (kept-fed fed risk x has)) feed) (inr has) feed;
    }

  module _ (after : Stored) (came kept again cells : List ℕ) (regrowth : IsRegrowth w after came kept again) (grown : HaveGrown w came kept again cells) where
    pub grown-fed : (c : ℕ) → Contains cells c → IsFed w after c
    grown-fed c has =
        elim (grown.only c has) [
          | inl is ↦ regrowth.kept_fed c is
          | inr rest ↦ elim rest [
            | inl is ↦ regrowth.again_fed c is
            | inr chain ↦ from chain.0 chain.1 chain.2 chain.3
          ]
        ]
      where
        from : (n x : ℕ) → IsRoot came kept again x → Leads w (suc n) x c → IsFed w after c
        from n x (inl is) chain = fed-chain after n x c (regrowth.came_stored x is) chain
        from n x (inr (inl is)) chain = fed-on after (suc n) x c (regrowth.kept_fed x is) chain
        from n x (inr (inr is)) chain = fed-on after (suc n) x c (regrowth.again_fed x is) chain

    pub fed-grown : (c : ℕ) → IsFed w after c → Contains cells c
    fed-grown = by-chains after (Contains cells) (λ c dense. grown.kept_there c (regrowth.dense c dense)) begun grown.next
      where
        begun : (x c : ℕ) → IsSome (after x) → Feeds w x c → Contains cells c
        begun x c some feed =
            elim (regrowth.stored x c some feed) [
              | inl is ↦ grown.fed x c is feed
              | inr rest ↦ elim rest [ inl is ↦ grown.kept_there c is | inr is ↦ grown.again_there c is ]
            ]

    pub grown-are : AreFed w after cells
    grown-are c = (grown-fed c, fed-grown c)
