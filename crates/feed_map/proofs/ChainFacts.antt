-- Chains of feeds, and what is fed.
use Rattle.std.proofs.Common.{◌≡◌, refl, sym, subst, ℕ, zero, suc, inl, inr, Bool, true, false, [], ◌∷◌, map}
use Rattle.std.specs.Prelude.{IsSome}
use Rattle.std.specs.List.{Contains}
use Rattle.std.proofs.lemmas.List.Elements.{All-contains, All-map}
use Rattle.rule_laws.specs.RuleSystem.{RuleSystem, Stored, IsCell, IsLeafCell}
use Rattle.rule_laws.specs.Ordered.{IsWellFormed}
use Rattle.rule_laws.specs.Feeding.{leaves_of, IsDenseCell, Feeds, Leads, IsFed}
use Rattle.feed_sources.proofs.Members.{none-there, front-or-behind}

module _ (w : RuleSystem) where
  -- a feed before a chain
  pub leads-after : (n a x c : ℕ) → Feeds w a x → Leads w n x c → Leads w (suc n) a c
  leads-after zero a x c first same = (a, refl, subst (Feeds w a) same first)
  leads-after (suc n) a x c first (y, chain, last) = (y, leads-after n a x y first chain, last)

  -- the first feed of a chain, and what comes after it
  pub first-feed : (n a c : ℕ) → Leads w (suc n) a c → (x : ℕ) × Feeds w a x × Leads w n x c
  first-feed zero a c (x, same, last) = (c, subst (λ y. Feeds w y c) (sym same) last, refl)
  first-feed (suc n) a c (x, chain, last) =
      let before = first-feed n a x chain in
      (before.0, before.1, (x, before.2, last))

  pub feeds-source : (x c : ℕ) → Feeds w x c → IsLeafCell w x
  feeds-source x c (k, feed, low, is, by) = by.0

  module _ (stored : Stored) where
    pub fed-next : (x c : ℕ) → IsFed w stored x → Feeds w x c → IsFed w stored c
    fed-next x c (inl dense) feed = inr (0, x, inr dense, (x, refl, feed))
    fed-next x c (inr (n, a, start, chain)) feed = inr (suc n, a, start, (x, chain, feed))

    pub fed-on : (n x c : ℕ) → IsFed w stored x → Leads w n x c → IsFed w stored c
    fed-on zero x c fed same = subst (IsFed w stored) same fed
    fed-on (suc n) x c fed (y, chain, last) = fed-next y c (fed-on n x y fed chain) last

    pub fed-from-stored : (a x : ℕ) → IsSome (stored a) → Feeds w a x → IsFed w stored x
    fed-from-stored a x some feed = inr (0, a, inl ((feeds-source a x feed).0, some), (a, refl, feed))

    -- each fed cell is the end of a chain from cells among which are the dense ones and those that stored ones feed
    pub fed-ends : (P : ℕ → Type 0) → ((x : ℕ) → IsDenseCell w x → P x) → ((a x : ℕ) → IsSome (stored a) → Feeds w a x → P x)
        → (c : ℕ) → IsFed w stored c → (n x : ℕ) × P x × Leads w n x c
    fed-ends P dense fed c (inl is) = (0, c, dense c is, refl)
    fed-ends P dense fed c (inr (n, a, inl start, chain)) =
        let first = first-feed n a c chain in
        (n, first.0, fed a first.0 start.1 first.1, first.2)
    fed-ends P dense fed c (inr (n, a, inr start, chain)) = (suc n, a, dense a start, chain)

  module _ (formed : IsWellFormed w) where
    leaf-of : (t c : ℕ) → IsCell w t → Contains (leaves_of w t) c → IsLeafCell w c
    leaf-of t c cell has = by (w.is_leaf t) refl
      where
        by : (b : Bool) → w.is_leaf t ≡ b → IsLeafCell w c
        by true leaf =
            let one : Contains (t ∷ []) c = rw leaf at has in
            elim (front-or-behind t [] c one) [
              | inl is ↦ subst (IsLeafCell w) is (cell, leaf)
              | inr none ↦ absurd (none-there c none)
            ]
        by false total =
            let among : Contains (map (λ pair. pair.0) (w.below t)) c = rw total at has in
            All-contains (IsLeafCell w) (map (λ pair. pair.0) (w.below t)) c (All-map (IsLeafCell w) (λ pair. pair.0) (w.below t) (λ k d low. (formed.leaves_below t cell k d low).0)) among

    pub feeds-leaf : (x c : ℕ) → Feeds w x c → IsLeafCell w c
    feeds-leaf x c (k, feed, low, is, (source, on, (t, target, has))) =
        leaf-of t c (formed.target_cell feed.target x t source.0 target) has

    pub fed-leaf : (stored : Stored) (c : ℕ) → IsFed w stored c → IsLeafCell w c
    fed-leaf stored c (inl dense) = dense.0
    fed-leaf stored c (inr (n, a, start, (x, chain, last))) = feeds-leaf x c last
