-- What the feeders of a cell's cube feed is what all feeders feed from it.
use Rattle.std.proofs.Common.{◌≡◌, refl, sym, ap, ◌∙◌, subst, ℕ, zero, suc, ◌+◌, ◌<◌, ◌⊎◌, inl, inr, true, ◌&&◌, List, [], ◌∷◌, ◌++◌, length, take, get_or, eqb, arith}
use Rattle.std.specs.List.{Any, Contains}
use Rattle.std.proofs.lemmas.Bool.{and_parts, and_from, eqb-true, eq-eqb}
use Rattle.std.proofs.lemmas.List.{take_more}
use Rattle.cube_space.specs.Layout.{axes}
use Rattle.cube_space.specs.Cells.{IsCell, cube_of, elements_of, is_leaf_cell}
use Rattle.cube_space.proofs.Places.{cell-place}
use Rattle.rule_laws.specs.RuleSystem.{Feed}
use Rattle.rule_laws.specs.Feeding.{FeedsBy, Feeds}
use Rattle.rule_model.specs.declared.rules.Feeder.{Feeder}
use Rattle.rule_model.specs.BoundModel.{BoundModel, rules_of}
use Rattle.rule_model.specs.Areas.{in_source_sets}
use Rattle.rule_model.specs.System.{system_of, feed_of, cube_feeds, cubes_of}
use Rattle.feed_sources.specs.Feeders.{FeedsByOne, StandsFor}
use Rattle.feed_sources.specs.Sources.{IsSource}
use Rattle.feed_sources.proofs.Members.{some-front, some-behind, some-cases, some-of-none, some-left, some-right, some-parts, some-of-lists, list-of-some, some-mapped, some-unmapped}
pub use Rattle.dim_weights.proofs.ByLevel.{range-contains as range-has}

module _ (m : BoundModel) (x c : ℕ) where
  abbrev By : Feed → Type 0
  By feed = FeedsBy (system_of m) feed x c

  -- a feeder has sources in its cube alone
  pub source-cube : (cube : ℕ) (feeder : Feeder) → By (feed_of m.space cube feeder) → cube_of m.space x ≡ cube
  source-cube cube feeder by =
      let same = and_parts (eqb (cube_of m.space x) cube) _ (and_parts (eqb (cube_of m.space x) cube && is_leaf_cell m.space x) _ by.1).0 in
      eqb-true (cube_of m.space x) cube same.0

  pub feeds-one : Feeds (system_of m) x c → FeedsByOne m (cube_of m.space x) (rules_of m (cube_of m.space x)).feeders x c
  unfolding system_of
  feeds-one feeds =
      let found = list-of-some By (cube_feeds m) (cubes_of m) feeds in
      let one = some-unmapped By (feed_of m.space found.0) (rules_of m found.0).feeders found.1 in
      let same : cube_of m.space x ≡ found.0 = source-cube found.0 one.1 one.4 in
      subst (λ (cube : ℕ). FeedsByOne m cube (rules_of m cube).feeders x c) (sym same) one

  pub one-feeds : IsCell m.space x → FeedsByOne m (cube_of m.space x) (rules_of m (cube_of m.space x)).feeders x c → Feeds (system_of m) x c
  unfolding system_of
  one-feeds cell one =
      let there = (cell-place m.space x cell).place.there in
      some-of-lists By (cube_feeds m) (cubes_of m) (cube_of m.space x) (range-has (length m.space.cubes) (cube_of m.space x) there)
      (some-mapped By (feed_of m.space (cube_of m.space x)) (rules_of m (cube_of m.space x)).feeders one)

  -- no feeder feeds where there are none
  pub feeds-some : Feeds (system_of m) x c → (feeder : Feeder) × Contains (rules_of m (cube_of m.space x)).feeders feeder
  feeds-some feeds = let one = feeds-one feeds in (one.1, (one.0, one.2, one.3))

  -- ---- one feeder more

  pub more-parts : (cube : ℕ) (feeders : List Feeder) (n : ℕ) (feeder : Feeder) → n < length feeders → feeder ≡ get_or feeders n feeder
      → FeedsByOne m cube (take (n + 1) feeders) x c → FeedsByOne m cube (take n feeders) x c ⊎ By (feed_of m.space cube feeder)
  more-parts cube feeders n feeder low is more =
      let split : FeedsByOne m cube (take n feeders ++ feeder ∷ []) x c =
      subst (λ (fs : List Feeder). FeedsByOne m cube fs x c) (take_more feeders n feeder low ∙ ap (λ f. take n feeders ++ f ∷ []) (sym is)) more in
      elim (some-parts (λ f. By (feed_of m.space cube f)) (take n feeders) (feeder ∷ []) split) [
        | inl before ↦ inl before
        | inr (zero, f, l, same, by) ↦ inr (subst (λ (g : Feeder). By (feed_of m.space cube g)) (sym same) by)
        | inr (suc k, f, l, same, by) ↦ absurd (omega (arith, l))
      ]

  pub more-from : (cube : ℕ) (feeders : List Feeder) (n : ℕ) (feeder : Feeder) → n < length feeders → feeder ≡ get_or feeders n feeder
      → FeedsByOne m cube (take n feeders) x c ⊎ By (feed_of m.space cube feeder) → FeedsByOne m cube (take (n + 1) feeders) x c
  more-from cube feeders n feeder low is either =
      let P : Feeder → Type 0 = λ f. By (feed_of m.space cube f) in
      let split : FeedsByOne m cube (take n feeders ++ feeder ∷ []) x c = elim either [
        | inl before ↦ some-left P (take n feeders) (feeder ∷ []) before
        | inr by ↦ some-right P (take n feeders) (feeder ∷ []) (some-front P feeder [] by)
      ] in
      subst (λ (fs : List Feeder). FeedsByOne m cube fs x c) (sym (take_more feeders n feeder low ∙ ap (λ f. take n feeders ++ f ∷ []) (sym is))) split

  -- ---- what one feeder feeds

  module _ (cube : ℕ) (feeder : Feeder) (cell : IsCell m.space x) (leaf : is_leaf_cell m.space x ≡ true) (own : cube_of m.space x ≡ cube) where
    pub by-source : By (feed_of m.space cube feeder) → in_source_sets (axes m.space cube) feeder.area.sets (elements_of m.space x) ≡ true
    by-source by = (and_parts (eqb (cube_of m.space x) cube && is_leaf_cell m.space x) _ by.1).1

    pub by-target : By (feed_of m.space cube feeder) → StandsFor m feeder.target x c
    unfolding system_of
    by-target by = by.2

    pub target-by : in_source_sets (axes m.space cube) feeder.area.sets (elements_of m.space x) ≡ true → StandsFor m feeder.target x c → By (feed_of m.space cube feeder)
    unfolding system_of
    target-by on stands =
        let same : eqb (cube_of m.space x) cube ≡ true = rw own (eq-eqb cube cube refl) in
        ((cell, leaf), and_from _ _ (and_from _ _ same leaf) on, stands)

-- ---- cells in the area of a feeder

module _ (m : BoundModel) (x : ℕ) where
  abbrev pub Has : Feed → Type 0
  Has feed = feed.source x ≡ true

  -- in the area of one of these feeders of a cube
  abbrev pub HasOne : ℕ → List Feeder → Type 0
  HasOne cube feeders = Any (λ feeder. Has (feed_of m.space cube feeder)) feeders

  pub source-one : IsSource (system_of m) x → HasOne (cube_of m.space x) (rules_of m (cube_of m.space x)).feeders
  unfolding system_of
  source-one source =
      let found = list-of-some Has (cube_feeds m) (cubes_of m) source.1 in
      let one = some-unmapped Has (feed_of m.space found.0) (rules_of m found.0).feeders found.1 in
      let same : cube_of m.space x ≡ found.0 =
      eqb-true (cube_of m.space x) found.0 (and_parts (eqb (cube_of m.space x) found.0) _ (and_parts (eqb (cube_of m.space x) found.0 && is_leaf_cell m.space x) _ one.4).0).0 in
      subst (λ (cube : ℕ). HasOne cube (rules_of m cube).feeders) (sym same) one

  pub one-source : IsCell m.space x → is_leaf_cell m.space x ≡ true → HasOne (cube_of m.space x) (rules_of m (cube_of m.space x)).feeders → IsSource (system_of m) x
  unfolding system_of
  one-source cell leaf one =
      let there = (cell-place m.space x cell).place.there in
      let some = some-of-lists Has (cube_feeds m) (cubes_of m) (cube_of m.space x) (range-has (length m.space.cubes) (cube_of m.space x) there)
      (some-mapped Has (feed_of m.space (cube_of m.space x)) (rules_of m (cube_of m.space x)).feeders one) in
      ((cell, leaf), some)

  module _ (cube : ℕ) (feeder : Feeder) (leaf : is_leaf_cell m.space x ≡ true) (own : cube_of m.space x ≡ cube) where
    pub has-source : in_source_sets (axes m.space cube) feeder.area.sets (elements_of m.space x) ≡ true → Has (feed_of m.space cube feeder)
    has-source on =
        let same : eqb (cube_of m.space x) cube ≡ true = rw own (eq-eqb cube cube refl) in
        and_from _ _ (and_from _ _ same leaf) on

    pub source-has : Has (feed_of m.space cube feeder) → in_source_sets (axes m.space cube) feeder.area.sets (elements_of m.space x) ≡ true
    source-has has = (and_parts (eqb (cube_of m.space x) cube && is_leaf_cell m.space x) _ has).1

  pub source-cell : IsSource (system_of m) x → IsCell m.space x
  unfolding system_of
  source-cell source = source.0.0

  pub source-leaf : IsSource (system_of m) x → is_leaf_cell m.space x ≡ true
  unfolding system_of
  source-leaf source = source.0.1

  -- what feeds is in the area of a feeder
  pub feeds-source : (c : ℕ) → Feeds (system_of m) x c → IsSource (system_of m) x
  feeds-source c (k, feed, low, is, by) = (by.0, (k, feed, low, is, by.1))

module _ (m : BoundModel) (x cube : ℕ) (feeders : List Feeder) (own : cube ≡ cube_of m.space x) (are : feeders ≡ (rules_of m cube).feeders) where
  pub whole-source : IsCell m.space x → is_leaf_cell m.space x ≡ true → HasOne m x cube feeders → IsSource (system_of m) x
  whole-source cell leaf one =
      let all : HasOne m x cube (rules_of m cube).feeders = subst (λ (fs : List Feeder). HasOne m x cube fs) are one in
      one-source m x cell leaf (subst (λ (k : ℕ). HasOne m x k (rules_of m k).feeders) own all)

  pub source-whole : IsSource (system_of m) x → HasOne m x cube feeders
  source-whole source =
      let all : HasOne m x cube (rules_of m cube).feeders = subst (λ (k : ℕ). HasOne m x k (rules_of m k).feeders) (sym own) (source-one m x source) in
      subst (λ (fs : List Feeder). HasOne m x cube fs) (sym are) all

-- what feeds is a cell of a cube
pub feeds-cube : (m : BoundModel) (x c : ℕ) → Feeds (system_of m) x c → cube_of m.space x < length m.space.cubes
unfolding system_of
feeds-cube m x c (k, feed, low, is, by) = (cell-place m.space x by.0.0).place.there

pub feeds-below : (m : BoundModel) (x c : ℕ) → Feeds (system_of m) x c → IsCell m.space x
unfolding system_of
feeds-below m x c (k, feed, low, is, by) = by.0.0

pub feeds-leaf-cell : (m : BoundModel) (x c : ℕ) → Feeds (system_of m) x c → is_leaf_cell m.space x ≡ true
unfolding system_of
feeds-leaf-cell m x c (k, feed, low, is, by) = by.0.1

-- what the first so many feeders feed, all of them feed
pub taken-one : (m : BoundModel) (cube : ℕ) (feeders : List Feeder) (n x c : ℕ) → FeedsByOne m cube (take n feeders) x c → FeedsByOne m cube feeders x c
taken-one m cube feeders zero x c one = absurd (some-of-none (λ f. FeedsBy (system_of m) (feed_of m.space cube f) x c) one)
taken-one m cube [] (suc n) x c one = one
taken-one m cube (f ∷ feeders) (suc n) x c one =
    let P : Feeder → Type 0 = λ g. FeedsBy (system_of m) (feed_of m.space cube g) x c in
    elim (some-cases P f (take n feeders) one) [
      | inl here ↦ some-front P f feeders here
      | inr later ↦ some-behind P f feeders (taken-one m cube feeders n x c later)
    ]

module _ (m : BoundModel) (x c cube : ℕ) (feeders : List Feeder) (own : cube ≡ cube_of m.space x) (are : feeders ≡ (rules_of m cube).feeders) where
  pub whole-feeds : IsCell m.space x → FeedsByOne m cube feeders x c → Feeds (system_of m) x c
  whole-feeds cell one =
      let all : FeedsByOne m cube (rules_of m cube).feeders x c = subst (λ (fs : List Feeder). FeedsByOne m cube fs x c) are one in
      one-feeds m x c cell (subst (λ (k : ℕ). FeedsByOne m k (rules_of m k).feeders x c) own all)

  pub feeds-whole : Feeds (system_of m) x c → FeedsByOne m cube feeders x c
  feeds-whole feeds =
      let all : FeedsByOne m cube (rules_of m cube).feeders x c = subst (λ (k : ℕ). FeedsByOne m k (rules_of m k).feeders x c) (sym own) (feeds-one m x c feeds) in
      subst (λ (fs : List Feeder). FeedsByOne m cube fs x c) (sym are) all
