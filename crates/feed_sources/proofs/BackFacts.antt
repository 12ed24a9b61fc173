-- Feeders read backwards: what was looked at reaches none.
use Rattle.std.proofs.Common.{◌≡◌, sym, subst, arith, ℕ, ◌+◌, ◌<◌, ◌≤◌, inl, inr, true, List, length, take, Option, None, get_or}
use Rattle.std.specs.List.{Contains}
use Rattle.std.proofs.lemmas.Bool.{cases_lt}
use Rattle.cell_store.specs.Cells.{next_from}
use Rattle.cube_space.specs.Radix.{are_digits, number_of}
use Rattle.cube_space.specs.Layout.{sizes}
use Rattle.cube_space.specs.Cells.{IsCell, cube_of, elements_of, cell_count, first_cell}
use Rattle.rule_laws.specs.Feeding.{Feeds, FeedsBy}
use Rattle.rule_model.specs.declared.rules.Feeder.{Feeder}
use Rattle.rule_model.specs.BoundModel.{BoundModel, rules_of}
use Rattle.rule_model.specs.System.{system_of, feed_of}
use Rattle.feed_sources.specs.Feeders.{FeedsByOne}
use Rattle.feed_sources.specs.Inside.Choices.{AreChosen}
use Rattle.feed_sources.proofs.FedParts.{fed-parts}
use Rattle.feed_sources.proofs.FeederFacts.{source-cube, feeds-one, one-feeds, feeds-cube, more-parts}
use Rattle.feed_sources.proofs.WalkFacts.{IsLeast, next-none, IsNumbered, cell-run}

-- ---- by one feeder

module _ (m : BoundModel) (cube : ℕ) (feeder : Feeder) (c : ℕ) (live : List ℕ) where
  abbrev By : ℕ → Type 0
  By x = FeedsBy (system_of m) (feed_of m.space cube feeder) x c

  -- no cell of the set below a number
  abbrev NoneBelow : ℕ → Type 0
  NoneBelow from = (x : ℕ) → Contains live x → x < from → By x → ⊥

  placed : (x : ℕ) → By x → IsNumbered m.space cube x
  placed x by = cell-run m.space cube x (fed-parts m cube x c feeder by).cell (source-cube m x c cube feeder by)

  pub none-begun : NoneBelow (first_cell m.space cube)
  none-begun x has low by = let at = (placed x by).number in omega (arith, at, low)

  pub none-ended : (from : ℕ) → NoneBelow from → next_from live from ≡ None → (x : ℕ) → Contains live x → By x → ⊥
  none-ended from none end x has by = elim (cases_lt x from) [
    | inl before ↦ none x has before by
    | inr after ↦ next-none live from end x has after
  ]

  module _ (from next : ℕ) (none : NoneBelow from) (least : IsLeast live from next) where
    pub none-outside : first_cell m.space cube + cell_count m.space cube ≤ next → (x : ℕ) → Contains live x → By x → ⊥
    none-outside past x has by = elim (cases_lt x from) [
      | inl before ↦ none x has before by
      | inr after ↦ (let p = placed x by in let low = least.least x has after in let within = p.within in let at = p.number in omega (arith, low, within, at, past))
    ]

    pub none-jumped : (choices : List (Option ℕ)) (number later after : ℕ) → first_cell m.space cube + number ≡ next
        → ((x : ℕ) → By x → AreChosen choices (elements_of m.space x))
        → ((elements : List ℕ) → are_digits (sizes m.space cube) elements ≡ true → number ≤ number_of (sizes m.space cube) elements → number_of (sizes m.space cube) elements < later → AreChosen choices elements → ⊥)
        → after ≤ first_cell m.space cube + later → NoneBelow after
    none-jumped choices number later after here chosen passed upto x has low by = elim (cases_lt x from) [
      | inl before ↦ none x has before by
      | inr next_on ↦ (let p = placed x by in let at = p.number in let least_x = least.least x has next_on in
          passed (elements_of m.space x) p.digits (omega (arith, at, least_x, here)) (omega (arith, at, low, upto)) (chosen x by))
    ]

    pub none-passed : (By next → ⊥) → NoneBelow (next + 1)
    none-passed other x has low by = elim (cases_lt x from) [
      | inl before ↦ none x has before by
      | inr next_on ↦ (let least_x = least.least x has next_on in let same : x ≡ next = omega (arith, least_x, low) in other (subst By same by))
    ]

-- ---- by the feeders of a cube, and by all

module _ (m : BoundModel) (c : ℕ) (live : List ℕ) where
  abbrev By_some : ℕ → List Feeder → Type 0
  By_some cube feeders = (x : ℕ) → Contains live x → FeedsByOne m cube feeders x c → ⊥

  pub none-more : (cube : ℕ) (feeders : List Feeder) (n : ℕ) (feeder : Feeder) → n < length feeders → feeder ≡ get_or feeders n feeder → By_some cube (take n feeders)
      → ((x : ℕ) → Contains live x → FeedsBy (system_of m) (feed_of m.space cube feeder) x c → ⊥) → By_some cube (take (n + 1) feeders)
  none-more cube feeders n feeder low is before off x has more = elim (more-parts m x c cube feeders n feeder low is more) [
    | inl one ↦ before x has one
    | inr by ↦ off x has by
  ]

  -- feeders of a cube feed from its cells
  one-cube : (x cube : ℕ) (feeders : List Feeder) → FeedsByOne m cube feeders x c → cube_of m.space x ≡ cube
  one-cube x cube feeders (n, feeder, low, is, by) = source-cube m x c cube feeder by

  one-cell : (x cube : ℕ) (feeders : List Feeder) → FeedsByOne m cube feeders x c → IsCell m.space x
  one-cell x cube feeders (n, feeder, low, is, by) = (fed-parts m cube x c feeder by).cell

  pub cube-feeds : (x cube : ℕ) → FeedsByOne m cube (rules_of m cube).feeders x c → Feeds (system_of m) x c
  cube-feeds x cube one =
      let own = one-cube x cube (rules_of m cube).feeders one in
      one-feeds m x c (one-cell x cube (rules_of m cube).feeders one) (subst (λ (k : ℕ). FeedsByOne m k (rules_of m k).feeders x c) (sym own) one)

  pub none-feeds : (cubes : ℕ) → length m.space.cubes ≤ cubes → ((x k : ℕ) → Contains live x → k < cubes → FeedsByOne m k (rules_of m k).feeders x c → ⊥)
      → (x : ℕ) → Contains live x → Feeds (system_of m) x c → ⊥
  none-feeds cubes all none x has feeds =
      let there = feeds-cube m x c feeds in
      none x (cube_of m.space x) has (omega (arith, there, all)) (feeds-one m x c feeds)

  pub none-next : (cube : ℕ) → ((x k : ℕ) → Contains live x → k < cube → FeedsByOne m k (rules_of m k).feeders x c → ⊥) → By_some cube (rules_of m cube).feeders
      → (x k : ℕ) → Contains live x → k < cube + 1 → FeedsByOne m k (rules_of m k).feeders x c → ⊥
  none-next cube none here x k has low one = elim (cases_lt k cube) [
    | inl before ↦ none x k has before one
    | inr past ↦ (let same : k ≡ cube = omega (arith, low, past) in here x has (subst (λ (n : ℕ). FeedsByOne m n (rules_of m n).feeders x c) same one))
  ]
