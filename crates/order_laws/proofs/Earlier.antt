-- The decision by dimension is the order that is checked.
use Rattle.std.proofs.Common.{◌≡◌, refl, sym, ap, arith, subst, ℕ, zero, suc, ◌+◌, ◌<◌, ◌≤◌, Bool, true, false, ◌||◌, ◌&&◌, ℤ, pos, negsuc, ◌-ℤ◌, ◌≤ℤ◌, Option, Some, None, length, if◌then◌else◌, inl, inr, ◌⊎◌}
use Rattle.std.proofs.lemmas.Int.{ints}
use Rattle.std.proofs.lemmas.Bool.{cases_lt, lt-ltb}
use Rattle.cube_space.specs.Cells.{IsSpace}
use Rattle.rule_laws.specs.Meaning.{Precedent, Named, Components}
use Rattle.rule_laws.specs.Ordered.{Throughout}
use Rattle.rule_laws.specs.OrderByPlace.{IsDecidedByPosition, IsDecidedByLevel}
use Rattle.rule_model.specs.declared.rules.Statement.{Statement}
use Rattle.rule_model.specs.BoundModel.{BoundModel}
use Rattle.rule_model.specs.Order.{most_positions, number_at, cell_level}
use Rattle.rule_model.specs.System.{system_of, positions_of, rule_of}
use Rattle.rule_model.specs.Conditions.{IsArea, IsPrecedent, AreRules}
use Rattle.order_laws.specs.Greatest.{IsAtMost}
use Rattle.order_laws.specs.Earlier.{most_excess, is_below, is_within, earlier_from, is_earlier}
use Rattle.order_laws.proofs.CellFacts.{measure, axes-sizes}
use Rattle.order_laws.proofs.Decided.{IsMore, reference-over, reference-least}
use Rattle.order_laws.proofs.Components.{children-over, children-least}

pub below-at_most : (o : Option ℤ) → is_below o ≡ true → IsAtMost o (negsuc 0)
below-at_most None h = tt
below-at_most (Some n) h = grind (arith, ints)

pub at_most-below : (o : Option ℤ) → IsAtMost o (negsuc 0) → is_below o ≡ true
at_most-below None h = refl
at_most-below (Some n) h = grind (arith, ints)

pub within-at_most : (o : Option ℤ) → is_within o ≡ true → IsAtMost o (pos 0)
within-at_most None h = tt
within-at_most (Some n) h = grind (arith, ints)

pub at_most-within : (o : Option ℤ) → IsAtMost o (pos 0) → is_within o ≡ true
at_most-within None h = refl
at_most-within (Some n) h = grind (arith, ints)

-- position by position
module _ (most : ℕ → Option ℤ) (last : Option ℤ) where
  abbrev pub IsWithinBetween : ℕ → ℕ → Type 0
  IsWithinBetween place end = (p : ℕ) → place ≤ p → p < end → IsAtMost (most p) (pos 0)

  abbrev pub IsDecidedFrom : ℕ → ℕ → Type 0
  IsDecidedFrom place end =
      ((q : ℕ) × (place ≤ q) × (q < end) × IsAtMost (most q) (negsuc 0) × IsWithinBetween place q)
      ⊎ (IsAtMost last (negsuc 0) × IsWithinBetween place end)

  longer : (place end : ℕ) → IsAtMost (most place) (pos 0) → IsWithinBetween (suc place) end → IsWithinBetween place end
  longer place end h rest p from below = elim (cases_lt place p) [
    | inl after ↦ rest p (omega arith) below
    | inr same ↦ let e : place ≡ p = omega arith in subst (λ k. IsAtMost (most k) (pos 0)) e h
  ]

  pub decided-from : (place count : ℕ) → earlier_from most last place count ≡ true → IsDecidedFrom place (place + count)
  decided-from place zero h = inr (below-at_most last h, λ p from below. absurd (omega (arith, from, below)))
  decided-from place (suc count) h = by (is_below (most place)) (is_within (most place)) refl refl h (decided-from (suc place) count)
    where
      by : (b w : Bool) → is_below (most place) ≡ b → is_within (most place) ≡ w → b || (w && earlier_from most last (suc place) count) ≡ true
          → (earlier_from most last (suc place) count ≡ true → IsDecidedFrom (suc place) (suc place + count)) → IsDecidedFrom place (place + suc count)
      by true w e f h rest = inl (place, omega arith, omega arith, below-at_most (most place) e, λ p from below. absurd (omega (arith, from, below)))
      by false false e f h rest = absurd (cc)
      by false true e f h rest = elim (rest h) [
        | inl (q, from, below, less, before) ↦ inl (q, omega (arith, from), omega (arith, below), less, longer place q (within-at_most (most place) f) before)
        | inr (less, before) ↦ let same : suc place + count ≡ place + suc count = omega arith in
            inr (less, longer place (place + suc count) (within-at_most (most place) f) (subst (IsWithinBetween (suc place)) same before))
      ]

  either : (b w r : Bool) → (b ≡ true) ⊎ ((w ≡ true) × (r ≡ true)) → b || (w && r) ≡ true
  either true w r h = refl
  either false true true h = refl
  either false true false (inl e) = absurd (cc)
  either false true false (inr e) = absurd (cc e.1)
  either false false r (inl e) = absurd (cc)
  either false false r (inr e) = absurd (cc e.0)

  pub from-decided : (place count : ℕ) → IsDecidedFrom place (place + count) → earlier_from most last place count ≡ true
  from-decided place zero (inl (q, from, below, less, before)) = absurd (omega (arith, from, below))
  from-decided place zero (inr (less, before)) = at_most-below last less
  from-decided place (suc count) (inl (q, from, below, less, before)) = either (is_below (most place)) (is_within (most place)) (earlier_from most last (suc place) count) (elim (cases_lt place q) [
    | inr same ↦ let e : q ≡ place = omega (arith, from, same) in inl (at_most-below (most place) (subst (λ k. IsAtMost (most k) (negsuc 0)) e less))
    | inl after ↦ inr (
      at_most-within (most place) (before place (omega arith) after),
      from-decided (suc place) count (inl (q, omega (arith, after), omega (arith, below), less, λ p start end. before p (omega (arith, start)) end)),
    )
  ])
  from-decided place (suc count) (inr (less, before)) =
      let same : place + suc count ≡ suc place + count = omega arith in
      either (is_below (most place)) (is_within (most place)) (earlier_from most last (suc place) count)
      (inr (at_most-within (most place) (before place (omega arith) (omega arith)), from-decided (suc place) count (inr (less, λ p start end. before p (omega (arith, start)) (omega (arith, end, same))))))

module _ (m : BoundModel) (valid : IsSpace m.space) (ruled : AreRules m.space m.rules) (cube : ℕ) (there : cube < length m.space.cubes)
    (statement : Statement) (is_area : IsArea m.space cube statement.area) (kind : Bool) where
  over : (p : Precedent) → IsPrecedent m.space cube p → (q : ℕ) (z : ℤ) → IsAtMost (most_excess m cube statement.area kind p q) z
      → Throughout (system_of m) (rule_of m.space cube statement) kind p (IsMore m ruled cube there statement is_area q z)
  over (Named r) is q z h = reference-over m ruled cube there statement is_area q r kind z is h
  over (Components dim) is q z h = children-over m valid ruled cube there statement is_area dim (omega (arith, is, axes-sizes m.space cube)) q kind z h

  least : (p : Precedent) → IsPrecedent m.space cube p → (q : ℕ) (z : ℤ)
      → Throughout (system_of m) (rule_of m.space cube statement) kind p (IsMore m ruled cube there statement is_area q z)
      → IsAtMost (most_excess m cube statement.area kind p q) z
  least (Named r) is q z h = reference-least m ruled cube there statement is_area q r kind z is h
  least (Components dim) is q z h = children-least m valid ruled cube there statement is_area dim (omega (arith, is, axes-sizes m.space cube)) q kind z h

  less : (a b : ℕ) → (pos a -ℤ pos b) ≤ℤ negsuc 0 → a < b
  less a b h = omega (arith, ints, h)

  from-less : (a b : ℕ) → a < b → (pos a -ℤ pos b) ≤ℤ negsuc 0
  from-less a b h = omega (arith, ints, h)

  at-most : (a b : ℕ) → (pos a -ℤ pos b) ≤ℤ pos 0 → a ≤ b
  at-most a b h = omega (arith, ints, h)

  from-at-most : (a b : ℕ) → a ≤ b → (pos a -ℤ pos b) ≤ℤ pos 0
  from-at-most a b h = omega (arith, ints, h)

  measure-at : (q c : ℕ) → q < most_positions → measure m q c ≡ number_at m q c
  measure-at q c h = ap (λ t. if t then number_at m q c else cell_level m.space c) (lt-ltb q most_positions h)

  abbrev pub Rel : (ℕ → ℕ → Type 0) → Precedent → Type 0
  Rel R p = Throughout (system_of m) (rule_of m.space cube statement) kind p R

  pub smaller-at : (p : Precedent) → IsPrecedent m.space cube p → (q : ℕ) → q < most_positions → IsAtMost (most_excess m cube statement.area kind p q) (negsuc 0) → Rel (λ c t. number_at m q t < number_at m q c) p
  smaller-at p is q low h c t of has = subst (λ n. n < number_at m q c) (measure-at q t low) (subst (λ n. measure m q t < n) (measure-at q c low) (less (measure m q t) (measure m q c) (over p is q (negsuc 0) h c t of has)))

  pub at_most-at : (p : Precedent) → IsPrecedent m.space cube p → (q : ℕ) → q < most_positions → IsAtMost (most_excess m cube statement.area kind p q) (pos 0) → Rel (λ c t. number_at m q t ≤ number_at m q c) p
  at_most-at p is q low h c t of has = subst (λ n. n ≤ number_at m q c) (measure-at q t low) (subst (λ n. measure m q t ≤ n) (measure-at q c low) (at-most (measure m q t) (measure m q c) (over p is q (pos 0) h c t of has)))

  pub at-smaller : (p : Precedent) → IsPrecedent m.space cube p → (q : ℕ) → q < most_positions → Rel (λ c t. number_at m q t < number_at m q c) p → IsAtMost (most_excess m cube statement.area kind p q) (negsuc 0)
  at-smaller p is q low h = least p is q (negsuc 0) (λ c t of has. from-less (measure m q t) (measure m q c)
      (subst (λ n. n < measure m q c) (sym (measure-at q t low)) (subst (λ n. number_at m q t < n) (sym (measure-at q c low)) (h c t of has))))

  pub at-at_most : (p : Precedent) → IsPrecedent m.space cube p → (q : ℕ) → q < most_positions → Rel (λ c t. number_at m q t ≤ number_at m q c) p → IsAtMost (most_excess m cube statement.area kind p q) (pos 0)
  at-at_most p is q low h = least p is q (pos 0) (λ c t of has. from-at-most (measure m q t) (measure m q c)
      (subst (λ n. n ≤ measure m q c) (sym (measure-at q t low)) (subst (λ n. number_at m q t ≤ n) (sym (measure-at q c low)) (h c t of has))))

  pub level-smaller : (p : Precedent) → IsPrecedent m.space cube p → IsAtMost (most_excess m cube statement.area kind p most_positions) (negsuc 0) → Rel (λ c t. cell_level m.space t < cell_level m.space c) p
  level-smaller p is h c t of has = less (cell_level m.space t) (cell_level m.space c) (over p is most_positions (negsuc 0) h c t of has)

  pub smaller-level : (p : Precedent) → IsPrecedent m.space cube p → Rel (λ c t. cell_level m.space t < cell_level m.space c) p → IsAtMost (most_excess m cube statement.area kind p most_positions) (negsuc 0)
  smaller-level p is h = least p is most_positions (negsuc 0) (λ c t of has. from-less (cell_level m.space t) (cell_level m.space c) (h c t of has))

  abbrev pub IsDecided : Precedent → Type 0
  IsDecided p = IsDecidedByPosition (system_of m) (positions_of m) (rule_of m.space cube statement) kind p
      ⊎ IsDecidedByLevel (system_of m) (positions_of m) (rule_of m.space cube statement) kind p

  pub earlier-decided : (p : Precedent) → IsPrecedent m.space cube p → is_earlier m cube statement.area kind p ≡ true → IsDecided p
  unfolding is_earlier system_of positions_of
  earlier-decided p is h = elim (decided-from (most_excess m cube statement.area kind p) (most_excess m cube statement.area kind p most_positions) 0 most_positions h) [
    | inl (q, from, low, smaller, before) ↦ inl (q, low, smaller-at p is q low smaller, λ k below. at_most-at p is k (omega (arith, below, low)) (before k (omega arith) below))
    | inr (smaller, before) ↦ inr (level-smaller p is smaller, λ k below. at_most-at p is k below (before k (omega arith) below))
  ]

  pub decided-earlier : (p : Precedent) → IsPrecedent m.space cube p → IsDecided p → is_earlier m cube statement.area kind p ≡ true
  unfolding is_earlier system_of positions_of
  decided-earlier p is (inl (q, low, smaller, before)) =
      from-decided (most_excess m cube statement.area kind p) (most_excess m cube statement.area kind p most_positions) 0 most_positions
      (inl (q, omega arith, low, at-smaller p is q low smaller, λ k from below. at-at_most p is k (omega (arith, below, low)) (before k below)))
  decided-earlier p is (inr (smaller, before)) =
      from-decided (most_excess m cube statement.area kind p) (most_excess m cube statement.area kind p most_positions) 0 most_positions
      (inr (smaller-level p is smaller, λ k from below. at-at_most p is k below (before k below)))
