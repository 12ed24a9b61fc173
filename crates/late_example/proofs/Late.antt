-- Whether what is read comes late for a cell of an area, cell by cell.
use Rattle.std.proofs.Common.{◌≡◌, refl, sym, ap, arith, subst, ℕ, ◌<◌, ◌≤◌, Bool, true, false, not, nat_lt, if◌then◌else◌, Option, None, length, inl, inr, ℤ}
use Rattle.std.proofs.lemmas.Bool.{cases_lt, lt-ltb, le-ltb, ltb-true}
use Rattle.cube_space.specs.Cells.{IsSpace}
use Rattle.rule_laws.specs.Meaning.{Precedent}
use Rattle.rule_laws.specs.Ordered.{IsCellOf, HasPrecedent}
use Rattle.rule_model.specs.declared.area.Area.{Area}
use Rattle.rule_model.specs.declared.rules.Statement.{Statement}
use Rattle.rule_model.specs.declared.rules.Form.TheVariants.{Both}
use Rattle.rule_model.specs.BoundModel.{BoundModel}
use Rattle.rule_model.specs.Order.{most_positions, number_at, cell_level}
use Rattle.rule_model.specs.System.{system_of}
use Rattle.rule_model.specs.Conditions.{IsArea, IsPrecedent, AreRules}
use Rattle.order_laws.specs.Earlier.{most_excess, is_below, is_within}
use Rattle.order_laws.proofs.Earlier.{at_most-at, at-at_most, level-smaller, smaller-level, below-at_most, at_most-below, within-at_most, at_most-within}
use Rattle.late_example.specs.Example.{rank_at, is_late}
use Rattle.late_example.specs.Inside.Narrowing.{comes_late, area_rule}

pub not-true : (t : Bool) → not t ≡ false → t ≡ true
not-true true h = refl
not-true false h = absurd (cc)

low-last : (q : ℕ) → q ≤ most_positions → nat_lt q most_positions ≡ false → q ≡ most_positions
low-last q le h = elim (cases_lt q most_positions) [
  | inl low ↦ absurd (let on = lt-ltb q most_positions low in cc)
  | inr high ↦ omega (arith, le, high)
]

module _ (m : BoundModel) (valid : IsSpace m.space) (ruled : AreRules m.space m.rules) (cube : ℕ) (there : cube < length m.space.cubes)
    (area : Area) (is_area : IsArea m.space cube area) (kind : Bool) (p : Precedent) (is : IsPrecedent m.space cube p) (q : ℕ) (le : q ≤ most_positions) where
  -- for no cell of the area comes late what is read
  abbrev pub NoneLate : Type 0
  NoneLate = (c t : ℕ) → IsCellOf (system_of m) (area_rule m cube area) kind c → HasPrecedent (system_of m) p c t → is_late q (rank_at m q c) (rank_at m q t) ≡ false

  abbrev s : Statement
  s = record { area = area; leaf = None; cons = None; form = Both }

  abbrev most : Option ℤ
  most = most_excess m cube area kind p q

  abbrev rank_by : Bool → ℕ → ℕ
  rank_by b c = if b then number_at m q c else cell_level m.space c

  pub none-late : comes_late m cube area kind p q ≡ false → NoneLate
  none-late h c t of has = by (nat_lt q most_positions) refl h
    where
      by : (b : Bool) → nat_lt q most_positions ≡ b → (if b then not (is_within most) else not (is_below most)) ≡ false
          → (if b then nat_lt (rank_by b c) (rank_by b t) else not (nat_lt (rank_by b t) (rank_by b c))) ≡ false
      by true low h =
          le-ltb (number_at m q c) (number_at m q t) (at_most-at m valid ruled cube there s is_area kind p is q (ltb-true q most_positions low) (within-at_most most (not-true (is_within most) h)) c t of has)
      by false high h =
          let last = low-last q le high in
          let bound = subst (λ n. is_below (most_excess m cube area kind p n) ≡ true) last (not-true (is_below most) h) in
          ap not (lt-ltb (cell_level m.space t) (cell_level m.space c) (level-smaller m valid ruled cube there s is_area kind p is (below-at_most (most_excess m cube area kind p most_positions) bound) c t of has))

  at-most : (a b : ℕ) → nat_lt a b ≡ false → b ≤ a
  at-most a b h = elim (cases_lt a b) [
    | inl low ↦ absurd (let on = lt-ltb a b low in cc)
    | inr high ↦ high
  ]

  pub late-none : NoneLate → comes_late m cube area kind p q ≡ false
  late-none h = by (nat_lt q most_positions) refl h
    where
      by : (b : Bool) → nat_lt q most_positions ≡ b
          → ((c t : ℕ) → IsCellOf (system_of m) (area_rule m cube area) kind c → HasPrecedent (system_of m) p c t → (if b then nat_lt (rank_by b c) (rank_by b t) else not (nat_lt (rank_by b t) (rank_by b c))) ≡ false)
          → (if b then not (is_within most) else not (is_below most)) ≡ false
      by true low h =
          ap not (at_most-within most (at-at_most m valid ruled cube there s is_area kind p is q (ltb-true q most_positions low) (λ c t of has. at-most (number_at m q c) (number_at m q t) (h c t of has))))
      by false high h =
          let bound = at_most-below (most_excess m cube area kind p most_positions) (smaller-level m valid ruled cube there s is_area kind p is (λ c t of has. ltb-true (cell_level m.space t) (cell_level m.space c) (not-true _ (h c t of has)))) in
          ap not (subst (λ n. is_below (most_excess m cube area kind p n) ≡ true) (sym (low-last q le high)) bound)
