-- Whether a reference names a cell from some cell of an area, and whether there is such a cell.
use Rattle.std.proofs.Common.{◌≡◌, refl, sym, ap, ◌∙◌, arith, subst, ℕ, zero, suc, ◌<◌, Bool, true, false, ◌&&◌, ◌==◌, ◌⊎◌, inl, inr, ℤ, pos, ◌-ℤ◌, ◌≤ℤ◌, Option, Some, None, length}
use Rattle.std.specs.Prelude.{is_some}
use Rattle.std.proofs.lemmas.Int.{ints}
use Rattle.std.proofs.lemmas.Bool.{and_parts, and_from, cases_lt}
use Rattle.cube_space.specs.Cells.{IsCell, cube_of, elements_of, size_of, is_leaf_cell}
use Rattle.rule_laws.specs.declared.reference.Reference.{Reference}
use Rattle.rule_laws.specs.Meaning.{Named}
use Rattle.rule_laws.specs.Ordered.{IsCellOf}
use Rattle.rule_model.specs.declared.rules.Statement.{Statement}
use Rattle.rule_model.specs.BoundModel.{BoundModel}
use Rattle.rule_model.specs.Areas.{in_area}
use Rattle.rule_model.specs.Targets.{target}
use Rattle.rule_model.specs.System.{system_of, rule_of}
use Rattle.rule_model.specs.Conditions.{IsArea, IsReference, AreRules}
use Rattle.rule_model.specs.Order.{most_positions}
use Rattle.order_laws.specs.Greatest.{IsAtMost}
use Rattle.order_laws.specs.Earlier.{is_same, most_excess}
use Rattle.order_laws.proofs.EndingFacts.{from-same, to-same}
use Rattle.order_laws.proofs.CellFacts.{measure}
use Rattle.order_laws.proofs.Decided.{cell-of, at-target, reference-over, reference-least}
use Rattle.rule_notes.specs.Inside.Named.{own_reference, names_some, has_cells}
use Rattle.rule_notes.proofs.OwnFacts.{own-is, names-itself}

-- one of the numbers below this passes, or none does
search-below : (test : ℕ → Bool) (n : ℕ) → ((k : ℕ) × (k < n) × (test k ≡ true)) ⊎ ((k : ℕ) → k < n → test k ≡ false)
search-below test zero = inr (λ k low. absurd (omega (arith, low)))
search-below test (suc n) = by (test n) refl (search-below test n)
  where
    by : (t : Bool) → test n ≡ t → ((k : ℕ) × (k < n) × (test k ≡ true)) ⊎ ((k : ℕ) → k < n → test k ≡ false) → ((k : ℕ) × (k < suc n) × (test k ≡ true)) ⊎ ((k : ℕ) → k < suc n → test k ≡ false)
    by true is found = inl (n, omega arith, is)
    by false is (inl (k, low, passes)) = inl (k, omega (arith, low), passes)
    by false is (inr none) = inr (λ k low. elim (cases_lt k n) [
      | inl less ↦ none k less
      | inr more ↦ let same : k ≡ n = omega (arith, low, more) in ap test same ∙ is
    ])

module _ (m : BoundModel) (ruled : AreRules m.space m.rules) (cube : ℕ) (there : cube < length m.space.cubes)
    (s : Statement) (is_area : IsArea m.space cube s.area) where
  abbrev pub IsCellFor : Bool → ℕ → Type 0
  IsCellFor kind c = IsCellOf (system_of m) (rule_of m.space cube s) kind c

  -- without a most, no cell is named
  none-named : (r : Reference) (kind : Bool) (c t : ℕ) → IsReference m.space cube r → most_excess m cube s.area kind (Named r) most_positions ≡ None → IsCellFor kind c → target m.space r c ≡ Some t → ⊥
  unfolding system_of
  none-named r kind c t is none of names =
      let gap : ℤ = pos (measure m most_positions t) -ℤ pos (measure m most_positions c) in
      let low : gap ≤ℤ (gap -ℤ pos 1) = reference-over m ruled cube there s is_area most_positions r kind (gap -ℤ pos 1) is (subst (λ o. IsAtMost o (gap -ℤ pos 1)) (sym none) tt) c t of names in
      omega (arith, ints, low)

  -- with one, some cell is
  some-named : (r : Reference) (kind : Bool) (most : ℤ) → IsReference m.space cube r → most_excess m cube s.area kind (Named r) most_positions ≡ Some most → ((c t : ℕ) → IsCellFor kind c → target m.space r c ≡ Some t → ⊥) → ⊥
  unfolding system_of
  some-named r kind most is some none =
      let low : IsAtMost (Some most) (most -ℤ pos 1) = subst (λ o. IsAtMost o (most -ℤ pos 1)) some (reference-least m ruled cube there s is_area most_positions r kind (most -ℤ pos 1) is (λ c t of names. absurd (none c t of names))) in
      let less : most ≤ℤ (most -ℤ pos 1) = low in
      omega (arith, ints, less)

  -- a cell that the reference is for, from which it names a cell
  pub record IsNaming (r : Reference) (kind : Bool) : Type 0 where
    pub cell : ℕ
    pub of : IsCellFor kind cell
    pub named : ℕ
    pub names : target m.space r cell ≡ Some named

  pub naming-some : (r : Reference) (kind : Bool) → IsReference m.space cube r → IsNaming r kind → names_some m cube s.area kind r ≡ true
  naming-some r kind is naming = by (most_excess m cube s.area kind (Named r) most_positions) refl
    where
      by : (o : Option ℤ) → most_excess m cube s.area kind (Named r) most_positions ≡ o → is_some o ≡ true
      by None none = absurd (none-named r kind naming.cell naming.named is none naming.of naming.names)
      by (Some most) some = refl

  abbrev is_naming : Reference → Bool → ℕ → Bool
  is_naming r kind c = ((cube == cube_of m.space c) && in_area m.space s.area c) && (is_same kind (is_leaf_cell m.space c) && is_some (target m.space r c))

  naming-tells : (r : Reference) (kind : Bool) (c : ℕ) → IsCell m.space c → is_naming r kind c ≡ true → IsNaming r kind
  unfolding system_of
  naming-tells r kind c cell is =
      let parts = and_parts ((cube == cube_of m.space c) && in_area m.space s.area c) (is_same kind (is_leaf_cell m.space c) && is_some (target m.space r c)) is in
      let others = and_parts (is_same kind (is_leaf_cell m.space c)) (is_some (target m.space r c)) parts.1 in
      let of : IsCellFor kind c = record { cell = cell; kind_is = from-same kind (is_leaf_cell m.space c) others.0; applied = parts.0 } in
      by of (target m.space r c) refl others.1
    where
      by : IsCellFor kind c → (o : Option ℕ) → target m.space r c ≡ o → is_some o ≡ true → IsNaming r kind
      by of None names some = absurd (cc)
      by of (Some t) names some = record { cell = c; of = of; named = t; names = names }

  tells-naming : (r : Reference) (kind : Bool) (c t : ℕ) → IsCellFor kind c → target m.space r c ≡ Some t → is_naming r kind c ≡ true
  unfolding system_of
  tells-naming r kind c t of names =
      and_from ((cube == cube_of m.space c) && in_area m.space s.area c) (is_same kind (is_leaf_cell m.space c) && is_some (target m.space r c)) of.applied
      (and_from (is_same kind (is_leaf_cell m.space c)) (is_some (target m.space r c)) (to-same kind (is_leaf_cell m.space c) of.kind_is) (ap is_some names))

  pub some-naming : (r : Reference) (kind : Bool) → IsReference m.space cube r → names_some m cube s.area kind r ≡ true → IsNaming r kind
  unfolding system_of
  some-naming r kind is some = elim (search-below (is_naming r kind) (size_of m.space)) [
    | inl found ↦ naming-tells r kind found.0 found.1 found.2
    | inr none ↦ absurd (by (most_excess m cube s.area kind (Named r) most_positions) refl some
        (λ c t of names. let wrong : true ≡ false = sym (tells-naming r kind c t of names) ∙ none c of.cell in cc wrong))
  ]
    where
      by : (o : Option ℤ) → most_excess m cube s.area kind (Named r) most_positions ≡ o → is_some o ≡ true → ((c t : ℕ) → IsCellFor kind c → target m.space r c ≡ Some t → ⊥) → ⊥
      by None none some never = absurd (cc)
      by (Some most) is_most some never = some-named r kind most is is_most never

  -- the area has a cell of this kind just where the own reference names one
  pub cell-has : (kind : Bool) (c : ℕ) → IsCellFor kind c → has_cells m cube s.area kind ≡ true
  cell-has kind c of =
      let (at, own) = cell-of m ruled cube there s is_area kind c of in
      let found = at-target m ruled cube there s is_area (own_reference m.space cube) c (elements_of m.space c) (elements_of m.space c) (own-is m.space cube there) at own.long (names-itself m.space cube (elements_of m.space c) own.digits) in
      naming-some (own_reference m.space cube) kind (own-is m.space cube there) (record { cell = c; of = of; named = found.0; names = found.1 })

  pub has-cell : (kind : Bool) → has_cells m cube s.area kind ≡ true → (c : ℕ) × IsCellFor kind c
  has-cell kind has = let naming = some-naming (own_reference m.space cube) kind (own-is m.space cube there) has in (naming.cell, naming.of)
