-- The first place of a set with which what is read comes late for a cell.
use Rattle.std.proofs.Common.{◌≡◌, refl, arith, subst, ℕ, suc, ◌<◌, ◌≤◌, Bool, true, false, length, get_or, inl, inr}
use Rattle.std.proofs.lemmas.Bool.{cases_lt}
use Rattle.cube_space.specs.Layout.{axes, sizes}
use Rattle.cube_space.specs.Cells.{IsSpace}
use Rattle.rule_laws.specs.Ordered.{IsCellOf, HasPrecedent}
use Rattle.rule_model.specs.declared.area.Area.{Area}
use Rattle.rule_model.specs.BoundModel.{BoundModel}
use Rattle.rule_model.specs.Order.{most_positions}
use Rattle.rule_model.specs.System.{system_of}
use Rattle.rule_model.specs.Conditions.{IsArea, IsPrecedent, AreRules}
use Rattle.order_laws.specs.Scales.{set_count}
use Rattle.ref_order.specs.Reads.{precedent_of}
use Rattle.late_example.specs.declared.search.Sought.{Sought}
use Rattle.late_example.specs.Inside.Narrowing.{area_rule, set_at, narrowed, is_sought}
use Rattle.late_example.proofs.Sets.{narrowed-area}
use Rattle.late_example.proofs.Late.{none-late, late-none}
use Rattle.late_example.proofs.Inside.{as-cell, as-inside, has-place, narrow-in, narrow-out}

pub by-contra : (t : Bool) → (t ≡ false → ⊥) → t ≡ true
by-contra true h = refl
by-contra false h = absurd (h refl)

pub not-both : (t : Bool) → t ≡ true → t ≡ false → ⊥
not-both true a b = cc
not-both false a b = cc

module _ (m : BoundModel) (valid : IsSpace m.space) (ruled : AreRules m.space m.rules) (cube : ℕ) (there : cube < length m.space.cubes)
    (sought : Sought) (is : IsPrecedent m.space cube (precedent_of sought.read)) (le : sought.position ≤ most_positions) where
  abbrev pub NoneIn : Area → Type 0
  NoneIn area = (c t : ℕ) → IsCellOf (system_of m) (area_rule m cube area) sought.kind c → HasPrecedent (system_of m) (precedent_of sought.read) c t
      → Rattle.late_example.specs.Example.is_late sought.position (Rattle.late_example.specs.Example.rank_at m sought.position c) (Rattle.late_example.specs.Example.rank_at m sought.position t) ≡ false

  pub none-in : (area : Area) → IsArea m.space cube area → is_sought m cube area sought ≡ false → NoneIn area
  none-in area is_area = none-late m valid ruled cube there area is_area sought.kind (precedent_of sought.read) is sought.position le

  pub in-none : (area : Area) → IsArea m.space cube area → NoneIn area → is_sought m cube area sought ≡ false
  in-none area is_area = late-none m valid ruled cube there area is_area sought.kind (precedent_of sought.read) is sought.position le

  module _ (area : Area) (is_area : IsArea m.space cube area) (dim : ℕ) (low : dim < length (axes m.space cube)) where
    abbrev pub count : ℕ
    count = set_count (get_or (sizes m.space cube) dim 0) (set_at area dim)

    -- all places together are the area, and no place has no cell
    pub all-places : is_sought m cube area sought ≡ true → is_sought m cube (narrowed area dim 0 count) sought ≡ true
    all-places h = by-contra (is_sought m cube (narrowed area dim 0 count) sought) (λ none. not-both (is_sought m cube area sought) h (in-none area is_area (λ c t of has.
        let inside = as-inside m ruled cube there area sought.kind c of in
        let place = has-place m ruled cube there area c dim is_area low inside in
        none-in (narrowed area dim 0 count) (narrowed-area m.space cube area dim 0 count is_area (omega arith)) none c t
        (as-cell m ruled cube there (narrowed area dim 0 count) sought.kind c of.kind_is (narrow-in m ruled cube there area c dim 0 count place.0 is_area inside (omega arith) place.1 place.2)) has)))

    pub no-place : is_sought m cube (narrowed area dim 0 0) sought ≡ false
    no-place = in-none (narrowed area dim 0 0) (narrowed-area m.space cube area dim 0 0 is_area (omega arith)) (λ c t of has.
        let out = narrow-out m ruled cube there area c dim 0 0 is_area low (omega arith) (omega arith) (as-inside m ruled cube there (narrowed area dim 0 0) sought.kind c of) in
        absurd (omega (arith, out.before)))

    pub some-place : is_sought m cube area sought ≡ true → 0 < count
    some-place h = elim (cases_lt 0 count) [
      | inl some ↦ some
      | inr none ↦ let same : count ≡ 0 = omega (arith, none) in
          absurd (not-both (is_sought m cube (narrowed area dim 0 0) sought) (subst (λ (n : ℕ). is_sought m cube (narrowed area dim 0 n) sought ≡ true) same (all-places h)) no-place)
    ]

    -- where no cell before a place is one, and one is up to the next place, it is there
    pub at-place : (place : ℕ) → place < count → is_sought m cube (narrowed area dim 0 place) sought ≡ false → is_sought m cube (narrowed area dim 0 (suc place)) sought ≡ true
        → is_sought m cube (narrowed area dim place (suc place)) sought ≡ true
    at-place place within before h =
        by-contra (is_sought m cube (narrowed area dim place (suc place)) sought) (λ none. not-both (is_sought m cube (narrowed area dim 0 (suc place)) sought) h
        (in-none (narrowed area dim 0 (suc place)) (narrowed-area m.space cube area dim 0 (suc place) is_area (omega (arith, within))) (each none)))
      where
        each : is_sought m cube (narrowed area dim place (suc place)) sought ≡ false → NoneIn (narrowed area dim 0 (suc place))
        each none c t of has =
            let out = narrow-out m ruled cube there area c dim 0 (suc place) is_area low (omega arith) (omega (arith, within)) (as-inside m ruled cube there (narrowed area dim 0 (suc place)) sought.kind c of) in
            elim (cases_lt out.place place) [
              | inl less ↦ none-in (narrowed area dim 0 place) (narrowed-area m.space cube area dim 0 place is_area (omega (arith, within))) before c t
                  (as-cell m ruled cube there (narrowed area dim 0 place) sought.kind c of.kind_is (narrow-in m ruled cube there area c dim 0 place out.place is_area out.inside (omega arith) less out.element)) has
              | inr more ↦ none-in (narrowed area dim place (suc place)) (narrowed-area m.space cube area dim place (suc place) is_area (omega (arith, within))) none c t
                  (as-cell m ruled cube there (narrowed area dim place (suc place)) sought.kind c of.kind_is (narrow-in m ruled cube there area c dim place (suc place) out.place is_area out.inside more out.before out.element)) has
            ]
