-- The most that a cell which is read has more bounds just what the elements of a cell add up to, with flags that say by
-- which elements it reads a leaf.
use Rattle.std.proofs.Common.{◌≡◌, refl, sym, ap, ◌∙◌, arith, subst, ℕ, Bool, true, false, ◌&&◌, ℤ, ◌+ℤ◌, ◌-ℤ◌, ◌≤ℤ◌, Option, Some, None, List, length}
use Rattle.std.specs.Prelude.{slice_index_or}
use Rattle.std.proofs.lemmas.Int.{ints}
use Rattle.std.proofs.lemmas.Bool.{and_parts, and_from}
use Rattle.cube_space.specs.Radix.{are_digits}
use Rattle.cube_space.specs.Layout.{axes, sizes}
use Rattle.rule_laws.specs.Meaning.{Precedent, Named, Components}
use Rattle.rule_model.specs.declared.area.Area.{Area}
use Rattle.rule_model.specs.BoundModel.{BoundModel}
use Rattle.rule_model.specs.Areas.{in_sets}
use Rattle.rule_model.specs.Conditions.{IsArea}
use Rattle.order_laws.specs.Greatest.{plus, IsAtMost, only}
use Rattle.order_laws.specs.Scales.{is_leaf_element}
use Rattle.order_laws.specs.Earlier.{Kinds, is_same, number_by_kinds, start_by_kinds, kinds_before, greatest_of_kinds, greatest_ending, excess_of_kinds, most_excess}
use Rattle.order_laws.proofs.GreatestFacts.{IsTop, larger-parts, larger-from}
use Rattle.order_laws.proofs.SumFacts.{all_from}
use Rattle.order_laws.proofs.EndingFacts.{sum_by, Ends, ending-top, from-same, to-same}
use Rattle.order_laws.proofs.SetFacts.{set-top, set-at}
use Rattle.order_laws.proofs.CellFacts.{is_in_area, kept-sum, IsOf, leaves-of, of-leaves}

-- a bound of a start and a sum is one of the sum
pub up-to : (s : ℤ) (a : Option ℤ) (z : ℤ) → IsAtMost (plus (Some s) a) z → IsAtMost a (z -ℤ s)
up-to s None z h = tt
up-to s (Some a) z h = let low : (s +ℤ a) ≤ℤ z = h in let e : a ≤ℤ (z -ℤ s) = omega (arith, ints, low) in e

pub up-from : (s : ℤ) (a : Option ℤ) (z : ℤ) → IsAtMost a (z -ℤ s) → IsAtMost (plus (Some s) a) z
up-from s None z h = tt
up-from s (Some a) z h = let low : a ≤ℤ (z -ℤ s) = h in let e : (s +ℤ a) ≤ℤ z = omega (arith, ints, low) in e

-- what elements add up to, by flags and the scales of these kinds
abbrev pub chosen : BoundModel → ℕ → ℕ → Precedent → Kinds → (ℕ → ℕ → Bool) → List ℕ → Option ℤ
chosen m cube q p kinds flags es = plus (Some (start_by_kinds m cube kinds q p)) (sum_by (number_by_kinds m cube kinds q p) flags 0 es)

module _ (m : BoundModel) (cube : ℕ) (area : Area) (is_area : IsArea m.space cube area) where
  abbrev here : ℕ → Precedent → Kinds → ℕ → ℕ → Bool → Option ℤ
  here q p kinds i e flag = only (is_in_area m.space cube area i e) (number_by_kinds m cube kinds q p i e flag)

  kinds-top : (q : ℕ) (p : Precedent) (kinds : Kinds) (i : ℕ) (k : Kinds) → IsTop (λ e. is_leaf_element (axes m.space cube) i e ≡ k.own) (λ e. here q p kinds i e k.its) (greatest_of_kinds m cube area kinds q p i k)
  kinds-top q p kinds i k =
      set-top (λ e. is_leaf_element (axes m.space cube) i e ≡ k.own) (λ e. number_by_kinds m cube kinds q p i e k.its) (λ e. is_same k.own (is_leaf_element (axes m.space cube) i e))
      (slice_index_or (sizes m.space cube) i 0) (slice_index_or area.sets i None) (set-at (sizes m.space cube) area.sets i is_area)
      (λ e. to-same k.own (is_leaf_element (axes m.space cube) i e)) (λ e. from-same k.own (is_leaf_element (axes m.space cube) i e))

  abbrev most_sum : ℕ → Precedent → Kinds → Option ℤ
  most_sum q p kinds = greatest_ending (greatest_of_kinds m cube area kinds q p) kinds (kinds_before m p) 0 (length (axes m.space cube))

  abbrev Ending : ℕ → Precedent → Kinds → List ℕ × (ℕ → ℕ → Bool) → Type 0
  Ending q p kinds =
      Ends (is_leaf_element (axes m.space cube)) (here q p kinds) kinds (greatest_of_kinds m cube area kinds q p) (kinds-top q p kinds) (kinds_before m p) (length (axes m.space cube)) 0

  sum-top : (q : ℕ) (p : Precedent) (kinds : Kinds) → IsTop (Ending q p kinds) (λ x. sum_by (here q p kinds) x.1 0 x.0) (most_sum q p kinds)
  sum-top q p kinds =
      ending-top (is_leaf_element (axes m.space cube)) (here q p kinds) kinds (greatest_of_kinds m cube area kinds q p) (kinds-top q p kinds) (length (axes m.space cube)) 0 (kinds_before m p)

  own-before : (p : Precedent) (t : Bool) → (kinds_before m p).own && t ≡ t
  own-before (Named r) t = refl
  own-before (Components dim) t = refl

  pub most-over : (q : ℕ) (p : Precedent) (kind its : Bool) (z : ℤ) → IsAtMost (most_excess m cube area kind p q) z → (es : List ℕ) (flags : ℕ → ℕ → Bool) → IsOf m.space cube area kind es
      → (kinds_before m p).its && all_from flags 0 es ≡ its → IsAtMost (chosen m cube q p (record { own = kind; its = its }) flags es) z
  unfolding most_excess
  most-over q p kind its z h es flags of ends =
      let kinds : Kinds = record { own = kind; its = its } in
      let s = start_by_kinds m cube kinds q p in
      let low = (sum-top q p kinds).over (z -ℤ s) (up-to s (most_sum q p kinds) z (by its)) (es, flags)
      (record { long = of.long; own_is = own-before p (all_from (is_leaf_element (axes m.space cube)) 0 es) ∙ leaves-of m.space cube area kind es of; its_is = ends }) in
      let sum = sum_by (number_by_kinds m cube kinds q p) flags 0 es in
      let same = kept-sum m.space cube area (λ i e. number_by_kinds m cube kinds q p i e (flags i e)) es is_area of.long ∙ ap (λ t. only t sum) (and_from _ _ of.digits of.inside) in
      up-from s sum z (subst (λ a. IsAtMost a (z -ℤ s)) same low)
    where
      parts : IsAtMost (excess_of_kinds m cube area (record { own = kind; its = true }) p q) z × IsAtMost (excess_of_kinds m cube area (record { own = kind; its = false }) p q) z
      parts = larger-parts (excess_of_kinds m cube area (record { own = kind; its = true }) p q) (excess_of_kinds m cube area (record { own = kind; its = false }) p q) z h

      by : (its : Bool) → IsAtMost (excess_of_kinds m cube area (record { own = kind; its = its }) p q) z
      by true = parts.0
      by false = parts.1

  pub most-least : (q : ℕ) (p : Precedent) (kind : Bool) (z : ℤ)
      → ((its : Bool) (es : List ℕ) (flags : ℕ → ℕ → Bool) → IsOf m.space cube area kind es → (kinds_before m p).its && all_from flags 0 es ≡ its → IsAtMost (chosen m cube q p (record { own = kind; its = its }) flags es) z)
      → IsAtMost (most_excess m cube area kind p q) z
  unfolding most_excess
  most-least q p kind z h =
      larger-from (excess_of_kinds m cube area (record { own = kind; its = true }) p q) (excess_of_kinds m cube area (record { own = kind; its = false }) p q) z (each true) (each false)
    where
      each : (its : Bool) → IsAtMost (excess_of_kinds m cube area (record { own = kind; its = its }) p q) z
      each its = up-from s (most_sum q p kinds) z ((sum-top q p kinds).least (z -ℤ s) low)
        where
          kinds : Kinds
          kinds = record { own = kind; its = its }

          s : ℤ
          s = start_by_kinds m cube kinds q p

          low : (x : List ℕ × (ℕ → ℕ → Bool)) → Ending q p kinds x → IsAtMost (sum_by (here q p kinds) x.1 0 x.0) (z -ℤ s)
          low (es, flags) ends = subst (λ a. IsAtMost a (z -ℤ s)) (sym (kept-sum m.space cube area (λ i e. number_by_kinds m cube kinds q p i e (flags i e)) es is_area ends.long))
              (by (are_digits (sizes m.space cube) es && in_sets area.sets es) refl)
            where
              sum : Option ℤ
              sum = sum_by (number_by_kinds m cube kinds q p) flags 0 es

              by : (t : Bool) → are_digits (sizes m.space cube) es && in_sets area.sets es ≡ t → IsAtMost (only t sum) (z -ℤ s)
              by false is = tt
              by true is =
                  let parts = and_parts (are_digits (sizes m.space cube) es) (in_sets area.sets es) is in
                  let kind_is = of-leaves m.space cube kind es (sym (own-before p (all_from (is_leaf_element (axes m.space cube)) 0 es)) ∙ ends.own_is) in
                  up-to s sum z (h its es flags (record { long = ends.long; digits = parts.0; inside = parts.1; kind_is = kind_is }) ends.its_is)
