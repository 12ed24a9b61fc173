-- The feeders that are asked are enough.
use Rattle.std.proofs.Common.{◌≡◌, refl, sym, ap, ◌∙◌, arith, subst, ℕ, suc, ◌<◌, Bool, true, false, not, ◌&&◌, ◌||◌, List, [], ◌∷◌, length, get_or, ◌==◌}
use Rattle.std.specs.List.{list_any, range_with_len}
use Rattle.std.proofs.Math.Bool.{and-true}
use Rattle.std.proofs.lemmas.Bool.{ne_eqb}
use Rattle.std.proofs.lemmas.Bool.Decides.{Decides-eqb}
use Rattle.std.proofs.lemmas.List.Folds.{list_any_at, list_any_none, Any-from_list_any}
use Rattle.std.proofs.lemmas.List.FromFn.{length-range_with_len}
use Rattle.rule_laws.specs.declared.reference.Reference.{Reference}
use Rattle.rule_model.specs.declared.area.Area.{Area}
use Rattle.rule_model.specs.declared.rules.Feeder.{Feeder}
use Rattle.rule_model.specs.BoundModel.{BoundModel, rules_of}
use Rattle.rule_model.specs.Conditions.{IsFeeder, AreRules}
use Rattle.feed_cover.specs.declared.reference_view.ReferenceView.{ReferenceView}
use Rattle.feed_cover.specs.declared.reference_view.Counted.TheVariants.{Leaves}
use Rattle.feed_cover.specs.Views.{counts_of, look_of}
use Rattle.cover_laws.specs.Looking.{some_below, is_possible}
use Rattle.cover_laws.specs.Covered.{look_below, feeds_all, covers, has_cover}
use Rattle.cover_laws.proofs.Looks.{some-elim, some-intro}
use Rattle.cover_laws.proofs.Covered.{range-at}
use Rattle.lists.proofs.Found.{same_truth as true-both}

pub at-range : (f : ℕ → Bool) (n k : ℕ) → k < n → f k ≡ true → list_any f (range_with_len 0 n) ≡ true
at-range f n k low h = list_any_at f (range_with_len 0 n) k 0 (omega (arith, low, length-range_with_len 0 n)) (ap f (range-at n k 0 low) ∙ h)

in-range : (f : ℕ → Bool) (n : ℕ) → list_any f (range_with_len 0 n) ≡ true → (k : ℕ) × (k < n) × (f k ≡ true)
in-range f n h =
    let (i, x, low, at, holds) = Any-from_list_any f (range_with_len 0 n) h in
    let less : i < n = omega (arith, low, length-range_with_len 0 n) in
    (i, less, ap f (sym (range-at n i x less) ∙ at) ∙ holds)

range-some : (f : ℕ → Bool) (n : ℕ) → some_below f n ≡ list_any f (range_with_len 0 n)
range-some f n = true-both _ _
    (λ h. let (k, low, holds) = some-elim f n h in at-range f n k low holds)
    (λ h. let (k, low, holds) = in-range f n h in some-intro f n k low holds)

module _ (m : BoundModel) (cube : ℕ) (area : Area) (r : Reference) where
  abbrev each : ℕ → Bool
  each own = list_any (covers m cube area r own) (rules_of m own).feeders

  same-any : (f g : Feeder → Bool) (xs : List Feeder) → ((x : Feeder) → f x ≡ g x) → list_any f xs ≡ list_any g xs
  same-any f g [] h = refl
  same-any f g (x ∷ xs) h = ap (λ t. t || list_any f xs) (h x) ∙ ap (λ t. g x || t) (same-any f g xs h)

  module _ (possible : is_possible (look_below m cube area r) ≡ true) where
    as-feeds : (own : ℕ) → each own ≡ list_any (feeds_all m cube area r own) (rules_of m own).feeders
    as-feeds own = same-any (covers m cube area r own) (feeds_all m cube area r own) (rules_of m own).feeders (λ f. ap (λ t. not t || feeds_all m cube area r own f) possible)

    other-feeds : (own : ℕ) → (own ≡ r.cube → ⊥) → (f : Feeder) → feeds_all m cube area r own f ≡ false
    unfolding feeds_all
    other-feeds own other f = neither (own == r.cube) _ _ (ne_eqb own r.cube other)
      where
        neither : (a b c : Bool) → a ≡ false → (a && b) && c ≡ false
        neither true b c h = absurd (cc)
        neither false b c h = refl

    same-cube : (own : ℕ) → each own ≡ true → own ≡ r.cube
    same-cube own h = by (own == r.cube) refl
      where
        by : (t : Bool) → (own == r.cube) ≡ t → own ≡ r.cube
        by true e = (Decides-eqb own r.cube).0 e
        by false e = absurd (
            let apart : own ≡ r.cube → ⊥ = λ same. (let clash : (own == r.cube) ≡ true = (Decides-eqb own r.cube).1 same in cc) in
            let none = list_any_none (feeds_all m cube area r own) (rules_of m own).feeders (λ k d low. other-feeds own apart (get_or (rules_of m own).feeders k d)) in
            let clash : true ≡ false = sym h ∙ as-feeds own ∙ none in cc)

    pub cover-possible : r.cube < length m.space.cubes → list_any (feeds_all m cube area r r.cube) (rules_of m r.cube).feeders ≡ has_cover m cube area r
    unfolding has_cover
    cover-possible low = sym (as-feeds r.cube) ∙ true-both (each r.cube) (list_any each (range_with_len 0 (length m.space.cubes)))
        (λ h. at-range each (length m.space.cubes) r.cube low h)
        (λ h. let (k, less, holds) = in-range each (length m.space.cubes) h in subst (λ k. each k ≡ true) (same-cube k holds) holds)

  pub cover-none : is_possible (look_below m cube area r) ≡ false → some_below (λ own. not (length (rules_of m own).feeders == 0)) (length m.space.cubes) ≡ has_cover m cube area r
  unfolding has_cover
  cover-none none = range-some (λ own. not (length (rules_of m own).feeders == 0)) (length m.space.cubes) ∙ same-each (range_with_len 0 (length m.space.cubes))
    where
      one : (own : ℕ) (xs : List Feeder) → not (length xs == 0) ≡ list_any (covers m cube area r own) xs
      one own [] = refl
      one own (x ∷ xs) = ap not (ne_eqb (suc (length xs)) 0 (λ e. omega (arith, e))) ∙ sym (ap (λ t. (not t || feeds_all m cube area r own x) || list_any (covers m cube area r own) xs) none)

      same-each : (ks : List ℕ) → list_any (λ own. not (length (rules_of m own).feeders == 0)) ks ≡ list_any each ks
      same-each [] = refl
      same-each (k ∷ ks) = ap (λ t. t || list_any (λ own. not (length (rules_of m own).feeders == 0)) ks) (one k (rules_of m k).feeders) ∙ ap (λ t. each k || t) (same-each ks)

-- ---- one feeder

pub feeder-at : (m : BoundModel) (own k : ℕ) (fs : List Feeder) (f : Feeder) → AreRules m.space m.rules → own < length m.space.cubes → fs ≡ (rules_of m own).feeders → k < length fs → f ≡ get_or fs k f → IsFeeder m.space own f
feeder-at m own k fs f ruled there same low is =
    let long : k < length (rules_of m own).feeders = subst (λ (fs : List Feeder). k < length fs) same low in
    let at : get_or (rules_of m own).feeders k f ≡ f = ap (λ (fs : List Feeder). get_or fs k f) (sym same) ∙ sym is in
    subst (IsFeeder m.space own) at ((ruled.cube own there).feeders k f long)

pub look-leaves : (m : BoundModel) (view : ReferenceView) → view.counted ≡ Leaves → look_of m view ≡ look_below m view.cube view.area.now view.reference.now
look-leaves m view is = ap (λ k. record { space = m.space; cube = view.cube; area = view.area.now; args = view.reference.now.args; counts = counts_of k m view.reference.now.cube }) is

pub all-hold : (a b c d : Bool) → a ≡ true → b ≡ true → d ≡ true → c ≡ (a && b) && (c && d)
all-hold true true c true p q s = sym (and-true c)
all-hold false b c d p q s = absurd (cc)
all-hold true false c d p q s = absurd (cc)
all-hold true true c false p q s = absurd (cc)

pub none-holds : (a b c d : Bool) → d ≡ false → d ≡ (a && b) && (c && d)
none-holds true true true false e = refl
none-holds true true false false e = refl
none-holds true false c false e = refl
none-holds false b c false e = refl
none-holds a b c true e = absurd (cc)
