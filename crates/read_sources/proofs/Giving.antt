-- What the elements of a dimension give of what a source asks.
use Rattle.std.proofs.Common.{◌≡◌, refl, sym, ap, ◌∙◌, subst, ℕ, inl, inr, ◌⊎◌, Bool, true, false, not, ◌&&◌, ◌||◌, ◌==◌, ℤ, Option, Some, None, is_some, if◌then◌else◌, List, [], ◌∷◌}
use Rattle.std.specs.Prelude.{IsTrue, ◌↔◌}
use Rattle.std.specs.List.{list_any, list_all}
use Rattle.std.proofs.lemmas.Bool.{and_parts, and_from, or_left, or_right, or_cases, not-true, not-false}
use Rattle.dim_weights.specs.Table.{is_nonzero}
use Rattle.cube_space.specs.Layout.{Layout, axes}
use Rattle.rule_laws.specs.Meaning.{Precedent, Named, Components}
use Rattle.rule_model.specs.BoundModel.{BoundModel}
use Rattle.order_laws.specs.Scales.{parts_in, is_total, is_leaf_element}
use Rattle.order_laws.specs.Earlier.{is_same, moved_leaves, kinds_before}
use Rattle.order_laws.proofs.EndingFacts.{from-same, to-same}
use Rattle.ref_order.specs.declared.kinds.ByKinds.{ByKinds}
use Rattle.arrow_laws.specs.ByDimension.{admits, asks_total, names_from, has_element, serves, names_total, is_from, Asked}
use Rattle.read_sources.specs.declared.source.Source.{Source}
use Rattle.read_sources.specs.declared.source.Given.{Given}
use Rattle.read_sources.specs.Ways.{precedent, reads_from, choice, asked, meets}
use Rattle.read_sources.specs.Sources.{IsWithin}
use Rattle.read_sources.specs.Giving.{may_name, HasOfKinds, AreKindsIn, HasOne, IsGivenIn, has_admitted, given_by, has_one}

-- ---- tests

admits-leaves : (its : Option Bool) → admits its true ≡ true
admits-leaves None = refl
admits-leaves (Some true) = refl
admits-leaves (Some false) = refl

asked-admits : (its : Option Bool) (leaves : Bool) → asks_total its leaves ≡ true → admits its false ≡ true
asked-admits None leaves h = refl
asked-admits (Some true) leaves h = absurd (cc)
asked-admits (Some false) leaves h = refl

total-admitted : (kind : Bool) → admits (Some kind) false ≡ true → not kind ≡ true
total-admitted true h = absurd (cc)
total-admitted false h = refl

admitted-total : (kind : Bool) → not kind ≡ true → admits (Some kind) false ≡ true
admitted-total true h = absurd (cc)
admitted-total false h = refl

-- what serves names leaves, or may name what isn't one
split-named : (its : Option Bool) (names leaves : Bool) → names && admits its leaves ≡ (names && is_same true leaves) || (admits its false && (names && is_same false leaves))
split-named None false leaves = refl
split-named None true true = refl
split-named None true false = refl
split-named (Some true) false leaves = refl
split-named (Some true) true true = refl
split-named (Some true) true false = refl
split-named (Some false) false leaves = refl
split-named (Some false) true true = refl
split-named (Some false) true false = refl

split-leaf : (its : Option Bool) (leaf : Bool) → admits its leaf ≡ is_same true leaf || (admits its false && is_same false leaf)
split-leaf its leaf = split-named its true leaf

split-more : (t leaf counts a b : Bool) → (leaf || t && not leaf) && counts || (a || t && b) ≡ (leaf && counts || a) || t && (not leaf && counts || b)
split-more true true true a b = refl
split-more true true false a b = refl
split-more true false true true b = refl
split-more true false true false b = refl
split-more true false false a b = refl
split-more false true true a b = refl
split-more false true false a b = refl
split-more false false true a b = refl
split-more false false false a b = refl

split-parts : (its : Option Bool) (leaf : ℕ → Bool) (parts : List (ℕ × ℤ)) → list_any (λ part. admits its (leaf part.0) && is_nonzero part.1) parts
    ≡ list_any (λ part. is_same true (leaf part.0) && is_nonzero part.1) parts || (admits its false && list_any (λ part. is_same false (leaf part.0) && is_nonzero part.1) parts)
split-parts its leaf [] = none (admits its false)
  where
    none : (t : Bool) → false ≡ false || (t && false)
    none true = refl
    none false = refl
split-parts its leaf (part ∷ parts) =
    let some : Bool → Bool = λ kind. list_any (λ (part : ℕ × ℤ). is_same kind (leaf part.0) && is_nonzero part.1) parts in
    ap (λ x. (admits its (leaf part.0) && is_nonzero part.1) || x) (split-parts its leaf parts)
    ∙ ap (λ x. (x && is_nonzero part.1) || (some true || (admits its false && some false))) (split-leaf its (leaf part.0))
    ∙ split-more (admits its false) (leaf part.0) (is_nonzero part.1) (some true) (some false)

-- ---- an element that serves

module _ (space : Layout) (cube : ℕ) where
  abbrev leaf_in : ℕ → ℕ → Bool
  leaf_in = is_leaf_element (axes space cube)

  serves-split : (p : Precedent) (its : Option Bool) (i e : ℕ) → serves space cube p its i e ≡ may_name space cube p true i e || (admits its false && may_name space cube p false i e)
  serves-split (Named r) its i e = split-named its (list_all (names_from i e) r.args) (moved_leaves (axes space r.cube) 0 r.args i e)
  serves-split (Components dim) its i e = by (i == dim)
    where
      some : (ℕ → Bool) → Bool
      some test = list_any (λ (part : ℕ × ℤ). test part.0 && is_nonzero part.1) (parts_in (axes space cube) i e)

      by : (t : Bool) → (if t then some (λ part. admits its (leaf_in i part)) else admits its (leaf_in i e))
          ≡ (if t then some (λ part. is_same true (leaf_in i part)) else is_same true (leaf_in i e)) || (admits its false && (if t then some (λ part. is_same false (leaf_in i part)) else is_same false (leaf_in i e)))
      by true = split-parts its (leaf_in i) (parts_in (axes space cube) i e)
      by false = split-leaf its (leaf_in i e)

  back : (t : Bool) → t ≡ true → not (not t) ≡ true
  back true h = refl
  back false h = absurd (cc)

  total-may : (p : Precedent) (its : Option Bool) (i e : ℕ) → serves space cube p its i e ≡ true → names_total space cube p i e ≡ true → may_name space cube p false i e ≡ true
  total-may (Named r) its i e h total = and_from (list_all (names_from i e) r.args) _ (and_parts (list_all (names_from i e) r.args) _ h).0 total
  total-may (Components dim) its i e h total = by (i == dim) total
    where
      some : (ℕ → Bool) → Bool
      some test = list_any (λ (part : ℕ × ℤ). test part.0 && is_nonzero part.1) (parts_in (axes space cube) i e)

      by : (t : Bool) → (if t then some (λ part. not (leaf_in i part)) else is_total (axes space cube) i e) ≡ true
          → (if t then some (λ part. is_same false (leaf_in i part)) else is_same false (leaf_in i e)) ≡ true
      by true h = h
      by false h = back (is_total (axes space cube) i e) h

  may-total : (p : Precedent) (i e : ℕ) → may_name space cube p false i e ≡ true → names_total space cube p i e ≡ true
  may-total (Named r) i e h = (and_parts (list_all (names_from i e) r.args) _ h).1
  may-total (Components dim) i e h = by (i == dim) h
    where
      some : (ℕ → Bool) → Bool
      some test = list_any (λ (part : ℕ × ℤ). test part.0 && is_nonzero part.1) (parts_in (axes space cube) i e)

      by : (t : Bool) → (if t then some (λ part. is_same false (leaf_in i part)) else is_same false (leaf_in i e)) ≡ true
          → (if t then some (λ part. not (leaf_in i part)) else is_total (axes space cube) i e) ≡ true
      by true h = h
      by false h = not-false _ (not-true _ h)

-- ---- the elements of a dimension, by their kinds

module _ (m : BoundModel) (s : Source) (asks : s.asks ≡ asks_total s.its (kinds_before m (precedent s)).its) (i : ℕ) where
  abbrev leaf : ℕ → Bool
  leaf e = is_leaf_element (axes m.space s.cube) i e

  abbrev may : Bool → ℕ → Bool
  may kind e = may_name m.space s.cube (precedent s) kind i e

  -- an element of the area of this kind that may name elements of that kind
  abbrev Has : Bool → Bool → Type 0
  Has own its = HasOfKinds m s i (record { own = own; its = its })

  asks-admits : IsTrue s.asks → admits s.its false ≡ true
  asks-admits on = asked-admits s.its (kinds_before m (precedent s)).its (sym asks ∙ on)

  abbrev IsOne : ℕ → Bool → Bool → Type 0
  IsOne e own its = IsTrue (reads_from m s i e) × (leaf e ≡ own) × (may its e ≡ true)

  from-kinds : (own its : Bool) → admits (Some s.kind) own ≡ true → admits s.its its ≡ true → Has own its → (e : ℕ) × IsOne e own its
  unfolding is_from
  from-kinds own its own_in its_in (e, inside, alike, names) =
      let kind_is : leaf e ≡ own = from-same own (leaf e) alike in (
        e,
        (
          and_from (has_element m.space s.cube s.area.now i e) _ inside
              (and_from (admits (Some s.kind) (leaf e)) (serves m.space s.cube (precedent s) s.its i e) (ap (admits (Some s.kind)) kind_is ∙ own_in) (serving its its_in names)),
          kind_is,
          names,
        ),
      )
    where
      serving : (its : Bool) → admits s.its its ≡ true → may its e ≡ true → serves m.space s.cube (precedent s) s.its i e ≡ true
      serving true its_in names = serves-split m.space s.cube (precedent s) s.its i e ∙ or_left (may true e) _ names
      serving false its_in names = serves-split m.space s.cube (precedent s) s.its i e ∙ or_right (may true e) _ (and_from (admits s.its false) (may false e) its_in names)

  -- what holds of an element from which is read
  abbrev parts : (e : ℕ) → IsTrue (reads_from m s i e) → IsTrue (has_element m.space s.cube s.area.now i e) × (admits (Some s.kind) (leaf e) ≡ true) × (serves m.space s.cube (precedent s) s.its i e ≡ true)
  unfolding is_from
  parts e from =
      let (inside, rest) = and_parts (has_element m.space s.cube s.area.now i e) _ from in
      let (own_in, serving) = and_parts (admits (Some s.kind) (leaf e)) (serves m.space s.cube (precedent s) s.its i e) rest in
      (inside, own_in, serving)

  has-kinds : (e : ℕ) → IsTrue (reads_from m s i e) → Has (leaf e) true ⊎ ((admits s.its false ≡ true) × Has (leaf e) false)
  has-kinds e from =
      let (inside, own_in, serving) = parts e from in
      by (or_cases (may true e) _ (sym (serves-split m.space s.cube (precedent s) s.its i e) ∙ serving)) inside
    where
      by : (may true e ≡ true) ⊎ (admits s.its false && may false e ≡ true) → IsTrue (has_element m.space s.cube s.area.now i e) → Has (leaf e) true ⊎ ((admits s.its false ≡ true) × Has (leaf e) false)
      by (inl names) inside = inl (e, inside, to-same (leaf e) (leaf e) refl, names)
      by (inr names) inside = let (its_in, may_total) = and_parts (admits s.its false) (may false e) names in inr (its_in, (e, inside, to-same (leaf e) (leaf e) refl, may_total))

  total-kinds : (e : ℕ) → IsTrue (reads_from m s i e) → names_total m.space s.cube (precedent s) i e ≡ true → Has (leaf e) false
  total-kinds e from total =
      let (inside, own_in, serving) = parts e from in
      (e, inside, to-same (leaf e) (leaf e) refl, total-may m.space s.cube (precedent s) s.its i e serving total)

  -- ---- as the numbers have it

  module _ (numbers : ByKinds) (are : AreKindsIn m s i numbers) where
    leaf-leaf : IsTrue (is_some numbers.leaf.leaf) ↔ Has true true
    leaf-leaf = are (record { own = true; its = true })

    leaf-total : IsTrue (is_some numbers.leaf.total) ↔ Has true false
    leaf-total = are (record { own = true; its = false })

    total-leaf : IsTrue (is_some numbers.total.leaf) ↔ Has false true
    total-leaf = are (record { own = false; its = true })

    total-total : IsTrue (is_some numbers.total.total) ↔ Has false false
    total-total = are (record { own = false; its = false })

    -- an element of this kind from which is read
    abbrev HasAdmitted : Bool → Type 0
    HasAdmitted own = (e : ℕ) × IsTrue (reads_from m s i e) × (leaf e ≡ own)

    admitted : (own : Bool) (n t : Option ℤ) → admits (Some s.kind) own ≡ true → IsTrue (is_some n) ↔ Has own true → IsTrue (is_some t) ↔ Has own false
        → is_some n || (admits s.its false && is_some t) ≡ true → HasAdmitted own
    admitted own n t own_in one other h = elim (or_cases (is_some n) _ h) [
      | inl names ↦ let (e, (from, is, names)) = from-kinds own true own_in (admits-leaves s.its) (one.0 names) in (e, from, is)
      | inr names ↦
          let (its_in, some) = and_parts (admits s.its false) (is_some t) names in
          let (e, (from, is, names)) = from-kinds own false own_in its_in (other.0 some) in (e, from, is)
    ]

    admits-it : (own : Bool) (n t : Option ℤ) → IsTrue (is_some n) ↔ Has own true → IsTrue (is_some t) ↔ Has own false → HasAdmitted own → is_some n || (admits s.its false && is_some t) ≡ true
    admits-it own n t one other (e, from, is) = by (has-kinds e from)
      where
        by : Has (leaf e) true ⊎ ((admits s.its false ≡ true) × Has (leaf e) false) → is_some n || (admits s.its false && is_some t) ≡ true
        by (inl names) = or_left (is_some n) _ (one.1 (subst (λ b. Has b true) is names))
        by (inr (its_in, names)) = or_right (is_some n) _ (and_from (admits s.its false) (is_some t) its_in (other.1 (subst (λ b. Has b false) is names)))

    total-is : (e : ℕ) → leaf e ≡ false → is_total (axes m.space s.cube) i e ≡ true
    total-is e is = not-false _ is

    is-total : (e : ℕ) → is_total (axes m.space s.cube) i e ≡ true → leaf e ≡ false
    is-total e is = ap not is

    -- some element may be that of a cell
    pub one-is : has_one s numbers ≡ true → (e : ℕ) × IsTrue (reads_from m s i e)
    one-is h = elim (or_cases (has_admitted s.its numbers.leaf) _ h) [
      | inl leaves ↦ let (e, from, is) = admitted true numbers.leaf.leaf numbers.leaf.total (admits-leaves (Some s.kind)) leaf-leaf leaf-total leaves in (e, from)
      | inr totals ↦
          let (kind, some) = and_parts (not s.kind) (has_admitted s.its numbers.total) totals in
          let (e, from, is) = admitted false numbers.total.leaf numbers.total.total (admitted-total s.kind kind) total-leaf total-total some in (e, from)
    ]

    pub is-one : (e : ℕ) → IsTrue (reads_from m s i e) → has_one s numbers ≡ true
    is-one e from = by (leaf e) refl
      where
        by : (t : Bool) → leaf e ≡ t → has_one s numbers ≡ true
        by true is = or_left (has_admitted s.its numbers.leaf) _ (admits-it true numbers.leaf.leaf numbers.leaf.total leaf-leaf leaf-total (e, from, is))
        by false is =
            or_right (has_admitted s.its numbers.leaf) _
            (and_from (not s.kind) _ (total-admitted s.kind (ap (admits (Some s.kind)) (sym is) ∙ (parts e from).1)) (admits-it false numbers.total.leaf numbers.total.total total-leaf total-total (e, from, is)))

    abbrev given : Given
    given = given_by s numbers

    own-given : (want : Asked) → IsTrue want.own → want.its ≡ false → IsWithin want (asked s) → IsTrue given.own ↔ HasOne (choice m s) i want
    own-given want own off within = (
      λ h.
          (let (kind, some) = and_parts (not s.kind) (has_admitted s.its numbers.total) h in
          let (e, from, is) = admitted false numbers.total.leaf numbers.total.total (admitted-total s.kind kind) total-leaf total-total some in
          record { element = e; passes = from; own = λ _. total-is e is; its = λ on. absurd (let clash : true ≡ false = sym on ∙ off in cc) }),
      λ one. and_from (not s.kind) _ (within.own own) (admits-it false numbers.total.leaf numbers.total.total total-leaf total-total (one.element, one.passes, is-total one.element (one.own own))),
    )

    its-given : (want : Asked) → want.own ≡ false → IsTrue want.its → IsWithin want (asked s) → IsTrue given.its ↔ HasOne (choice m s) i want
    its-given want off its within = (
      λ h.
          (let (on, some) = and_parts s.asks _ h in
          elim (or_cases (is_some numbers.leaf.total) _ some) [
            | inl leaves ↦ made (from-kinds true false (admits-leaves (Some s.kind)) (asks-admits on) (leaf-total.0 leaves))
            | inr totals ↦
                let (kind, total) = and_parts (not s.kind) (is_some numbers.total.total) totals in
                made (from-kinds false false (admitted-total s.kind kind) (asks-admits on) (total-total.0 total))
          ]),
      λ one. and_from s.asks _ (within.its its) (by one (leaf one.element) refl),
    )
      where
        made : {own : Bool} → (e : ℕ) × IsOne e own false → HasOne (choice m s) i want
        made (e, (from, is, names)) = record {
          element = e;
          passes = from;
          own = λ on. absurd (let clash : true ≡ false = sym on ∙ off in cc);
          its = λ _. may-total m.space s.cube (precedent s) i e names;
        }

        by : (one : HasOne (choice m s) i want) (t : Bool) → leaf one.element ≡ t → is_some numbers.leaf.total || (not s.kind && is_some numbers.total.total) ≡ true
        by one true is = or_left (is_some numbers.leaf.total) _ (leaf-total.1 (subst (λ b. Has b false) is (total-kinds one.element one.passes (one.its its))))
        by one false is =
            or_right (is_some numbers.leaf.total) _
            (and_from (not s.kind) _ (total-admitted s.kind (ap (admits (Some s.kind)) (sym is) ∙ (parts one.element one.passes).1))
            (total-total.1 (subst (λ b. Has b false) is (total-kinds one.element one.passes (one.its its)))))

    both-given : (want : Asked) → IsTrue want.own → IsTrue want.its → IsWithin want (asked s) → IsTrue given.both ↔ HasOne (choice m s) i want
    both-given want own its within = (
      λ h.
          (let (on, some) = and_parts s.asks _ h in
          let (kind, total) = and_parts (not s.kind) (is_some numbers.total.total) some in
          let (e, (from, is, names)) = from-kinds false false (admitted-total s.kind kind) (asks-admits on) (total-total.0 total) in
          record { element = e; passes = from; own = λ _. total-is e is; its = λ _. may-total m.space s.cube (precedent s) i e names }),
      λ one.
          and_from s.asks _ (within.its its) (and_from (not s.kind) _ (within.own own)
          (total-total.1 (subst (λ b. Has b false) (is-total one.element (one.own own)) (total-kinds one.element one.passes (one.its its))))),
    )

    pub given-in : IsGivenIn (choice m s) i (asked s) given
    given-in want within some = by want.own refl want.its refl
      where
        met : (a : Bool) → want.own ≡ a → (b : Bool) → want.its ≡ b → meets given want ≡ meets given (record { own = a; its = b })
        met a own b its = ap (λ x. meets given (record { own = x; its = want.its })) own ∙ ap (λ x. meets given (record { own = a; its = x })) its

        by : (a : Bool) → want.own ≡ a → (b : Bool) → want.its ≡ b → IsTrue (meets given want) ↔ HasOne (choice m s) i want
        by true own true its = subst (λ w. IsTrue w ↔ HasOne (choice m s) i want) (sym (met true own true its)) (both-given want own its within)
        by true own false its = subst (λ w. IsTrue w ↔ HasOne (choice m s) i want) (sym (met true own false its)) (own-given want own its within)
        by false own true its = subst (λ w. IsTrue w ↔ HasOne (choice m s) i want) (sym (met false own true its)) (its-given want own its within)
        by false own false its = absurd (let clash : true ≡ false = sym some ∙ ap (λ b. b || want.its) own ∙ its in cc)
