-- What dimensions other than two give together.
use Rattle.std.proofs.Common.{◌≡◌, refl, sym, ap, ◌∙◌, arith, subst, ℕ, suc, ◌+◌, ◌<◌, inl, inr, ◌⊎◌, Bool, true, false, ◌&&◌, ◌||◌}
use Rattle.std.specs.Prelude.{IsTrue, ◌↔◌}
use Rattle.std.proofs.lemmas.Bool.{and_parts, and_from, or_left, or_right, or_cases, cases_lt}
use Rattle.arrow_laws.specs.ByDimension.{Asked, Choice, IsElsewhere, HasElsewhere}
use Rattle.read_sources.specs.declared.source.Given.{Given}
use Rattle.read_sources.specs.Ways.{meets}
use Rattle.read_sources.specs.Sources.{IsWithin, IsGiven}
use Rattle.read_sources.specs.Giving.{HasOne, IsGivenIn, below, merged}

-- nothing is asked, or one of both
abbrev pub only_own : Asked
only_own = record { own = true; its = false }

abbrev pub only_its : Asked
only_its = record { own = false; its = true }

abbrev both_asked : Asked
both_asked = record { own = true; its = true }

own-of : (want asked : Asked) → IsTrue want.own → IsWithin want asked → IsWithin only_own asked
own-of want asked own within = record { own = λ _. within.own own; its = λ h. absurd (cc) }

its-of : (want asked : Asked) → IsTrue want.its → IsWithin want asked → IsWithin only_its asked
its-of want asked its within = record { own = λ h. absurd (cc); its = λ _. within.its its }

pub none-asked : (c : Choice) (i k : ℕ) (want : Asked) → want.own ≡ false → want.its ≡ false → HasElsewhere c i k want
none-asked c i k want own its = record {
  d = 0;
  element = 0;
  own = λ h. absurd (let clash : true ≡ false = sym h ∙ own in cc);
  e = 0;
  other = 0;
  its = λ h. absurd (let clash : true ≡ false = sym h ∙ its in cc);
  same = λ _. refl;
}

-- by a dimension and an element of it
pub own-there : (c : Choice) (i k : ℕ) (want : Asked) (d x : ℕ) → want.its ≡ false → IsElsewhere c i k d x → IsTrue (c.own d x) → HasElsewhere c i k want
own-there c i k want d x none there total = record {
  d = d;
  element = x;
  own = λ _. (there, total);
  e = d;
  other = x;
  its = λ h. absurd (let clash : true ≡ false = sym h ∙ none in cc);
  same = λ _. refl;
}

pub its-there : (c : Choice) (i k : ℕ) (want : Asked) (d x : ℕ) → want.own ≡ false → IsElsewhere c i k d x → IsTrue (c.its d x) → HasElsewhere c i k want
its-there c i k want d x none there total = record {
  d = d;
  element = x;
  own = λ h. absurd (let clash : true ≡ false = sym h ∙ none in cc);
  e = d;
  other = x;
  its = λ _. (there, total);
  same = λ _. refl;
}

module _ (c : Choice) (i k n : ℕ) where
  raised : (d x : ℕ) → IsElsewhere (below c n) i k d x → IsElsewhere (below c (suc n)) i k d x
  raised d x there = record { within = omega (arith, there.within); not_first = there.not_first; not_second = there.not_second; passes = there.passes }

  lowered : (d x : ℕ) → d < n → IsElsewhere (below c (suc n)) i k d x → IsElsewhere (below c n) i k d x
  lowered d x low there = record { within = low; not_first = there.not_first; not_second = there.not_second; passes = there.passes }

  pub raise : (want : Asked) → HasElsewhere (below c n) i k want → HasElsewhere (below c (suc n)) i k want
  raise want has = record {
    d = has.d;
    element = has.element;
    own = λ on. (let (there, total) = has.own on in (raised has.d has.element there, total));
    e = has.e;
    other = has.other;
    its = λ on. (let (there, names) = has.its on in (raised has.e has.other there, names));
    same = has.same;
  }

  -- a dimension that is one of the two gives nothing
  pub skipped : (asked : Asked) (given : Given) → (n ≡ i) ⊎ (n ≡ k) → IsGiven (below c n) i k asked given → IsGiven (below c (suc n)) i k asked given
  skipped asked given either so want within = (λ h. raise want ((so want within).0 h), λ has. (so want within).1 (lower has))
    where
      off : (d x : ℕ) → IsElsewhere (below c (suc n)) i k d x → d < n
      off d x there = elim (cases_lt d n) [
        | inl low ↦ low
        | inr high ↦
            let same : d ≡ n = omega (arith, high, there.within) in
            absurd (elim either [ inl first ↦ there.not_first (same ∙ first) | inr second ↦ there.not_second (same ∙ second) ])
      ]

      lower : HasElsewhere (below c (suc n)) i k want → HasElsewhere (below c n) i k want
      lower has = record {
        d = has.d;
        element = has.element;
        own = λ on. (let (there, total) = has.own on in (lowered has.d has.element (off has.d has.element there) there, total));
        e = has.e;
        other = has.other;
        its = λ on. (let (there, names) = has.its on in (lowered has.e has.other (off has.e has.other there) there, names));
        same = has.same;
      }

  -- one dimension more
  module _ (asked : Asked) (old here : Given) (not_first : n ≡ i → ⊥) (not_second : n ≡ k → ⊥) (so : IsGiven (below c n) i k asked old) (now : IsGivenIn c n asked here) where
    abbrev up : Asked → Type 0
    up want = HasElsewhere (below c (suc n)) i k want

    at-n : (x : ℕ) → IsTrue (c.may_have n x) → IsElsewhere (below c (suc n)) i k n x
    at-n x passes = record { within = omega arith; not_first = not_first; not_second = not_second; passes = passes }

    at-here : (want : Asked) → HasOne c n want → up want
    at-here want one = record {
      d = n;
      element = one.element;
      own = λ on. (at-n one.element one.passes, one.own on);
      e = n;
      other = one.element;
      its = λ on. (at-n one.element one.passes, one.its on);
      same = λ _. refl;
    }

    -- an element of a dimension before, or of this one
    abbrev IsBefore : (ℕ → ℕ → Bool) → ℕ → ℕ → Type 0
    IsBefore test d x = (d < n) × IsElsewhere (below c n) i k d x × IsTrue (test d x)

    abbrev IsHere : (ℕ → ℕ → Bool) → ℕ → ℕ → Type 0
    IsHere test d x = (d ≡ n) × IsTrue (c.may_have n x) × IsTrue (test n x)

    where-is : (test : ℕ → ℕ → Bool) (d x : ℕ) → IsElsewhere (below c (suc n)) i k d x × IsTrue (test d x) → IsBefore test d x ⊎ IsHere test d x
    where-is test d x (there, passes) = elim (cases_lt d n) [
      | inl low ↦ inl (low, lowered d x low there, passes)
      | inr high ↦
          let same : d ≡ n = omega (arith, high, there.within) in
          inr (same, subst (λ j. IsTrue (c.may_have j x)) same there.passes, subst (λ j. IsTrue (test j x)) same passes)
    ]

    own-is : (want : Asked) → IsTrue want.own → want.its ≡ false → IsWithin want asked → IsTrue (old.own || here.own) ↔ up want
    own-is want own off within = (
      λ h. elim (or_cases old.own here.own h) [
        | inl before ↦ own-up ((so only_own (own-of want asked own within)).0 before)
        | inr one ↦ let has = (now only_own (own-of want asked own within) refl).0 one in own-there (below c (suc n)) i k want n has.element off (at-n has.element has.passes) (has.own refl)
      ],
      λ has. by has (where-is c.own has.d has.element (has.own own)),
    )
      where
        own-up : HasElsewhere (below c n) i k only_own → up want
        own-up has = let (there, total) = has.own refl in own-there (below c (suc n)) i k want has.d has.element off (raised has.d has.element there) total

        by : (has : up want) → IsBefore c.own has.d has.element ⊎ IsHere c.own has.d has.element → old.own || here.own ≡ true
        by has (inl (low, there, total)) = or_left old.own here.own ((so only_own (own-of want asked own within)).1 (own-there (below c n) i k only_own has.d has.element refl there total))
        by has (inr (same, passes, total)) =
            or_right old.own here.own ((now only_own (own-of want asked own within) refl).1 (record { element = has.element; passes = passes; own = λ _. total; its = λ h. absurd (cc) }))

    its-is : (want : Asked) → want.own ≡ false → IsTrue want.its → IsWithin want asked → IsTrue (old.its || here.its) ↔ up want
    its-is want off its within = (
      λ h. elim (or_cases old.its here.its h) [
        | inl before ↦ its-up ((so only_its (its-of want asked its within)).0 before)
        | inr one ↦ let has = (now only_its (its-of want asked its within) refl).0 one in its-there (below c (suc n)) i k want n has.element off (at-n has.element has.passes) (has.its refl)
      ],
      λ has. by has (where-is c.its has.e has.other (has.its its)),
    )
      where
        its-up : HasElsewhere (below c n) i k only_its → up want
        its-up has = let (there, total) = has.its refl in its-there (below c (suc n)) i k want has.e has.other off (raised has.e has.other there) total

        by : (has : up want) → IsBefore c.its has.e has.other ⊎ IsHere c.its has.e has.other → old.its || here.its ≡ true
        by has (inl (low, there, total)) = or_left old.its here.its ((so only_its (its-of want asked its within)).1 (its-there (below c n) i k only_its has.e has.other refl there total))
        by has (inr (same, passes, total)) =
            or_right old.its here.its ((now only_its (its-of want asked its within) refl).1 (record { element = has.other; passes = passes; own = λ h. absurd (cc); its = λ _. total }))

    -- both, of two dimensions
    apart : (want : Asked) (d x e y : ℕ) → (d ≡ e → ⊥) → IsElsewhere (below c (suc n)) i k d x × IsTrue (c.own d x) → IsElsewhere (below c (suc n)) i k e y × IsTrue (c.its e y) → up want
    apart want d x e y two one other = record { d = d; element = x; own = λ _. one; e = e; other = y; its = λ _. other; same = λ same. absurd (two same) }

    both-is : (want : Asked) → IsTrue want.own → IsTrue want.its → IsWithin want asked → IsTrue (old.both || (here.both || ((old.own && here.its) || (old.its && here.own)))) ↔ up want
    both-is want own its within = (from, λ has. to has (where-is c.own has.d has.element (has.own own)) (where-is c.its has.e has.other (has.its its)))
      where
        own_in : IsWithin only_own asked
        own_in = own-of want asked own within

        its_in : IsWithin only_its asked
        its_in = its-of want asked its within

        both_in : IsWithin both_asked asked
        both_in = record { own = λ _. within.own own; its = λ _. within.its its }

        any : HasElsewhere (below c n) i k both_asked → up want
        any has = record {
          d = has.d;
          element = has.element;
          own = λ _. (let (there, total) = has.own refl in (raised has.d has.element there, total));
          e = has.e;
          other = has.other;
          its = λ _. (let (there, total) = has.its refl in (raised has.e has.other there, total));
          same = has.same;
        }

        crossed : (old.own && here.its ≡ true) ⊎ (old.its && here.own ≡ true) → up want
        crossed (inl h) =
            let (before, one) = and_parts old.own here.its h in
            let has = (so only_own own_in).0 before in
            let (there, total) = has.own refl in
            let it = (now only_its its_in refl).0 one in
            let low = there.within in
            apart want has.d has.element n it.element (λ same. omega (arith, same, low)) (raised has.d has.element there, total) (at-n it.element it.passes, it.its refl)
        crossed (inr h) =
            let (before, one) = and_parts old.its here.own h in
            let has = (so only_its its_in).0 before in
            let (there, total) = has.its refl in
            let it = (now only_own own_in refl).0 one in
            let low = there.within in
            apart want n it.element has.e has.other (λ same. omega (arith, same, low)) (at-n it.element it.passes, it.own refl) (raised has.e has.other there, total)

        from : old.both || (here.both || ((old.own && here.its) || (old.its && here.own))) ≡ true → up want
        from h = elim (or_cases old.both _ h) [
          | inl before ↦ any ((so both_asked both_in).0 before)
          | inr rest ↦ elim (or_cases here.both _ rest) [
            | inl one ↦
                let it = (now both_asked both_in refl).0 one in
                at-here want (record { element = it.element; passes = it.passes; own = λ _. it.own refl; its = λ _. it.its refl })
            | inr two ↦ crossed (or_cases (old.own && here.its) (old.its && here.own) two)
          ]
        ]

        to : (has : up want) → IsBefore c.own has.d has.element ⊎ IsHere c.own has.d has.element → IsBefore c.its has.e has.other ⊎ IsHere c.its has.e has.other
            → old.both || (here.both || ((old.own && here.its) || (old.its && here.own))) ≡ true
        to has (inl (low, there, total)) (inl (less, other, names)) =
            or_left old.both _ ((so both_asked both_in).1 (record { d = has.d; element = has.element; own = λ _. (there, total); e = has.e; other = has.other; its = λ _. (other, names); same = has.same }))
        to has (inl (low, there, total)) (inr (at, passes, names)) =
            or_right old.both _ (or_right here.both _ (or_left (old.own && here.its) _ (and_from old.own here.its
            ((so only_own own_in).1 (own-there (below c n) i k only_own has.d has.element refl there total))
            ((now only_its its_in refl).1 (record { element = has.other; passes = passes; own = λ h. absurd (cc); its = λ _. names })))))
        to has (inr (at, passes, total)) (inl (less, other, names)) =
            or_right old.both _ (or_right here.both _ (or_right (old.own && here.its) _ (and_from old.its here.own
            ((so only_its its_in).1 (its-there (below c n) i k only_its has.e has.other refl other names))
            ((now only_own own_in refl).1 (record { element = has.element; passes = passes; own = λ _. total; its = λ h. absurd (cc) })))))
        to has (inr (at, passes, total)) (inr (at_e, other, names)) =
            let one : has.element ≡ has.other = has.same (at ∙ sym at_e) in
            or_right old.both _ (or_left here.both _ ((now both_asked both_in refl).1
            (record { element = has.element; passes = passes; own = λ _. total; its = λ _. subst (λ y. IsTrue (c.its n y)) (sym one) names })))

    pub one-more : IsGiven (below c (suc n)) i k asked (merged old here)
    one-more want within = by want.own refl want.its refl
      where
        met : (a : Bool) → want.own ≡ a → (b : Bool) → want.its ≡ b → meets (merged old here) want ≡ meets (merged old here) (record { own = a; its = b })
        met a own b its = ap (λ x. meets (merged old here) (record { own = x; its = want.its })) own ∙ ap (λ x. meets (merged old here) (record { own = a; its = x })) its

        by : (a : Bool) → want.own ≡ a → (b : Bool) → want.its ≡ b → IsTrue (meets (merged old here) want) ↔ up want
        by true own true its = subst (λ w. IsTrue w ↔ up want) (sym (met true own true its)) (both-is want own its within)
        by true own false its = subst (λ w. IsTrue w ↔ up want) (sym (met true own false its)) (own-is want own its within)
        by false own true its = subst (λ w. IsTrue w ↔ up want) (sym (met false own true its)) (its-is want own its within)
        by false own false its = (λ _. none-asked (below c (suc n)) i k want own its, λ _. met false own false its)

-- no dimension gives anything
pub none-given : (c : Choice) (i k : ℕ) (asked : Asked) → IsGiven (below c 0) i k asked (record { own = false; its = false; both = false })
none-given c i k asked want within = by want.own refl want.its refl
  where
    nothing : Given
    nothing = record { own = false; its = false; both = false }

    met : (a : Bool) → want.own ≡ a → (b : Bool) → want.its ≡ b → meets nothing want ≡ meets nothing (record { own = a; its = b })
    met a own b its = ap (λ x. meets nothing (record { own = x; its = want.its })) own ∙ ap (λ x. meets nothing (record { own = a; its = x })) its

    no-own : HasElsewhere (below c 0) i k want → IsTrue want.own → ⊥
    no-own has own = let (there, total) = has.own own in let low = there.within in omega (arith, low)

    no-its : HasElsewhere (below c 0) i k want → IsTrue want.its → ⊥
    no-its has its = let (there, total) = has.its its in let low = there.within in omega (arith, low)

    by : (a : Bool) → want.own ≡ a → (b : Bool) → want.its ≡ b → IsTrue (meets nothing want) ↔ HasElsewhere (below c 0) i k want
    by true own true its = (λ h. absurd (let clash : true ≡ false = sym h ∙ met true own true its in cc), λ has. absurd (no-own has own))
    by true own false its = (λ h. absurd (let clash : true ≡ false = sym h ∙ met true own false its in cc), λ has. absurd (no-own has own))
    by false own true its = (λ h. absurd (let clash : true ≡ false = sym h ∙ met false own true its in cc), λ has. absurd (no-its has its))
    by false own false its = (λ _. none-asked (below c 0) i k want own its, λ _. met false own false its)

-- up to the next dimension
pub next : (c : Choice) (i k n : ℕ) (asked : Asked) (given : Given) → IsGiven (below c (suc n)) i k asked given → IsGiven (below c (n + 1)) i k asked given
next c i k n asked given so = let same : suc n ≡ n + 1 = omega arith in subst (λ j. IsGiven (below c j) i k asked given) same so
