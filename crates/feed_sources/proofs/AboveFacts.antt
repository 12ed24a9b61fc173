-- The elements above the leaves of a dimension: how they are gathered, and what is found in them.
use Rattle.std.proofs.Common.{◌≡◌, refl, sym, ap, ◌∙◌, subst, arith, zero-add, ℕ, ◌+◌, ◌<◌, ◌≤◌, ◌⊎◌, inl, inr, Bool, true, false, ℤ, List, [], ◌∷◌, ◌++◌, length, map, take, set, get_or}
use Rattle.std.specs.Prelude.{◌↔◌, ◌==◌, All}
use Rattle.std.specs.List.{Contains, list_any, range_with_len}
use Rattle.std.proofs.lemmas.Bool.{cases_eq, cases_lt, cond_both, eq-eqb, eqb-true}
use Rattle.std.proofs.lemmas.List.{get_or_default, take_more, take_all, map-append, length-set, get_or-set_same, get_or-set_other}
use Rattle.std.proofs.lemmas.List.Elements.{Contains-push_cases, Contains-append_left, Contains-append_right}
use Rattle.std.proofs.lemmas.List.Folds.{Any-from_list_any, list_any_at}
use Rattle.std.proofs.lemmas.List.FromFn.{length-range_with_len, get_or-range_with_len}
use Rattle.dim_core.specs.Outline.{Outline}
use Rattle.dim_weights.specs.Coefficients.{coef}
use Rattle.dim_weights.specs.Table.{IsWeightsOf, is_nonzero, leaves_in, leaves_of, nonzero_among}
use Rattle.dim_weights.proofs.Nonzero.{among-in}
use Rattle.feed_sources.specs.Inside.Above.{AreAbove, AreAdded, IsAboveOf, Meet}
use Rattle.feed_sources.proofs.Members.{at-front, behind, front-or-behind, none-there}

-- ---- the leaves of pairs

abbrev firsts : List (ℕ × ℤ) → List ℕ
firsts pairs = map (λ (pair : ℕ × ℤ). pair.0) pairs

first-there : (pairs : List (ℕ × ℤ)) (p : ℕ × ℤ) → Contains pairs p → Contains (firsts pairs) p.0
first-there [] p has = absurd (none-there p has)
first-there (q ∷ ps) p has =
    elim (front-or-behind q ps p has) [
      | inl is ↦ subst (λ (r : ℕ × ℤ). Contains (q.0 ∷ firsts ps) r.0) is (at-front q.0 (firsts ps))
      | inr more ↦ behind q.0 (firsts ps) p.0 (first-there ps p more)
    ]

in-pairs : (f : ℕ → ℤ) (ls : List ℕ) (l : ℕ) → Contains (firsts (nonzero_among f ls)) l → is_nonzero (f l) ≡ true
in-pairs f [] l has = absurd (none-there l has)
in-pairs f (x ∷ ls) l has =
    cond_both (is_nonzero (f x)) ((x, f x) ∷ nonzero_among f ls) (nonzero_among f ls) (λ (ps : List (ℕ × ℤ)). Contains (firsts ps) l → is_nonzero (f l) ≡ true)
    (λ on there. elim (front-or-behind x (firsts (nonzero_among f ls)) l there) [
      | inl is ↦ subst (λ (k : ℕ). is_nonzero (f k) ≡ true) is on
      | inr more ↦ in-pairs f ls l more
    ])
    (λ off there. in-pairs f ls l there) has

counted-there : (d : Outline) (e l : ℕ) → l < length d.elements → is_nonzero (coef d e l) ≡ true → Contains (firsts (leaves_of d e)) l
counted-there d e l low on =
    let listed : Contains (range_with_len 0 (length d.elements)) l = (l, omega (arith, low, length-range_with_len 0 (length d.elements)), get_or-range_with_len 0 (length d.elements) l l low ∙ zero-add l) in
    first-there (leaves_of d e) (l, coef d e l) (among-in (coef d e) (range_with_len 0 (length d.elements)) l listed on)

there-counted : (d : Outline) (e l : ℕ) → Contains (firsts (leaves_of d e)) l → is_nonzero (coef d e l) ≡ true
there-counted d e l has = in-pairs (coef d e) (range_with_len 0 (length d.elements)) l has

-- ---- how rows are made

module _ (before rows after : List (List ℕ)) (element : ℕ) (pairs : List (ℕ × ℤ)) (place leaf : ℕ) (d : ℕ × ℤ) (low : place < length pairs) (own : leaf ≡ (get_or pairs place d).0) where
  last : firsts (take (place + 1) pairs) ≡ firsts (take place pairs) ++ leaf ∷ []
  last =
      ap firsts (take_more pairs place d low) ∙ map-append (λ (pair : ℕ × ℤ). pair.0) (take place pairs) (get_or pairs place d ∷ [])
      ∙ ap (λ (k : ℕ). firsts (take place pairs) ++ k ∷ []) (sym own)

  wider : (l : ℕ) → Contains (firsts (take place pairs)) l → Contains (firsts (take (place + 1) pairs)) l
  wider l has = rw last (Contains-append_left (firsts (take place pairs)) (leaf ∷ []) l has)

  here : Contains (firsts (take (place + 1) pairs)) leaf
  here = rw last (Contains-append_right (firsts (take place pairs)) (leaf ∷ []) leaf (at-front leaf []))

  parts : (l : ℕ) → Contains (firsts (take (place + 1) pairs)) l → Contains (firsts (take place pairs)) l ⊎ (leaf ≡ l)
  parts l has = Contains-push_cases (firsts (take place pairs)) leaf l (rw last at has)

  abbrev Known : ℕ → ℕ → Type 0
  Known l other = Contains (get_or before l []) other ⊎ ((other ≡ element) × Contains (firsts (take (place + 1) pairs)) l)

  pub added-more : leaf < length rows → AreAdded before element (take place pairs) rows → after ≡ set rows leaf (get_or rows leaf [] ++ element ∷ [])
      → AreAdded before element (take (place + 1) pairs) after
  added-more within are is = record {
    whole = ap (λ (rs : List (List ℕ)). length rs) is ∙ length-set rows leaf (get_or rows leaf [] ++ element ∷ []) ∙ are.whole;
    each = λ l other less. elim (cases_eq l leaf) [
      | inl same ↦ at_leaf l other less same
      | inr apart ↦ elsewhere l other less apart
    ];
  }
    where
      more : (l other : ℕ) → Contains (get_or before l []) other ⊎ ((other ≡ element) × Contains (firsts (take place pairs)) l) → Known l other
      more l other known = elim known [ inl old ↦ inl old | inr new ↦ inr (new.0, wider l new.1) ]

      at_leaf : (l other : ℕ) → l < length before → l ≡ leaf → Contains (get_or after l []) other ↔ Known l other
      at_leaf l other less same =
          let row : get_or after l [] ≡ get_or rows leaf [] ++ element ∷ [] = rw (same, is) (get_or-set_same rows leaf (get_or rows leaf [] ++ element ∷ []) [] within) in
          let back : get_or rows leaf [] ≡ get_or rows l [] = ap (λ (k : ℕ). get_or rows k []) (sym same) in
          let there : Contains (firsts (take (place + 1) pairs)) l = subst (λ (k : ℕ). Contains (firsts (take (place + 1) pairs)) k) (sym same) here in (
            λ has. elim (Contains-push_cases (get_or rows leaf []) element other (subst (λ (r : List ℕ). Contains r other) row has)) [
              | inl old ↦ more l other ((are.each l other less).0 (subst (λ (r : List ℕ). Contains r other) back old))
              | inr new ↦ inr (sym new, there)
            ],
            λ known. subst (λ (r : List ℕ). Contains r other) (sym row) (elim known [
              | inl old ↦ Contains-append_left (get_or rows leaf []) (element ∷ []) other (subst (λ (r : List ℕ). Contains r other) (sym back) ((are.each l other less).1 (inl old)))
              | inr new ↦ Contains-append_right (get_or rows leaf []) (element ∷ []) other (subst (λ (k : ℕ). Contains (element ∷ []) k) (sym new.0) (at-front element []))
            ]),
          )

      elsewhere : (l other : ℕ) → l < length before → (l ≡ leaf → ⊥) → Contains (get_or after l []) other ↔ Known l other
      elsewhere l other less apart =
          let row : get_or after l [] ≡ get_or rows l [] = rw is (get_or-set_other rows leaf l (get_or rows leaf [] ++ element ∷ []) [] apart) in (
            λ has. more l other ((are.each l other less).0 (subst (λ (r : List ℕ). Contains r other) row has)),
            λ known. subst (λ (r : List ℕ). Contains r other) (sym row) ((are.each l other less).1 (elim known [
              | inl old ↦ inl old
              | inr new ↦ elim (parts l new.1) [
                | inl under ↦ inr (new.0, under)
                | inr same ↦ absurd (apart (sym same))
              ]
            ])),
          )

-- ---- one element after another

pub above-more : (table : List (List (ℕ × ℤ))) (count : ℕ) (rows after : List (List ℕ)) → AreAbove table count rows → AreAdded rows count (leaves_in table count) after → AreAbove table (count + 1) after
above-more table count rows after are added = record {
  whole = added.whole ∙ are.whole;
  each = λ leaf element low. (
      let less : leaf < length rows = omega (arith, low, are.whole) in (
        λ has. elim ((added.each leaf element less).0 has) [
          | inl old ↦ (let known = (are.each leaf element low).0 old in let few = known.0 in (omega (arith, few), known.1))
          | inr new ↦ (let same = new.0 in (omega (arith, same), subst (λ (k : ℕ). Contains (firsts (leaves_in table k)) leaf) (sym same) new.1))
        ],
        λ is. (added.each leaf element less).1 (elim (cases_lt element count) [
          | inl before ↦ inl ((are.each leaf element low).1 (before, is.1))
          | inr past ↦ (let few = is.0 in let same : element ≡ count = omega (arith, few, past) in inr (same, subst (λ (k : ℕ). Contains (firsts (leaves_in table k)) leaf) same is.1))
        ]),
      ));
}

pub above-done : (d : Outline) (table : List (List (ℕ × ℤ))) (count : ℕ) (rows : List (List ℕ)) → IsWeightsOf d table → length d.elements ≤ count → count ≤ length d.elements → AreAbove table count rows → IsAboveOf d rows
above-done d table count rows weights past few are = record {
  whole = are.whole ∙ weights.whole;
  each = λ leaf element is. (
      let low : leaf < length table = omega (arith, is, weights.whole) in (
        λ has. (let known = (are.each leaf element low).0 has in
            let less = known.0 in
            let inside : element < length d.elements = omega (arith, less, few) in
            (inside, there-counted d element leaf (subst (λ (ps : List (ℕ × ℤ)). Contains (firsts ps) leaf) (weights.each element inside) known.1))),
        λ counts. (let inside = counts.0 in
            (are.each leaf element low).1 (omega (arith, inside, past), subst (λ (ps : List (ℕ × ℤ)). Contains (firsts ps) leaf) (sym (weights.each element inside)) (counted-there d element leaf is counts.1))),
      ));
}

-- ---- what is found in a row

-- ---- what is found in a row

pub listed-contains : (listed : List ℕ) (x : ℕ) → list_any (λ e. e == x) listed ≡ true → Contains listed x
listed-contains listed x on =
    let one = Any-from_list_any (λ e. e == x) listed on in
    let same : one.1 ≡ x = eqb-true one.1 x one.4 in
    subst (Contains listed) same (one.0, one.2, one.3)

pub contains-listed : (listed : List ℕ) (x : ℕ) → Contains listed x → list_any (λ e. e == x) listed ≡ true
contains-listed listed x has = list_any_at (λ e. e == x) listed has.0 x has.1 (eq-eqb (get_or listed has.0 x) x has.2)

pub meets-more : (some listed : List ℕ) (place x : ℕ) → place < length some → x ≡ get_or some place 0 → (Meet (take place some) listed → ⊥) → (Contains listed x → ⊥) → Meet (take (place + 1) some) listed → ⊥
meets-more some listed place x low own none off (e, has, there) =
    elim (Contains-push_cases (take place some) (get_or some place 0) e (subst (λ (es : List ℕ). Contains es e) (take_more some place 0 low) has)) [
      | inl before ↦ none (e, before, there)
      | inr is ↦ off (subst (Contains listed) (sym is ∙ sym own) there)
    ]

pub meets-here : (some listed : List ℕ) (place x : ℕ) → place < length some → x ≡ get_or some place 0 → Contains listed x → Meet some listed
meets-here some listed place x low own there = (x, (place, low, get_or_default some place x 0 low ∙ sym own), there)

pub meets-none : (some listed : List ℕ) (place : ℕ) → length some ≤ place → (Meet (take place some) listed → ⊥) → Meet some listed → ⊥
meets-none some listed place past none meet = none (subst (λ (es : List ℕ). Meet es listed) (sym (take_all place some past)) meet)

-- a leaf counts in a listed element exactly where one is in its row
pub row-counts : (d : Outline) (rows : List (List ℕ)) (leaf : ℕ) (row listed : List ℕ) (b : Bool) → IsAboveOf d rows → leaf < length rows → row ≡ get_or rows leaf []
    → All (λ e. e < length rows) listed → (b ≡ true → Meet row listed) → (b ≡ false → Meet row listed → ⊥) → b ≡ list_any (λ e. is_nonzero (coef d e leaf)) listed
row-counts d rows leaf row listed b above low own inside one none = by b refl (list_any (λ e. is_nonzero (coef d e leaf)) listed) refl
  where
    is : leaf < length d.elements
    is = omega (arith, low, above.whole)

    found : Meet row listed → list_any (λ e. is_nonzero (coef d e leaf)) listed ≡ true
    found (e, has, there) =
        let counts = ((above.each leaf e is).0 (subst (λ (r : List ℕ). Contains r e) own has)).1 in
        list_any_at (λ e. is_nonzero (coef d e leaf)) listed there.0 e there.1 (ap (λ (k : ℕ). is_nonzero (coef d k leaf)) there.2 ∙ counts)

    met : list_any (λ e. is_nonzero (coef d e leaf)) listed ≡ true → Meet row listed
    met on =
        let some = Any-from_list_any (λ e. is_nonzero (coef d e leaf)) listed on in
        let less : get_or listed some.0 some.1 < length rows = inside some.0 some.1 some.2 in
        let e : get_or listed some.0 some.1 ≡ some.1 = some.3 in
        let element : some.1 < length d.elements = omega (arith, less, e, above.whole) in
        (some.1, subst (λ (r : List ℕ). Contains r some.1) (sym own) ((above.each leaf some.1 is).1 (element, some.4)), (some.0, some.2, some.3))

    by : (x : Bool) → b ≡ x → (y : Bool) → list_any (λ e. is_nonzero (coef d e leaf)) listed ≡ y → b ≡ list_any (λ e. is_nonzero (coef d e leaf)) listed
    by true on y is_y = on ∙ sym (found (one on))
    by false off true there = absurd (none off (met there))
    by false off false there = off ∙ sym there
