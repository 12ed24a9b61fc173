-- An area that is narrowed, dimension by dimension, to the first cell for which what is read comes late.
use Rattle.std.proofs.Common.{◌≡◌, refl, sym, ap, ◌∙◌, arith, subst, ℕ, suc, ◌<◌, ◌≤◌, ◌⊎◌, Bool, true, false, Option, Some, None, List, [], ◌∷◌, length, map, get_or, nat_lt, inl, inr}
use Rattle.std.specs.List.{AllZip}
use Rattle.std.proofs.lemmas.Bool.{cases_lt, and_parts, and_from, lt-ltb, eq-eqb}
use Rattle.cube_space.specs.Radix.{are_digits}
use Rattle.cube_space.specs.Layout.{axes, sizes}
use Rattle.cube_space.specs.Cells.{IsSpace, IsCell, cube_of, elements_of, cell_number}
use Rattle.cube_space.proofs.Radix.{number-smaller}
use Rattle.cube_space.proofs.Places.{cell_number-cell}
use Rattle.rule_laws.specs.Ordered.{HasPrecedent}
use Rattle.rule_model.specs.declared.area.Area.{Area}
use Rattle.rule_model.specs.BoundModel.{BoundModel}
use Rattle.rule_model.specs.Areas.{in_set, in_sets}
use Rattle.rule_model.specs.Order.{most_positions}
use Rattle.rule_model.specs.System.{system_of}
use Rattle.rule_model.specs.Conditions.{IsSet, IsArea, IsPrecedent, AreRules}
use Rattle.order_laws.specs.Scales.{set_count, set_element}
use Rattle.order_laws.proofs.SetFacts.{set-at}
use Rattle.order_laws.proofs.CellFacts.{axes-sizes, number-there, cell-there}
use Rattle.ref_order.specs.Reads.{precedent_of}
use Rattle.ref_order.proofs.Sums.{sets-long}
use Rattle.late_example.specs.declared.search.Sought.{Sought}
use Rattle.late_example.specs.Example.{rank_at, is_late}
use Rattle.late_example.specs.Inside.Narrowing.{places_of, set_at, narrowed, is_sought, IsInside, IsSingle, IsFirstPlace, IsLateCell, IsNarrowed, first_of}
use Rattle.late_example.proofs.Sets.{inside, set-here, set-before, length-places, rises, narrowed-area}
use Rattle.late_example.proofs.Inside.{as-cell, as-inside, is-in, in-is, has-place, narrow-in, narrow-out, own_at, less-cell, single-is}
use Rattle.late_example.proofs.Places.{not-both, NoneIn, none-in, in-none}

-- ---- areas of one element in each dimension

singles-list : (sets : List (Option (List ℕ))) (es : List ℕ) → in_sets sets es ≡ true → length es ≡ length sets → ((j : ℕ) → j < length sets → IsSingle (get_or sets j None)) → es ≡ map first_of sets
unfolding in_sets
singles-list [] [] h long one = refl
singles-list [] (e ∷ es) h long one = absurd (omega (arith, long))
singles-list (s ∷ sets) [] h long one = absurd (omega (arith, long))
singles-list (s ∷ sets) (e ∷ es) h long one =
    let parts = and_parts (in_set s e) (in_sets sets es) h in
    ap (λ x. x ∷ es) (single-is s e (one 0 (omega arith)) parts.0)
    ∙ ap (λ xs. first_of s ∷ xs) (singles-list sets es parts.1 (omega (arith, long)) (λ j low. one (suc j) (omega (arith, low))))

first-below : (size : ℕ) (x : Option (List ℕ)) → IsSet size x → IsSingle x → first_of x < size
first-below size None is one = absurd one
first-below size (Some []) is one = absurd (omega (arith, one))
first-below size (Some (a ∷ l)) is one = is.1 0 0 (omega arith)

first-in : (x : Option (List ℕ)) → IsSingle x → in_set x (first_of x) ≡ true
first-in None one = absurd one
first-in (Some []) one = absurd (omega (arith, one))
first-in (Some (a ∷ l)) one = ap (λ t. Rattle.std.specs.Prelude.◌||◌ t (Rattle.std.specs.List.list_any (λ e. Rattle.std.specs.Prelude.◌==◌ e a) l)) (eq-eqb a a refl)

firsts-digits : (ss : List ℕ) (sets : List (Option (List ℕ))) → AllZip IsSet ss sets → ((j : ℕ) → j < length sets → IsSingle (get_or sets j None)) → are_digits ss (map first_of sets) ≡ true
firsts-digits [] [] all one = refl
firsts-digits [] (x ∷ sets) all one = absurd all
firsts-digits (s ∷ ss) [] all one = absurd all
firsts-digits (s ∷ ss) (x ∷ sets) all one =
    and_from (nat_lt (first_of x) s) (are_digits ss (map first_of sets)) (lt-ltb (first_of x) s (first-below s x all.0 (one 0 (omega arith))))
    (firsts-digits ss sets all.1 (λ j low. one (suc j) (omega (arith, low))))

firsts-in : (sets : List (Option (List ℕ))) → ((j : ℕ) → j < length sets → IsSingle (get_or sets j None)) → in_sets sets (map first_of sets) ≡ true
unfolding in_sets
firsts-in [] one = refl
firsts-in (x ∷ sets) one = and_from (in_set x (first_of x)) (in_sets sets (map first_of sets)) (first-in x (one 0 (omega arith))) (firsts-in sets (λ j low. one (suc j) (omega (arith, low))))

module _ (m : BoundModel) (valid : IsSpace m.space) (ruled : AreRules m.space m.rules) (cube : ℕ) (there : cube < length m.space.cubes)
    (sought : Sought) (is : IsPrecedent m.space cube (precedent_of sought.read)) (le : sought.position ≤ most_positions) (area : Area) where
  -- before the first dimension
  pub start : IsArea m.space cube area → is_sought m cube area sought ≡ true → IsNarrowed m cube area sought 0 area
  start is_area late = record {
    is_area = is_area;
    inside = λ cell h. h;
    late = late;
    single = λ dim low. absurd (omega (arith, low));
    least = λ from to h. inl (as-inside m ruled cube there area sought.kind from h.cell);
  }

  -- one dimension more
  module _ (dim : ℕ) (low : dim < length (axes m.space cube)) (n : Area) (so : IsNarrowed m cube area sought dim n) (place : ℕ) (first : IsFirstPlace m cube n sought dim place) where
    abbrev pub next : Area
    next = narrowed n dim place (suc place)

    next-area : IsArea m.space cube next
    next-area = narrowed-area m.space cube n dim place (suc place) so.is_area (omega (arith, first.within))

    short : dim < length n.sets
    short = omega (arith, low, sets-long m.space cube n so.is_area)

    single : (j : ℕ) → j < suc dim → IsSingle (set_at next j)
    single j less = elim (cases_lt j dim) [
      | inl early ↦ subst IsSingle (sym (set-before n.sets dim j (Some (places_of (set_at n dim) place (suc place))) None early)) (so.single j early)
      | inr here ↦
          let same : dim ≡ j = omega (arith, less, here) in
          let long : length (places_of (set_at n dim) place (suc place)) ≡ 1 = omega (arith, length-places (set_at n dim) place (suc place)) in
          let own : IsSingle (set_at next dim) = subst IsSingle (sym (set-here n.sets dim (Some (places_of (set_at n dim) place (suc place))) None short)) long in
          subst (λ k. IsSingle (set_at next k)) same own
    ]

    -- cells of the area have the same elements before the dimension
    early-same : (c d j : ℕ) → IsInside m cube n c → IsInside m cube n d → j < dim → own_at m ruled cube there c j ≡ own_at m ruled cube there d j
    early-same c d j in_c in_d early =
        let known_c = is-in m ruled cube there n c so.is_area in_c in
        let known_d = is-in m ruled cube there n d so.is_area in_d in
        let long = sets-long m.space cube n so.is_area in
        let one = single-is (set_at n j) (own_at m ruled cube there c j) (so.single j early)
        (inside n.sets (elements_of m.space c) j known_c.inside (known_c.long ∙ sym long) (omega (arith, early, short))) in
        let two = single-is (set_at n j) (own_at m ruled cube there d j) (so.single j early)
        (inside n.sets (elements_of m.space d) j known_d.inside (known_d.long ∙ sym long) (omega (arith, early, short))) in
        one ∙ sym two

    least : (from to : ℕ) → IsLateCell m cube area sought from to → IsInside m cube next from ⊎ ((cell : ℕ) → IsInside m cube next cell → cell < from)
    least from to late = elim (so.least from to late) [
      | inr before ↦ inr (λ cell in_cell. before cell (narrow-out m ruled cube there n cell dim place (suc place) so.is_area low (omega arith) (omega (arith, first.within)) in_cell).inside)
      | inl in_from ↦
          let own = has-place m ruled cube there n from dim so.is_area low in_from in
          elim (cases_lt own.0 place) [
            | inl early ↦
                let in_front = narrow-in m ruled cube there n from dim 0 place own.0 so.is_area in_from (omega arith) early own.2 in
                let none = none-in m valid ruled cube there sought is le (narrowed n dim 0 place) (narrowed-area m.space cube n dim 0 place so.is_area (omega (arith, first.within))) first.before from to
                (as-cell m ruled cube there (narrowed n dim 0 place) sought.kind from late.cell.kind_is in_front) late.reads in
                absurd (not-both (is_late sought.position (rank_at m sought.position from) (rank_at m sought.position to)) late.late none)
            | inr on ↦ elim (cases_lt place own.0) [
              | inr here ↦ inl (narrow-in m ruled cube there n from dim place (suc place) own.0 so.is_area in_from (omega (arith, on)) (omega (arith, here)) own.2)
              | inl after ↦ inr (λ cell in_cell. behind cell in_cell in_from own.0 own.1 own.2 after)
            ]
          ]
    ]
      where
        behind : (cell : ℕ) → IsInside m cube next cell → IsInside m cube n from → (k : ℕ) → k < set_count (get_or (sizes m.space cube) dim 0) (set_at n dim)
            → set_element (set_at n dim) k ≡ own_at m ruled cube there from dim → place < k → cell < from
        behind cell in_cell in_from k within at after =
            let out = narrow-out m ruled cube there n cell dim place (suc place) so.is_area low (omega arith) (omega (arith, first.within)) in_cell in
            let known_c = is-in m ruled cube there n cell so.is_area out.inside in
            let known_f = is-in m ruled cube there n from so.is_area in_from in
            let same : out.place ≡ place = omega (arith, out.from_on, out.before) in
            let up = rises (get_or (sizes m.space cube) dim 0) (set_at n dim) out.place k (set-at (sizes m.space cube) n.sets dim so.is_area) (omega (arith, same, after)) within in
            let less : own_at m ruled cube there cell dim < own_at m ruled cube there from dim = omega (arith, up, out.element, at) in
            less-cell m ruled cube there cell from known_c.cell known_f.cell known_c.own known_f.own
            (number-smaller (sizes m.space cube) (elements_of m.space cell) (elements_of m.space from) dim known_c.digits known_f.digits (omega (arith, low, axes-sizes m.space cube))
            (λ j early. let e = early-same cell from j out.inside in_from early in omega (arith, e)) less)

    pub step : IsNarrowed m cube area sought (suc dim) next
    step = record {
      is_area = next-area;
      inside = λ cell h. so.inside cell (narrow-out m ruled cube there n cell dim place (suc place) so.is_area low (omega arith) (omega (arith, first.within)) h).inside;
      late = first.here;
      single = single;
      least = least;
    }

  -- after the last dimension: the area has one cell
  module _ (n : Area) (so : IsNarrowed m cube area sought (length (axes m.space cube)) n) where
    singles : (j : ℕ) → j < length n.sets → IsSingle (get_or n.sets j None)
    singles j less = so.single j (omega (arith, less, sets-long m.space cube n so.is_area))

    digits : are_digits (sizes m.space cube) (map first_of n.sets) ≡ true
    digits = firsts-digits (sizes m.space cube) n.sets so.is_area singles

    pub no-number : cell_number m.space cube (map first_of n.sets) ≡ None → ⊥
    no-number none = let found = cell-there m.space cube (map first_of n.sets) there digits in let e : Some found.0 ≡ None = sym found.2 ∙ none in cc

    pub record IsOnly (c : ℕ) : Type 0 where
      pub cell : IsCell m.space c
      pub own : cube_of m.space c ≡ cube
      pub inside : IsInside m cube n c
      pub only : (d : ℕ) → IsInside m cube n d → d ≡ c

    pub only-cell : (c : ℕ) → cell_number m.space cube (map first_of n.sets) ≡ Some c → IsOnly c
    only-cell c number =
        let at = number-there m.space cube (map first_of n.sets) c there digits number in
        record {
          cell = at.cell;
          own = at.own;
          inside = in-is m ruled cube there n c at.cell at.own (ap (in_sets n.sets) at.elements ∙ firsts-in n.sets singles);
          only = λ d in_d. other d in_d;
        }
      where
        other : (d : ℕ) → IsInside m cube n d → d ≡ c
        other d in_d =
            let known = is-in m ruled cube there n d so.is_area in_d in
            let elements = singles-list n.sets (elements_of m.space d) known.inside (known.long ∙ sym (sets-long m.space cube n so.is_area)) singles in
            let e : Some d ≡ Some c = sym (cell_number-cell m.space d known.cell) ∙ ap (λ k. cell_number m.space k (elements_of m.space d)) known.own ∙ ap (cell_number m.space cube) elements ∙ number in
            cc

    -- and what is read comes late for it
    pub not-none : (c : ℕ) → IsOnly c → ((t : ℕ) → HasPrecedent (system_of m) (precedent_of sought.read) c t → is_late sought.position (rank_at m sought.position c) (rank_at m sought.position t) ≡ false) → ⊥
    not-none c it none = not-both (is_sought m cube n sought) so.late (in-none m valid ruled cube there sought is le n so.is_area each)
      where
        each : NoneIn m valid ruled cube there sought is le n
        each d t of has =
            let same = it.only d (as-inside m ruled cube there n sought.kind d of) in
            subst (λ x. is_late sought.position (rank_at m sought.position x) (rank_at m sought.position t) ≡ false) (sym same)
            (none t (subst (λ x. HasPrecedent (system_of m) (precedent_of sought.read) x t) same has))

    pub kind-is : (c : ℕ) → IsOnly c → (system_of m).is_leaf c ≡ sought.kind
    kind-is c it = by ((system_of m).is_leaf c) sought.kind refl refl
      where
        apart : ((system_of m).is_leaf c ≡ sought.kind → ⊥) → ⊥
        apart other = not-both (is_sought m cube n sought) so.late (in-none m valid ruled cube there sought is le n so.is_area each)
          where
            each : NoneIn m valid ruled cube there sought is le n
            each d t of has =
                let same = it.only d (as-inside m ruled cube there n sought.kind d of) in
                absurd (other (subst (λ x. (system_of m).is_leaf x ≡ sought.kind) same of.kind_is))

        by : (a b : Bool) → (system_of m).is_leaf c ≡ a → sought.kind ≡ b → (system_of m).is_leaf c ≡ sought.kind
        by true true e f = e ∙ sym f
        by false false e f = e ∙ sym f
        by true false e f = absurd (apart (λ h. let wrong : true ≡ false = sym e ∙ h ∙ f in cc))
        by false true e f = absurd (apart (λ h. let wrong : false ≡ true = sym e ∙ h ∙ f in cc))
