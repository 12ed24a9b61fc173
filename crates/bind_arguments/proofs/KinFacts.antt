-- Lists of parents, one parent at a time.
use Rattle.std.proofs.Common.{◌≡◌, ◌<◌, ◌≤◌, ◌+◌, ◌==◌, ◌||◌, ℕ, zero, suc, ℤ, Bool, true, false, List, [], ◌∷◌, ◌++◌, Vec, length, map, get_or, set, take, not, All, refl, sym, ap, ◌∙◌, subst, arith}
use Rattle.std.specs.declared.alloc.Global.{Global}
use Rattle.std.specs.List.{list_any, filter, range_with_len}
use Rattle.std.proofs.lemmas.Bool.{eqb-true, eqb-false, or_right}
use Rattle.std.proofs.lemmas.List.{append-nil, get_or-map, length-map, map-set, get_or-set_same, get_or-set_other}
use Rattle.std.proofs.lemmas.List.Elements.{filter-append, All-filter}
use Rattle.std.proofs.lemmas.List.Folds.{list_any_more}
use Rattle.std.proofs.lemmas.List.FromFn.{get_or-range_with_len, length-range_with_len}
use Rattle.std.proofs.lemmas.List.Filters.{length-filter_both}
use Rattle.std.proofs.lemmas.List.Sums.{get_or-le-sum_by}
use Rattle.dim_core.specs.Outline.{Outline, IsDimension, component_lists, components_of, most_components}
use Rattle.bind_arguments.specs.Family.{is_component, parents_of}
use Rattle.bind_arguments.specs.Inside.Kin.{kin_at, with_parent}

-- the parents of an element among the first elements
abbrev pub parents_below : Outline → ℕ → ℕ → List ℕ
parents_below d p element = filter (λ q. is_component d q element) (range_with_len 0 p)

range_more : (a n : ℕ) → range_with_len a (suc n) ≡ range_with_len a n ++ (a + n) ∷ []
range_more a zero = ap (λ k. k ∷ []) (let e : a ≡ a + 0 = omega arith in e)
range_more a (suc n) =
    ap (λ l. a ∷ l) (range_more (a + 1) n)
    ∙ ap (λ k. a ∷ range_with_len (a + 1) n ++ k ∷ []) (let e : a + 1 + n ≡ a + suc n = omega arith in e)

-- the next element is a parent, or isn't
pub one_parent_more : (d : Outline) (p element : ℕ) → parents_below d (p + 1) element ≡ with_parent (parents_below d p element) p (is_component d p element)
one_parent_more d p element =
    ap (λ n. parents_below d n element) (let e : p + 1 ≡ suc p = omega arith in e)
    ∙ ap (filter test) (range_more 0 p) ∙ filter-append test (range_with_len 0 p) ((0 + p) ∷ [])
    ∙ ap (λ k. parents_below d p element ++ filter test (k ∷ [])) (let e : 0 + p ≡ p = omega arith in e) ∙ by (is_component d p element) refl
  where
    test : ℕ → Bool
    test q = is_component d q element

    by : (b : Bool) → is_component d p element ≡ b → parents_below d p element ++ filter test (p ∷ []) ≡ with_parent (parents_below d p element) p b
    by true is = rw is refl
    by false is = rw is (append-nil (parents_below d p element))

-- all parents among the first elements stand before the next one
pub all_before : (d : Outline) (p element : ℕ) → All (λ other. other < p) (parents_below d p element)
all_before d p element = All-filter (λ q. is_component d q element) (λ other. other < p) (range_with_len 0 p) below
  where
    below : All (λ other. other < p) (range_with_len 0 p)
    below k x low =
        let small : k < p = omega (arith, low, length-range_with_len 0 p) in
        let at = get_or-range_with_len 0 p k x small in
        omega (arith, at, small)

or_nothing : (b : Bool) → (b || false) ≡ b
or_nothing true = refl
or_nothing false = refl

-- the list of an element by its place
pub kin_of : (lists : List (Vec ℕ Global)) (e : ℕ) (list : Vec ℕ Global) → e < length lists → list ≡ get_or lists e list → kin_at lists e ≡ list.items
kin_of lists e list low is = get_or-map (λ (l : Vec ℕ Global). l.items) lists e list [] low ∙ ap (λ (l : Vec ℕ Global). l.items) (sym is)

-- the list of one element is replaced
module _ (lists : List (Vec ℕ Global)) (x : ℕ) (new : Vec ℕ Global) where
  pub kin_replaced : x < length lists → kin_at (set lists x new) x ≡ new.items
  kin_replaced low =
      ap (λ l. get_or l x []) (map-set (λ (list : Vec ℕ Global). list.items) lists x new)
      ∙ get_or-set_same (map (λ (list : Vec ℕ Global). list.items) lists) x new.items [] (omega (arith, low, length-map lists (λ (list : Vec ℕ Global). list.items)))

  pub kin_kept : (e : ℕ) → (e ≡ x → ⊥) → kin_at (set lists x new) e ≡ kin_at lists e
  kin_kept e apart =
      ap (λ l. get_or l e []) (map-set (λ (list : Vec ℕ Global). list.items) lists x new)
      ∙ get_or-set_other (map (λ (list : Vec ℕ Global). list.items) lists) x e new.items [] apart

-- a component more is taken
module _ (initial lists : List (Vec ℕ Global)) (p : ℕ) (parts : List (ℕ × ℤ)) (i : ℕ) (part : ℕ × ℤ) (new : Vec ℕ Global)
    (at : part ≡ get_or parts i part) (within_parts : i < length parts) (within : part.0 < length lists)
    (before : All (λ other. other < p) (kin_at initial part.0))
    (so : (e : ℕ) → e < length lists → kin_at lists e ≡ with_parent (kin_at initial e) p (list_any (λ part. part.0 == e) (take i parts)))
    (added : All (λ other. other < p) (kin_at lists part.0) → new.items ≡ kin_at lists part.0 ++ p ∷ [])
    (there : (front : List ℕ) → kin_at lists part.0 ≡ front ++ p ∷ [] → new.items ≡ kin_at lists part.0) where
  abbrev is_named : ℕ → ℕ → Bool
  is_named n e = list_any (λ part. part.0 == e) (take n parts)

  named_more : (e : ℕ) → is_named (i + 1) e ≡ (is_named i e || (part.0 == e))
  named_more e = list_any_more (λ part. part.0 == e) parts i part within_parts ∙ ap (λ (q : ℕ × ℤ). is_named i e || (q.0 == e)) (sym at)

  own : (b : Bool) → is_named i part.0 ≡ b → new.items ≡ kin_at initial part.0 ++ p ∷ []
  own true named =
      let last : kin_at lists part.0 ≡ kin_at initial part.0 ++ p ∷ [] = so part.0 within ∙ ap (with_parent (kin_at initial part.0) p) named in
      there (kin_at initial part.0) last ∙ last
  own false named =
      let same : kin_at lists part.0 ≡ kin_at initial part.0 = so part.0 within ∙ ap (with_parent (kin_at initial part.0) p) named in
      added (subst (All (λ other. other < p)) (sym same) before) ∙ ap (λ l. l ++ p ∷ []) same

  pub part_more : (e : ℕ) → e < length lists → kin_at (set lists part.0 new) e ≡ with_parent (kin_at initial e) p (is_named (i + 1) e)
  part_more e low = by (part.0 == e) refl
    where
      by : (b : Bool) → (part.0 == e) ≡ b → kin_at (set lists part.0 new) e ≡ with_parent (kin_at initial e) p (is_named (i + 1) e)
      by true same =
          let here : part.0 ≡ e = eqb-true part.0 e same in
          let named : is_named (i + 1) e ≡ true = named_more e ∙ ap (λ b. is_named i e || b) same ∙ or_right (is_named i e) true refl in
          ap (kin_at (set lists part.0 new)) (sym here) ∙ kin_replaced lists part.0 new within ∙ own (is_named i part.0) refl
          ∙ ap (λ k. kin_at initial k ++ p ∷ []) here ∙ sym (ap (with_parent (kin_at initial e) p) named)
      by false other =
          let apart : e ≡ part.0 → ⊥ = λ same. eqb-false part.0 e other (sym same) in
          let named : is_named (i + 1) e ≡ is_named i e = named_more e ∙ ap (λ b. is_named i e || b) other ∙ or_nothing (is_named i e) in
          kin_kept lists part.0 new e apart ∙ so e low ∙ sym (ap (with_parent (kin_at initial e) p) named)

-- how many there are at most
filter_short : (p : ℕ → Bool) (xs : List ℕ) → length (filter p xs) ≤ length xs
filter_short p xs = let both = length-filter_both p (λ x. not (p x)) (λ x. refl) xs in omega (arith, both)

pub few_parents : (d : Outline) (element : ℕ) → length (parents_of d element) ≤ length d.elements
few_parents d element =
    let few = filter_short (λ parent. is_component d parent element) (range_with_len 0 (length d.elements)) in
    omega (arith, few, length-range_with_len 0 (length d.elements))

pub few_components : (d : Outline) (element : ℕ) → IsDimension d → element < length d.elements → length (components_of d element) ≤ most_components
few_components d element valid low =
    let few = get_or-le-sum_by length (component_lists d.elements) element [] (omega (arith, low, length-map d.elements (λ e. e.components))) in
    let all = valid.few_components in
    omega (arith, few, all)

-- room for one element more
pub none_pushed : (lists : List (Vec ℕ Global)) (new : Vec ℕ Global) → new.items ≡ [] → ((e : ℕ) → kin_at lists e ≡ []) → (e : ℕ) → kin_at (lists ++ new ∷ []) e ≡ []
none_pushed [] new empty none zero = empty
none_pushed [] new empty none (suc e) = refl
none_pushed (list ∷ lists) new empty none zero = none zero
none_pushed (list ∷ lists) new empty none (suc e) = none_pushed lists new empty (λ k. none (suc k)) e
