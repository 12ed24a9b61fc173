-- Elements made of names and lists of components, place by place.
use Rattle.std.proofs.Common.{◌≡◌, ℕ, ◌+◌, ◌≤◌, ℤ, List, [], ◌∷◌, ◌++◌, length, refl, ap, sym, ◌∙◌, arith, sum_by, nat_lt, ◌||◌, ◌-◌, Bool, true}
use Rattle.std.proofs.lemmas.Bool.Decides.{nat_tests}
use Rattle.dim_name.specs.Name.{has_name}
use Rattle.dim_core.specs.declared.attribute.NamedAttribute.{NamedAttribute}
use Rattle.dim_core.specs.Draft.{is_defined, is_too_many}
use Rattle.dim_core.specs.Outline.{elements_of, names_of, component_lists, component_count}
pub use Rattle.std.proofs.lemmas.List.{get_or_default as get_or_within}

module _ {C : Type 0} where
  pub length-elements_of : (names : List (List ℕ)) (lists : List (List (C × ℤ))) → length lists ≡ length names → length (elements_of names lists) ≡ length names
  length-elements_of [] lists paired = refl
  length-elements_of (name ∷ names) [] paired = absurd (omega arith)
  length-elements_of (name ∷ names) (list ∷ lists) paired =
      let rest : length lists ≡ length names = omega arith in
      omega (arith, length-elements_of names lists rest)

  pub names_of-elements_of : (names : List (List ℕ)) (lists : List (List (C × ℤ))) → length lists ≡ length names → names_of (elements_of names lists) ≡ names
  names_of-elements_of [] lists paired = refl
  names_of-elements_of (name ∷ names) [] paired = absurd (omega arith)
  names_of-elements_of (name ∷ names) (list ∷ lists) paired =
      let rest : length lists ≡ length names = omega arith in
      ap (λ ns. name ∷ ns) (names_of-elements_of names lists rest)

  pub component_lists-elements_of : (names : List (List ℕ)) (lists : List (List (C × ℤ))) → length lists ≡ length names → component_lists (elements_of names lists) ≡ lists
  component_lists-elements_of [] [] paired = refl
  component_lists-elements_of [] (list ∷ lists) paired = absurd (omega arith)
  component_lists-elements_of (name ∷ names) [] paired = absurd (omega arith)
  component_lists-elements_of (name ∷ names) (list ∷ lists) paired =
      let rest : length lists ≡ length names = omega arith in
      ap (λ ls. list ∷ ls) (component_lists-elements_of names lists rest)

  pub elements_of-push : (names : List (List ℕ)) (lists : List (List (C × ℤ))) (name : List ℕ) (list : List (C × ℤ)) → length lists ≡ length names
      → elements_of (names ++ name ∷ []) (lists ++ list ∷ []) ≡ elements_of names lists ++ record { name = name; components = list } ∷ []
  elements_of-push [] [] name list paired = refl
  elements_of-push [] (l ∷ lists) name list paired = absurd (omega arith)
  elements_of-push (n ∷ names) [] name list paired = absurd (omega arith)
  elements_of-push (n ∷ names) (l ∷ lists) name list paired =
      let rest : length lists ≡ length names = omega arith in
      ap (λ es. record { name = n; components = l } ∷ es) (elements_of-push names lists name list rest)

-- what the tests of a builder say of its fields
pub is_defined-elements_of : (of : List ℕ) (names : List (List ℕ)) (lists : List (List (List ℕ × ℤ))) (calls : List NamedAttribute) (name : List ℕ) → length lists ≡ length names
    → is_defined (record { name = of; elements = elements_of names lists; attributes = calls }) name ≡ has_name names name
is_defined-elements_of of names lists calls name paired = ap (λ ns. has_name ns name) (names_of-elements_of names lists paired)

pub is_too_many-elements_of : (names : List (List ℕ)) (lists : List (List (List ℕ × ℤ))) (count further : ℕ) → length lists ≡ length names → count ≡ sum_by length lists
    → is_too_many (elements_of names lists) further ≡ nat_lt 100000 (length names + 1) || nat_lt 1000000 (count + further)
is_too_many-elements_of names lists count further paired counted =
    let e = length-elements_of names lists paired in
    let s : component_count (elements_of names lists) ≡ count = ap (sum_by length) (component_lists-elements_of names lists paired) ∙ sym counted in
    ap (λ n. nat_lt 100000 (n + 1) || nat_lt 1000000 (component_count (elements_of names lists) + further)) e
    ∙ ap (λ n. nat_lt 100000 (length names + 1) || nat_lt 1000000 (n + further)) s

-- the tests of the code against those of the definition
pub all_taken : (n : ℕ) (d : Bool) → n ≡ 100000 → nat_lt 100000 (n + 1) || d ≡ true
all_taken n d h = rw h refl

pub room_left : (n count further : ℕ) → n ≤ 100000 → (n ≡ 100000 → ⊥) → count ≤ 1000000 → nat_lt (1000000 - count) further ≡ (nat_lt 100000 (n + 1) || nat_lt 1000000 (count + further))
room_left n count further few other enough = grind (arith, nat_tests)
