-- Elements by name, found one after the other.
use Rattle.std.proofs.Common.{◌≡◌, ℕ, suc, List, [], ◌∷◌, ◌++◌, length, Option, Some, None, refl, sym, ◌∙◌, ap, append_assoc, slice_get}
use Rattle.std.specs.List.{cons_option}
use Rattle.dim_core.specs.Outline.{Outline, index_of}
use Rattle.cube_space.specs.Layout.{axes_of}
use Rattle.rule_model.specs.Named.{with_element, elements_named}

-- the elements found so far, before those that are still to be found
abbrev pub with_front : List ℕ → Option (List ℕ) → Option (List ℕ)
with_front front None = None
with_front front (Some rest) = Some (front ++ rest)

pub axes_cons : (D : List Outline) (k : ℕ) (ks : List ℕ) (d : Outline) → slice_get D k ≡ Some d → axes_of D (k ∷ ks) ≡ d ∷ axes_of D ks
axes_cons D k ks d is = ap (λ o. cons_option o (axes_of D ks)) is

one_more : (front : List ℕ) (e : ℕ) (rest : Option (List ℕ)) → with_front front (with_element (Some e) rest) ≡ with_front (front ++ e ∷ []) rest
one_more front e None = refl
one_more front e (Some rest) = ap Some (sym (append_assoc front (e ∷ []) rest))

pub found_one : (D : List Outline) (k : ℕ) (ks : List ℕ) (n : List ℕ) (ns : List (List ℕ)) (d : Outline) (e : ℕ) (front : List ℕ) → slice_get D k ≡ Some d → index_of d n ≡ Some e
    → with_front front (elements_named (axes_of D (k ∷ ks)) (n ∷ ns)) ≡ with_front (front ++ e ∷ []) (elements_named (axes_of D ks) ns)
found_one D k ks n ns d e front is found =
    ap (λ a. with_front front (elements_named a (n ∷ ns))) (axes_cons D k ks d is) ∙ ap (λ o. with_front front (with_element o (elements_named (axes_of D ks) ns))) found ∙ one_more front e (elements_named (axes_of D ks) ns)

pub found_none : (D : List Outline) (k : ℕ) (ks : List ℕ) (n : List ℕ) (ns : List (List ℕ)) (d : Outline) (front : List ℕ) → slice_get D k ≡ Some d → index_of d n ≡ None
    → with_front front (elements_named (axes_of D (k ∷ ks)) (n ∷ ns)) ≡ None
found_none D k ks n ns d front is missing =
    ap (λ a. with_front front (elements_named a (n ∷ ns))) (axes_cons D k ks d is) ∙ ap (λ o. with_front front (with_element o (elements_named (axes_of D ks) ns))) missing

with_none : (o : Option ℕ) → with_element o None ≡ None
with_none None = refl
with_none (Some e) = refl

-- there are as many elements as dimensions, or none
pub other_count : (ds : List Outline) (ns : List (List ℕ)) → (length ds ≡ length ns → ⊥) → elements_named ds ns ≡ None
other_count [] [] differ = absurd (differ refl)
other_count [] (n ∷ ns) differ = refl
other_count (d ∷ ds) [] differ = refl
other_count (d ∷ ds) (n ∷ ns) differ = ap (λ o. with_element (index_of d n) o) (other_count ds ns (λ same. differ (ap suc same))) ∙ with_none (index_of d n)
