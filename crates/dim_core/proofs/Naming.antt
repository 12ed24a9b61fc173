-- Names and their places.
use Rattle.std.proofs.Common.{◌≡◌, ℕ, ◌<◌, List, [], ◌∷◌, ◌++◌, length, take, get_or, eqb, arith, ap, sym, ◌∙◌, subst, true, false, ◌&&◌, Some, position, length-append}
use Rattle.std.specs.Cmp.{IsEquivalence, both_ways}
use Rattle.std.specs.List.{IsDistinct}
use Rattle.std.proofs.lemmas.Bool.{eqb-true, eq-eqb}
use Rattle.std.proofs.lemmas.Cmp.{nat_list_eq_equiv, nat_eq_equiv, on_equiv, and_equiv}
use Rattle.std.proofs.Math.Seq.{take-append_seam, get_or-append_seam}
use Rattle.std.proofs.lemmas.List.{length-map, length-take, get_or-take}
use Rattle.std.proofs.lemmas.List.Folds.{list_any_none}
use Rattle.std.proofs.lemmas.List.Quantifiers.{position-Some}
use Rattle.std.proofs.lemmas.Map.Keys.{apart_from_distinct}
use Rattle.lists.proofs.Places.{position-first, get_or_within}
use Rattle.dim_name.specs.Name.{is_same_name, has_name, key_of, place_of}
use Rattle.dim_core.specs.declared.attribute.Attribute.{Attribute}
use Rattle.dim_core.specs.declared.attribute.NamedAttribute.{NamedAttribute}
use Rattle.dim_core.specs.Draft.{is_repeated, IsResolvedAttribute}
use Rattle.dim_core.specs.Outline.{Outline, index_of, names_of, is_same_attribute}
pub use Rattle.std.proofs.lemmas.Option.{same_Some as same_number}

pub same_names : IsEquivalence is_same_name
same_names = on_equiv key_of nat_list_eq_equiv

-- and so are attributes of an element
pub same_attributes : IsEquivalence is_same_attribute
same_attributes = and_equiv (on_equiv (λ (a : Attribute). a.element) nat_eq_equiv) (on_equiv (λ (a : Attribute). a.name) same_names)

-- two names that have places are the same where their places are
pub same_place : (names : List (List ℕ)) (a b : List ℕ) (i j : ℕ) → place_of names a ≡ Some i → place_of names b ≡ Some j → is_same_name a b ≡ eqb i j
same_place names a b i j at there = both_ways (is_same_name a b) (eqb i j) apart same
  where
    apart : is_same_name a b ≡ true → eqb i j ≡ true
    apart h =
        let e : place_of names a ≡ place_of names b = λ t. position (λ x. same_names.congr a b x h t) names in
        eq-eqb i j (same_number i j (sym at ∙ e ∙ there))

    same : eqb i j ≡ true → is_same_name a b ≡ true
    same h =
        let first = (position-Some (is_same_name a) names i [] at).1 in
        let P : ℕ → Type 0 = λ k. is_same_name b (get_or names k []) ≡ true in
        let second : is_same_name b (get_or names i []) ≡ true = subst P (sym (eqb-true i j h)) (position-Some (is_same_name b) names j [] there).1 in
        same_names.congr a (get_or names i []) b first ∙ same_names.symm (get_or names i []) b ∙ second

-- each of these names has its own place
pub place_at : (names : List (List ℕ)) → IsDistinct is_same_name names → (k : ℕ) → k < length names → place_of names (get_or names k []) ≡ Some k
place_at names distinct k within =
    position-first (is_same_name (get_or names k [])) names k [] within
    (λ j less. same_names.symm (get_or names k []) (get_or names j []) ∙ apart_from_distinct is_same_name names j k [] distinct less within)
    (same_names.refl (get_or names k []))

-- so a name isn't among those before it
pub new_name : (names : List (List ℕ)) (e : ℕ) → IsDistinct is_same_name names → e < length names → has_name (take e names) (get_or names e []) ≡ false
new_name names e distinct within =
    list_any_none (is_same_name (get_or names e [])) (take e names)
    (λ k d inside.
    let before : k < e = omega (arith, length-take e names) in
    let there : k < length names = omega arith in
    let at = get_or-take e names k d before ∙ get_or_within names k d [] there in
    let P : List ℕ → Type 0 = λ n. is_same_name (get_or names e []) n ≡ false in
    subst P (sym at) (same_names.symm (get_or names e []) (get_or names k []) ∙ apart_from_distinct is_same_name names k e [] distinct before within))

pub not_before : (names before : List (List ℕ)) (name : List ℕ) (rest : List (List ℕ)) → names ≡ before ++ name ∷ rest → IsDistinct is_same_name names → has_name before name ≡ false
not_before names before name rest parts distinct =
    let all = before ++ name ∷ rest in
    let long : length before < length all = omega (arith, length-append before (name ∷ rest)) in
    let D : List (List ℕ) → Type 0 = IsDistinct is_same_name in
    ap (λ ns. has_name ns name) (sym (take-append_seam before (name ∷ rest)))
    ∙ ap (has_name (take (length before) all)) (sym (get_or-append_seam before name rest []))
    ∙ new_name all (length before) (subst D parts distinct) long

-- calls of the same attribute are those that come to the same
pub repeated-resolved : (names : List (List ℕ)) (a b : NamedAttribute) (x y : Attribute) → IsResolvedAttribute names a x → IsResolvedAttribute names b y → is_repeated a b ≡ is_same_attribute x y
repeated-resolved names a b x y at there =
    ap (λ t. t && is_same_name a.name b.name) (same_place names a.element b.element x.element y.element at.0 there.0)
    ∙ ap (λ n. eqb x.element y.element && is_same_name n b.name) (sym at.1)
    ∙ ap (λ n. eqb x.element y.element && is_same_name x.name n) (sym there.1)

-- an element that a name calls is one
pub called_within : (d : Outline) (name : List ℕ) (element : ℕ) → index_of d name ≡ Some element → element < length d.elements
called_within d name element is =
    let found = position-Some (is_same_name name) (names_of d.elements) element [] is in
    omega (arith, found.0, length-map d.elements (λ e. e.name))
