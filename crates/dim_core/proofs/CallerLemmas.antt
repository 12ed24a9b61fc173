-- What a caller cites of a builder that is handed its elements in order, components first.
use Rattle.std.proofs.Common.{◌≡◌, ℕ, zero, suc, ◌+◌, ◌<◌, ◌≤◌, ◌⊎◌, inl, inr, ℤ, List, [], ◌∷◌, ◌++◌, length, take, get_or, refl, ap, subst, arith, Bool, true, false, ◌&&◌, ◌||◌, not, None, length-append}
use Rattle.std.proofs.Math.Seq.{take-append_seam, get_or-append_seam}
use Rattle.std.proofs.lemmas.Bool.{cases_lt}
use Rattle.std.proofs.lemmas.List.{map-append, take-append-le, get_or_append_left}
use Rattle.dim_name.specs.Name.{has_name, is_same_name}
use Rattle.dim_core.specs.Draft.{Draft, empty_draft, with_element, are_known, first_unknown, HasEarlierComponents}
use Rattle.dim_core.specs.Outline.{Element, names_of, component_lists}
use Rattle.lists.proofs.Places.{position-none}
use Rattle.dim_core.proofs.Elements.{get_or_within}

first_or_rest : (b : Bool) {few all : Bool} → (b || few) ≡ true → (few ≡ true → all ≡ true) → (b || all) ≡ true
first_or_rest true h rest = refl
first_or_rest false h rest = rest h

both_kept : (a b : Bool) {c d : Bool} → (a && b) ≡ true → (a ≡ true → c ≡ true) → (b ≡ true → d ≡ true) → (c && d) ≡ true
both_kept true b h first second = cc (first refl, second h)
both_kept false b h first second = absurd (cc)

-- a name that is among the first is among all
has_name-take : (names : List (List ℕ)) (n : ℕ) (name : List ℕ) → has_name (take n names) name ≡ true → has_name names name ≡ true
has_name-take [] zero name h = h
has_name-take [] (suc n) name h = h
has_name-take (x ∷ xs) zero name h = cc
has_name-take (x ∷ xs) (suc n) name h = first_or_rest (is_same_name name x) h (has_name-take xs n name)

-- and so are components
are_known-take : (names : List (List ℕ)) (n : ℕ) (components : List (List ℕ × ℤ)) → are_known (take n names) components ≡ true → are_known names components ≡ true
are_known-take names n [] h = refl
are_known-take names n (part ∷ parts) h =
    both_kept (has_name (take n names) part.0) (are_known (take n names) parts) h (has_name-take names n part.0) (are_known-take names n parts)

pub length-component_lists : (elements : List (Element (List ℕ))) → length (component_lists elements) ≡ length elements
length-component_lists [] = refl
length-component_lists (e ∷ es) = omega (arith, length-component_lists es)

pub length-names_of : (elements : List (Element (List ℕ))) → length (names_of elements) ≡ length elements
length-names_of [] = refl
length-names_of (e ∷ es) = omega (arith, length-names_of es)

-- where each component was defined before, none is unknown
pub first_unknown-earlier : (draft : Draft) → HasEarlierComponents draft → first_unknown draft ≡ None
first_unknown-earlier draft earlier =
    position-none (λ components. not (are_known (names_of draft.elements) components)) (component_lists draft.elements)
    (λ e d within.
    let there : e < length draft.elements = omega (arith, length-component_lists draft.elements) in
    let same = get_or_within (component_lists draft.elements) e [] d within in
    let P : List (List ℕ × ℤ) → Type 0 = λ parts. not (are_known (names_of draft.elements) parts) ≡ false in
    subst P same (ap not (are_known-take (names_of draft.elements) e (get_or (component_lists draft.elements) e []) (earlier e there))))

-- no element, so no component that isn't there
pub HasEarlierComponents-empty : (name : List ℕ) → HasEarlierComponents (empty_draft name)
HasEarlierComponents-empty name e within = absurd (omega arith)

push_known : (names : List (List ℕ)) (lists : List (List (List ℕ × ℤ))) (name : List ℕ) (components : List (List ℕ × ℤ)) (count e : ℕ) → length names ≡ count → length lists ≡ count
    → ((k : ℕ) → k < count → are_known (take k names) (get_or lists k []) ≡ true) → are_known names components ≡ true → e < count + 1
    → are_known (take e (names ++ name ∷ [])) (get_or (lists ++ components ∷ []) e []) ≡ true
push_known names lists name components count e shown parts earlier known within = by (cases_lt e count)
  where
    by : (e < count) ⊎ (count ≤ e) → are_known (take e (names ++ name ∷ [])) (get_or (lists ++ components ∷ []) e []) ≡ true
    by (inl before) =
        let n : e ≤ length names = omega arith in
        let m : e < length lists = omega arith in
        rw (take-append-le e names (name ∷ []) n, get_or_append_left lists (components ∷ []) [] e m) (earlier e before)
    by (inr last) =
        let n : e ≡ length names = omega arith in
        let m : e ≡ length lists = omega arith in
        let front : take e (names ++ name ∷ []) ≡ names = rw n (take-append_seam names (name ∷ [])) in
        let here : get_or (lists ++ components ∷ []) e [] ≡ components = rw m (get_or-append_seam lists components [] []) in
        rw (front, here) known

-- one more element, whose components are defined
pub HasEarlierComponents-push : (draft : Draft) (name : List ℕ) (components : List (List ℕ × ℤ)) → HasEarlierComponents draft
    → are_known (names_of draft.elements) components ≡ true → HasEarlierComponents (with_element draft name components)
HasEarlierComponents-push draft name components earlier known e within =
    let names = names_of draft.elements in
    let lists = component_lists draft.elements in
    let more : Element (List ℕ) = record { name = name; components = components } in
    let shown = map-append (λ (x : Element (List ℕ)). x.name) draft.elements (more ∷ []) in
    let parts = map-append (λ (x : Element (List ℕ)). x.components) draft.elements (more ∷ []) in
    let Known : List (List ℕ) → List (List (List ℕ × ℤ)) → Type 0 = λ ns ls. are_known (take e ns) (get_or ls e []) ≡ true in
    let known_of : Known (names ++ name ∷ []) (lists ++ components ∷ []) = push_known names lists name components (length draft.elements) e (length-names_of draft.elements) (length-component_lists draft.elements) earlier known (simp length-append at within) in
    rw (shown, parts) known_of
