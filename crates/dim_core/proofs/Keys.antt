-- Attributes and the keys by which they are found.
use Rattle.std.proofs.Common.{◌≡◌, ℕ, ◌+◌, ◌≤◌, List, [], ◌∷◌, ◌++◌, length, get_or, cond, eqb, nat_lt, refl, ap, sym, ◌∙◌, arith, Bool, true, false, ◌&&◌, ◌||◌, not, Some, None, position, slice_get, All, length-append}
use Rattle.std.specs.List.{AllZip, list_any, position_or_len, find}
use Rattle.std.proofs.lemmas.Bool.{and_right}
use Rattle.std.proofs.lemmas.Grind.{common_steps}
use Rattle.std.proofs.lemmas.List.{get_or_append_left}
use Rattle.std.proofs.lemmas.List.Elements.{All-nil, All-cons}
use Rattle.std.proofs.lemmas.List.Folds.{find_at, list_any_none}
use Rattle.std.proofs.lemmas.List.Quantifiers.{position-Some}
use Rattle.std.proofs.lemmas.Option.{slice_get-get_or, slice_get_past}
use Rattle.std.proofs.lemmas.Slice.Zip.{AllZip-long}
use Rattle.std.proofs.Math.Seq.{get_or-append_seam}
use Rattle.lists.proofs.Places.{none_passes, position-none, position-first}
use Rattle.dim_name.specs.Name.{is_same_name, has_name, place_of}
use Rattle.dim_core.specs.declared.attribute.Attribute.{Attribute}
use Rattle.dim_core.specs.Inside.Kept.{IsKeyOf}
use Rattle.dim_core.specs.Outline.{is_attribute, is_same_attribute}
use Rattle.dim_core.proofs.Naming.{same_names, same_place}

-- two keys are equal where the attributes are the same
key_agrees : (names : List (List ℕ)) (a b : Attribute) (x y : ℕ × ℕ) → IsKeyOf names a x → IsKeyOf names b y → (eqb x.0 y.0 && eqb x.1 y.1) ≡ is_same_attribute a b
key_agrees names a b x y at there =
    ap (λ i. eqb i y.0 && eqb x.1 y.1) at.0 ∙ ap (λ i. eqb a.element i && eqb x.1 y.1) there.0
    ∙ ap (λ t. eqb a.element b.element && t) (sym (same_place names a.name b.name x.1 y.1 at.1 there.1))

pub key_found : (names : List (List ℕ)) (list : List Attribute) (keys : List (ℕ × ℕ)) → AllZip (IsKeyOf names) list keys → (a : Attribute) (x : ℕ × ℕ) → IsKeyOf names a x
    → list_any (λ y. eqb x.0 y.0 && eqb x.1 y.1) keys ≡ list_any (is_same_attribute a) list
key_found names [] [] z a x at = refl
key_found names [] (y ∷ ys) z a x at = elim z [ ]
key_found names (b ∷ bs) [] z a x at = elim z [ ]
key_found names (b ∷ bs) (y ∷ ys) z a x at =
    ap (λ t. t || list_any (λ y. eqb x.0 y.0 && eqb x.1 y.1) ys) (key_agrees names a b x y at z.0)
    ∙ ap (λ t. is_same_attribute a b || t) (key_found names bs ys z.1 a x at)

first_agrees : (names : List (List ℕ)) (list : List Attribute) (keys : List (ℕ × ℕ)) → AllZip (IsKeyOf names) list keys → (a : Attribute) (x : ℕ × ℕ) → IsKeyOf names a x
    → position_or_len (λ y. eqb x.0 y.0 && eqb x.1 y.1) keys ≡ position_or_len (is_same_attribute a) list
first_agrees names [] [] z a x at = refl
first_agrees names [] (y ∷ ys) z a x at = elim z [ ]
first_agrees names (b ∷ bs) [] z a x at = elim z [ ]
first_agrees names (b ∷ bs) (y ∷ ys) z a x at =
    ap (λ t. cond (not t) (1 + position_or_len (λ y. eqb x.0 y.0 && eqb x.1 y.1) ys) 0) (key_agrees names a b x y at z.0)
    ∙ ap (λ n. cond (not (is_same_attribute a b)) (1 + n) 0) (first_agrees names bs ys z.1 a x at)

pub key_place : (names : List (List ℕ)) (list : List Attribute) (keys : List (ℕ × ℕ)) → AllZip (IsKeyOf names) list keys → (a : Attribute) (x : ℕ × ℕ) → IsKeyOf names a x
    → position (λ y. eqb x.0 y.0 && eqb x.1 y.1) keys ≡ position (is_same_attribute a) list
key_place names list keys z a x at =
    let first = first_agrees names list keys z a x at in
    let long : length keys ≡ length list = AllZip-long (IsKeyOf names) list keys z in
    ap (λ n. cond (nat_lt n (length keys)) (Some n) None) first
    ∙ ap (λ m. cond (nat_lt (position_or_len (is_same_attribute a) list) m) (Some (position_or_len (is_same_attribute a) list)) None) long

-- an attribute whose name isn't among the names isn't there
unnamed : (names : List (List ℕ)) (list : List Attribute) (keys : List (ℕ × ℕ)) → AllZip (IsKeyOf names) list keys → (element : ℕ) (name : List ℕ) → place_of names name ≡ None
    → All (λ a. is_attribute element name a ≡ false) list
unnamed names [] [] z element name none = All-nil (λ a. is_attribute element name a ≡ false)
unnamed names [] (y ∷ ys) z element name none = elim z [ ]
unnamed names (b ∷ bs) [] z element name none = elim z [ ]
unnamed names (b ∷ bs) (y ∷ ys) z element name none =
    All-cons (λ a. is_attribute element name a ≡ false) b bs (and_right (eqb element b.element) (is_same_name name b.name) (other (is_same_name name b.name) refl)) (unnamed names bs ys z.1 element name none)
  where
    other : (t : Bool) → is_same_name name b.name ≡ t → t ≡ false
    other false h = refl
    other true h =
        let e : place_of names name ≡ place_of names b.name = λ i. position (λ x. same_names.congr name b.name x h i) names in
        let clash : None ≡ Some y.1 = sym none ∙ e ∙ z.0.1 in
        absurd (cc)

pub no_place : (names : List (List ℕ)) (list : List Attribute) (keys : List (ℕ × ℕ)) → AllZip (IsKeyOf names) list keys → (element : ℕ) (name : List ℕ) → place_of names name ≡ None
    → position (is_attribute element name) list ≡ None
no_place names list keys z element name none = position-none (is_attribute element name) list (unnamed names list keys z element name none)

-- the first that passes stands at its place
pub find-position : {X : Type 0} (p : X → Bool) (xs : List X) (i : ℕ) (d : X) → position p xs ≡ Some i → find p xs ≡ Some (get_or xs i d)
find-position p xs i d h =
    let at : position_or_len p xs ≡ i = grind (arith, common_steps) in
    find_at p xs ∙ ap (slice_get xs) at ∙ slice_get-get_or xs i d (position-Some p xs i d h).0

pub find-none : {X : Type 0} (p : X → Bool) (xs : List X) → position p xs ≡ None → find p xs ≡ None
find-none p xs h =
    let past : length xs ≤ position_or_len p xs = grind (arith, common_steps) in
    find_at p xs ∙ slice_get_past xs (position_or_len p xs) past

-- keys stay where the names keep their places
pub keys_kept : (names more : List (List ℕ)) → ((other : List ℕ) (n : ℕ) → place_of names other ≡ Some n → place_of more other ≡ Some n) → (list : List Attribute) (keys : List (ℕ × ℕ))
    → AllZip (IsKeyOf names) list keys → AllZip (IsKeyOf more) list keys
keys_kept names more kept [] [] z = tt
keys_kept names more kept [] (y ∷ ys) z = elim z [ ]
keys_kept names more kept (b ∷ bs) [] z = elim z [ ]
keys_kept names more kept (b ∷ bs) (y ∷ ys) z = ((z.0.0, kept b.name y.1 z.0.1), keys_kept names more kept bs ys z.1)

-- a new name goes last
pub new_place : (names : List (List ℕ)) (name : List ℕ) → place_of names name ≡ None → place_of (names ++ name ∷ []) name ≡ Some (length names)
new_place names name none =
    position-first (is_same_name name) (names ++ name ∷ []) (length names) [] (omega (arith, length-append names (name ∷ [])))
    (λ k less. ap (is_same_name name) (get_or_append_left names (name ∷ []) [] k less) ∙ none_passes (is_same_name name) names none k [] less)
    (ap (is_same_name name) (get_or-append_seam names name [] []) ∙ same_names.refl name)

pub not_among : (names : List (List ℕ)) (name : List ℕ) → place_of names name ≡ None → has_name names name ≡ false
not_among names name none = list_any_none (is_same_name name) names (none_passes (is_same_name name) names none)
