-- A draft is finished as one dimension only.
use Rattle.std.proofs.Common.{◌≡◌, ℕ, ℤ, List, [], ◌∷◌, Some, refl, sym, ◌∙◌, ap}
use Rattle.std.specs.List.{AllZip}
use Rattle.dim_core.specs.Draft.{Draft, IsResolvedPart, IsResolvedAttribute, IsFinished}
use Rattle.dim_core.specs.Outline.{Outline, names_of}
use Rattle.dim_core.specs.declared.attribute.Attribute.{Attribute}
use Rattle.dim_core.specs.declared.attribute.NamedAttribute.{NamedAttribute}
use Rattle.dim_text.specs.Progress.{Progress, Text, IsBuilt}
use Rattle.dim_core.proofs.OwnDefinitions.{element_is, attribute_is, outline_is}

-- what each item on the left determines on the right
pub one_right : {A B : Type 0} (R : A → B → Type 0) → ((a : A) (x y : B) → R a x → R a y → x ≡ y) → (list : List A) (xs ys : List B) → AllZip R list xs → AllZip R list ys → xs ≡ ys
one_right R one [] [] [] h k = refl
one_right R one [] (x ∷ xs) ys h k = absurd h
one_right R one [] [] (y ∷ ys) h k = absurd k
one_right R one (a ∷ list) [] ys h k = absurd h
one_right R one (a ∷ list) (x ∷ xs) [] h k = absurd k
one_right R one (a ∷ list) (x ∷ xs) (y ∷ ys) (h, more) (k, rest) = ap (λ z. z ∷ xs) (one a x y h k) ∙ ap (λ z. y ∷ z) (one_right R one list xs ys more rest)

-- and the other way round
pub one_left : {A B : Type 0} (R : A → B → Type 0) → ((x y : A) (b : B) → R x b → R y b → x ≡ y) → (xs ys : List A) (list : List B) → AllZip R xs list → AllZip R ys list → xs ≡ ys
one_left R one [] [] list h k = refl
one_left R one [] (y ∷ ys) [] h k = absurd k
one_left R one [] (y ∷ ys) (b ∷ list) h k = absurd h
one_left R one (x ∷ xs) ys [] h k = absurd h
one_left R one (x ∷ xs) [] (b ∷ list) h k = absurd k
one_left R one (x ∷ xs) (y ∷ ys) (b ∷ list) (h, more) (k, rest) = ap (λ z. z ∷ xs) (one x y b h k) ∙ ap (λ z. y ∷ z) (one_left R one xs ys list more rest)

one_some : {A : Type 0} (o : _) (a b : A) → o ≡ Some a → o ≡ Some b → a ≡ b
one_some o a b h k = cc

pair_is : {A B : Type 0} (x y : A × B) → x.0 ≡ y.0 → x.1 ≡ y.1 → x ≡ y
pair_is x y e f = ap (λ z. (z, x.1)) e ∙ ap (λ z. (y.0, z)) f

one_part : (names : List (List ℕ)) (written : List ℕ × ℤ) (x y : ℕ × ℤ) → IsResolvedPart names written x → IsResolvedPart names written y → x ≡ y
one_part names written x y h k = pair_is x y (one_some _ x.0 y.0 h.0 k.0) (h.1 ∙ sym k.1)

one_attribute : (names : List (List ℕ)) (written : NamedAttribute) (x y : Attribute) → IsResolvedAttribute names written x → IsResolvedAttribute names written y → x ≡ y
one_attribute names written x y h k = attribute_is x y (one_some _ x.element y.element h.0 k.0) (h.1 ∙ sym k.1) (h.2 ∙ sym k.2)

pub one_outline : (draft : Draft) (x y : Outline) → IsFinished draft x → IsFinished draft y → x ≡ y
one_outline draft x y h k = outline_is x y (h.name ∙ sym k.name)
    (one_right _ (λ from a b e f. element_is a b (e.0 ∙ sym f.0) (one_right (IsResolvedPart (names_of draft.elements)) (one_part (names_of draft.elements)) from.components a.components b.components e.1 f.1)) draft.elements x.elements y.elements h.elements k.elements)
    (one_right (IsResolvedAttribute (names_of draft.elements)) (one_attribute (names_of draft.elements)) draft.attributes x.attributes y.attributes h.attributes k.attributes)

text_is : (x y : Text) → x.head ≡ y.head → x.dimension ≡ y.dimension → x.positions ≡ y.positions → x ≡ y
text_is x y e f g = ap (λ z. record { head = z; dimension = x.dimension; positions = x.positions }) e ∙ ap (λ z. record { head = y.head; dimension = z; positions = x.positions }) f ∙ ap (λ z. record { head = y.head; dimension = y.dimension; positions = z }) g

pub one_text : (x y : Text) (p : Progress) → IsBuilt x p → IsBuilt y p → x ≡ y
one_text x y p h k = text_is x y (h.head ∙ sym k.head) (one_outline p.draft x.dimension y.dimension h.dimension k.dimension) (h.positions ∙ sym k.positions)
