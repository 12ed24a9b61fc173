-- Two lists that are compared item by item.
use Rattle.std.proofs.Common.{◌≡◌, ℕ, suc, ◌+◌, ◌<◌, ◌≤◌, Bool, true, false, not, ◌&&◌, Option, None, List, [], ◌∷◌, length, get_or, drop, refl, sym, ap, ◌∙◌, arith}
use Rattle.std.specs.Cmp.Lexicographic.{pointwise}
use Rattle.std.specs.Prelude.{slice_get, unwrap_or}
use Rattle.std.proofs.lemmas.Option.{unwrap_or-slice_get}
use Rattle.std.proofs.lemmas.List.{drop_more, length-drop, nil_from_length}

past : {A : Type 0} (xs : List A) (i : ℕ) → length xs ≤ i → drop i xs ≡ []
past xs i end = nil_from_length (drop i xs) (omega (arith, length-drop i xs))

pub compared-more : {A : Type 0} (E : A → A → Bool) (xs ys : List A) (i : ℕ) (d : A) → i < length xs → i < length ys
    → pointwise E (drop i xs) (drop i ys) ≡ (E (get_or xs i d) (get_or ys i d) && pointwise E (drop (i + 1) xs) (drop (i + 1) ys))
compared-more E xs ys i d low its = rw (drop_more xs i d low, drop_more ys i d its) refl

pub compared-all : {A : Type 0} (E : A → A → Bool) (xs ys : List A) (i : ℕ) → length xs ≤ i → length ys ≤ i
    → pointwise E (drop i xs) (drop i ys) ≡ true
compared-all E xs ys i end its = rw (past xs i end, past ys i its) refl

not-true : (t : Bool) → not t ≡ true → t ≡ false
not-true false on = refl
not-true true on = absurd (cc)

not-false : (t : Bool) → not t ≡ false → t ≡ true
not-false true off = refl
not-false false off = absurd (cc)

-- two maps, of which one element is looked at after another
module _ (E : Option ℕ → Option ℕ → Bool) (xs ys : List (Option ℕ)) (i : ℕ) (a b : Option ℕ) (differ : Bool) where
  here : i < length xs → i < length ys → a ≡ unwrap_or (slice_get xs i) None → b ≡ unwrap_or (slice_get ys i) None
      → pointwise E (drop i xs) (drop i ys) ≡ (E a b && pointwise E (drop (i + 1) xs) (drop (i + 1) ys))
  here low its one other =
      compared-more E xs ys i None low its
      ∙ ap (λ (x : Option ℕ). E x (get_or ys i None) && pointwise E (drop (i + 1) xs) (drop (i + 1) ys)) (sym (unwrap_or-slice_get xs i None) ∙ sym one)
      ∙ ap (λ (y : Option ℕ). E a y && pointwise E (drop (i + 1) xs) (drop (i + 1) ys)) (sym (unwrap_or-slice_get ys i None) ∙ sym other)

  pub map-differs : i < length xs → i < length ys → a ≡ unwrap_or (slice_get xs i) None → b ≡ unwrap_or (slice_get ys i) None
      → pointwise E (drop i xs) (drop i ys) ≡ pointwise E xs ys → differ ≡ not (E a b) → differ ≡ true → false ≡ pointwise E xs ys
  map-differs low its one other so is on =
      sym (ap (λ t. t && pointwise E (drop (i + 1) xs) (drop (i + 1) ys)) (not-true (E a b) (sym is ∙ on))) ∙ sym (here low its one other) ∙ so

  pub map-agrees : i < length xs → i < length ys → a ≡ unwrap_or (slice_get xs i) None → b ≡ unwrap_or (slice_get ys i) None
      → pointwise E (drop i xs) (drop i ys) ≡ pointwise E xs ys → differ ≡ not (E a b) → differ ≡ false → pointwise E (drop (i + 1) xs) (drop (i + 1) ys) ≡ pointwise E xs ys
  map-agrees low its one other so is off =
      sym (ap (λ t. t && pointwise E (drop (i + 1) xs) (drop (i + 1) ys)) (not-false (E a b) (sym is ∙ off))) ∙ sym (here low its one other) ∙ so
