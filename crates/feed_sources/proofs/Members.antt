-- What is in a list, from its front on.
use Rattle.std.proofs.Common.{◌≡◌, refl, zero, suc, ◌⊎◌, inl, inr, List, [], ◌∷◌, ◌++◌, map, arith, subst, sym}
use Rattle.std.specs.List.{Any, Contains, flat_map}
use Rattle.std.proofs.lemmas.List.Elements.{Contains-push_cases, Contains-append_right, Contains-append_cases}
pub use Rattle.rule_laws.proofs.SparseFacts.{Contains-here as at-front}

pub none-there : {X : Type 0} (x : X) → Contains [] x → ⊥
none-there x has = omega (arith, has.1)

pub behind : {X : Type 0} (x : X) (xs : List X) (y : X) → Contains xs y → Contains (x ∷ xs) y
behind x xs y has = Contains-append_right (x ∷ []) xs y has

-- what is in a list is its first or behind it
pub front-or-behind : {X : Type 0} (x : X) (xs : List X) (y : X) → Contains (x ∷ xs) y → (x ≡ y) ⊎ Contains xs y
front-or-behind x xs y has =
    elim (Contains-append_cases (x ∷ []) xs y has) [
      | inl one ↦ elim (Contains-push_cases [] x y one) [
        | inl none ↦ absurd (none-there y none)
        | inr is ↦ inl is
      ]
      | inr more ↦ inr more
    ]

-- ---- some of a list

pub some-front : {X : Type 0} (P : X → Type 0) (x : X) (xs : List X) → P x → Any P (x ∷ xs)
some-front P x xs holds = (0, x, omega arith, refl, holds)

pub some-behind : {X : Type 0} (P : X → Type 0) (x : X) (xs : List X) → Any P xs → Any P (x ∷ xs)
some-behind P x xs (k, y, low, is, holds) = (suc k, y, omega arith, is, holds)

pub some-cases : {X : Type 0} (P : X → Type 0) (x : X) (xs : List X) → Any P (x ∷ xs) → P x ⊎ Any P xs
some-cases P x xs (zero, y, low, is, holds) = inl (subst P (sym is) holds)
some-cases P x xs (suc k, y, low, is, holds) = inr (k, y, omega arith, is, holds)

pub some-of-none : {X : Type 0} (P : X → Type 0) → Any P [] → ⊥
some-of-none P (k, y, low, is, holds) = omega (arith, low)

module _ {X : Type 0} (P : X → Type 0) where
  pub some-left : (xs ys : List X) → Any P xs → Any P (xs ++ ys)
  some-left [] ys some = absurd (some-of-none P some)
  some-left (x ∷ xs) ys some =
      elim (some-cases P x xs some) [
        | inl here ↦ some-front P x (xs ++ ys) here
        | inr later ↦ some-behind P x (xs ++ ys) (some-left xs ys later)
      ]

  pub some-right : (xs ys : List X) → Any P ys → Any P (xs ++ ys)
  some-right [] ys some = some
  some-right (x ∷ xs) ys some = some-behind P x (xs ++ ys) (some-right xs ys some)

  pub some-parts : (xs ys : List X) → Any P (xs ++ ys) → Any P xs ⊎ Any P ys
  some-parts [] ys some = inr some
  some-parts (x ∷ xs) ys some =
      elim (some-cases P x (xs ++ ys) some) [
        | inl here ↦ inl (some-front P x xs here)
        | inr later ↦ elim (some-parts xs ys later) [
          | inl left ↦ inl (some-behind P x xs left)
          | inr right ↦ inr right
        ]
      ]

  -- some of the lists that a function gives has it
  pub some-of-lists : {Y : Type 0} (f : Y → List X) (ys : List Y) (y : Y) → Contains ys y → Any P (f y) → Any P (flat_map f ys)
  some-of-lists f [] y has some = absurd (none-there y has)
  some-of-lists f (z ∷ ys) y has some =
      elim (front-or-behind z ys y has) [
        | inl is ↦ some-left (f z) (flat_map f ys) (subst (λ v. Any P (f v)) (sym is) some)
        | inr more ↦ some-right (f z) (flat_map f ys) (some-of-lists f ys y more some)
      ]

  pub list-of-some : {Y : Type 0} (f : Y → List X) (ys : List Y) → Any P (flat_map f ys) → (y : Y) × Any P (f y)
  list-of-some f [] some = absurd (some-of-none P some)
  list-of-some f (y ∷ ys) some =
      elim (some-parts (f y) (flat_map f ys) some) [
        | inl here ↦ (y, here)
        | inr later ↦ list-of-some f ys later
      ]

  pub some-mapped : {Y : Type 0} (h : Y → X) (ys : List Y) → Any (λ y. P (h y)) ys → Any P (map h ys)
  some-mapped h [] some = absurd (some-of-none (λ y. P (h y)) some)
  some-mapped h (y ∷ ys) some =
      elim (some-cases (λ v. P (h v)) y ys some) [
        | inl here ↦ some-front P (h y) (map h ys) here
        | inr later ↦ some-behind P (h y) (map h ys) (some-mapped h ys later)
      ]

  pub some-unmapped : {Y : Type 0} (h : Y → X) (ys : List Y) → Any P (map h ys) → Any (λ y. P (h y)) ys
  some-unmapped h [] some = absurd (some-of-none P some)
  some-unmapped h (y ∷ ys) some =
      elim (some-cases P (h y) (map h ys) some) [
        | inl here ↦ some-front (λ v. P (h v)) y ys here
        | inr later ↦ some-behind (λ v. P (h v)) y ys (some-unmapped h ys later)
      ]
