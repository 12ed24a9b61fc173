-- What stands in an order in which components come first: equations that read components alone are grounded.
use Rattle.std.proofs.Common.{◌≡◌, ℕ, ◌<◌, ◌≤◌, ◌⊎◌, inl, inr, true, eqb, ℤ, List, [], ◌∷◌, length, take, get_or, refl, sym, ◌∙◌, subst, arith}
use Rattle.std.specs.List.{list_all, position_or_len}
use Rattle.std.proofs.lemmas.Bool.{true≢false, eqb-true, eq-eqb, cases_lt}
use Rattle.std.proofs.lemmas.List.{get_or-take, length-take}
use Rattle.std.proofs.lemmas.List.Folds.{list_any_at}
use Rattle.std.proofs.lemmas.List.Sums.{fails_before_first, passes_at_first}
use Rattle.dim_order.specs.Members.{is_among}
use Rattle.dim_order.specs.Loops.{IsOrder, parts_of}
use Rattle.dim_order.proofs.Tests.{both, place_in_front, place_among}

-- what stands at a place is among all
pub among-at : (xs : List ℕ) (i : ℕ) → i < length xs → is_among xs (get_or xs i 0) ≡ true
among-at xs i within = list_any_at (eqb (get_or xs i 0)) xs i 0 within (eq-eqb _ _ refl)

-- what is among the first few is among all
pub among-all : (xs : List ℕ) (i k : ℕ) → is_among (take i xs) k ≡ true → is_among xs k ≡ true
among-all xs i k among =
    let at = place_in_front xs i k among in
    subst (λ (x : ℕ). is_among xs x ≡ true) at.3 (among-at xs at.0 at.2)

-- and among the first that go past it
pub among-front : (xs : List ℕ) (i j : ℕ) → j < i → j < length xs → is_among (take i xs) (get_or xs j 0) ≡ true
among-front xs i j before within =
    let long : j < length (take i xs) = omega (arith, length-take i xs) in
    let same : get_or (take i xs) j 0 ≡ get_or xs j 0 = get_or-take i xs j 0 before in
    list_any_at (eqb (get_or xs j 0)) (take i xs) j 0 long (eq-eqb _ _ (sym same))

-- the first place of an element is no later than any
first_place : (order : List ℕ) (j element : ℕ) → get_or order j 0 ≡ element → position_or_len (eqb element) order ≤ j
first_place order j element here = by (cases_lt j (position_or_len (eqb element) order))
  where
    at : eqb element (get_or order j 0) ≡ true
    at = eq-eqb element (get_or order j 0) (sym here)

    by : (j < position_or_len (eqb element) order) ⊎ (position_or_len (eqb element) order ≤ j) → position_or_len (eqb element) order ≤ j
    by (inl before) = absurd (true≢false (sym at ∙ fails_before_first (eqb element) order j 0 before))
    by (inr after) = after

-- what holds of each part, as a recursion finds it
abbrev pub Agree : {V : Type 0} → (ℕ → V) → (ℕ → V) → List (ℕ × ℤ) → Type 0
Agree S T [] = Unit {0}
Agree S T (part ∷ parts) = (S part.0 ≡ T part.0) × Agree S T parts

-- tables that agree on the first elements agree on components that are among them
pub agree-among : {V : Type 0} (front : List ℕ) (S T : ℕ → V) (parts : List (ℕ × ℤ)) → list_all (λ part. is_among front part.0) parts ≡ true
    → ((x : ℕ) → is_among front x ≡ true → S x ≡ T x) → Agree S T parts
agree-among front S T [] among same = tt
agree-among front S T (part ∷ parts) among same =
    let tests = both (is_among front part.0) (list_all (λ part. is_among front part.0) parts) among in
    (same part.0 tests.0, agree-among front S T parts tests.1 same)

module _ (lists : List (List (ℕ × ℤ))) (order : List ℕ) (ordered : IsOrder lists order) where
  -- where an element stands in the order
  pub depth : ℕ → ℕ
  depth element = position_or_len (eqb element) order

  pub depth-within : (element : ℕ) → element < length lists → depth element < length lists
  unfolding depth
  depth-within element here =
      let at = place_among order element (ordered.each element here) in
      let first = first_place order at.0 element at.2 in
      omega (arith, at.1, ordered.whole)

  pub depth-at : (element : ℕ) → element < length lists → get_or order (depth element) 0 ≡ element
  unfolding depth
  depth-at element here =
      let within = depth-within element here in
      sym (eqb-true element (get_or order (depth element) 0) (passes_at_first (eqb element) order 0 (omega (arith, ordered.whole))))

  -- what stands before
  pub depth-earlier : (element part : ℕ) → is_among (take (depth element) order) part ≡ true → depth part < depth element
  unfolding depth
  depth-earlier element part among =
      let at = place_in_front order (depth element) part among in
      let first = first_place order at.0 part at.3 in
      omega (arith, at.1)

  -- components stand before
  pub parts-earlier : (element : ℕ) → element < length lists → list_all (λ part. is_among (take (depth element) order) part.0) (parts_of lists element) ≡ true
  parts-earlier element here =
      let within : depth element < length order = omega (arith, depth-within element here, ordered.whole) in
      let earlier = ordered.earlier (depth element) within in
      rw (depth-at element here) at earlier

  -- tables that agree where it is less deep agree on an element's components
  pub agree-parts : {V : Type 0} (S T : ℕ → V) (element : ℕ) → element < length lists
      → ((x : ℕ) → x < length lists → depth x < depth element → S x ≡ T x) → Agree S T (parts_of lists element)
  agree-parts S T element here same =
      agree-among (take (depth element) order) S T (parts_of lists element) (parts-earlier element here)
      (λ x among. same x (ordered.within x (among-all order (depth element) x among)) (depth-earlier element x among))
