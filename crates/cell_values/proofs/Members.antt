-- Members of lists.
use Rattle.std.proofs.Common.{◌≡◌, refl, sym, ◌∙◌, ap, subst, ℕ, zero, suc, eqb, ◌⊎◌, inl, inr, Bool, true, false, List, [], ◌∷◌, drop, filter}
use Rattle.std.specs.Prelude.{IsTrue, ◌↔◌}
use Rattle.std.specs.List.{Contains, list_all}
use Rattle.std.proofs.lemmas.Bool.{eq-eqb, eqb-true}
use Rattle.dim_order.specs.Members.{is_among}
use Rattle.feed_sources.proofs.Members.{none-there, at-front, behind, front-or-behind}
pub use Rattle.std.proofs.lemmas.Bool.{or_parts as neither}
pub use Rattle.dim_weights.proofs.Nonzero.{zero-is as nonzero-is, counts-nonzero, nonzero-counts}

module _ {X : Type 0} where
  pub filter-contains : (p : X → Bool) (xs : List X) (x : X) → Contains xs x → p x ≡ true → Contains (filter p xs) x
  filter-contains p [] x has passes = absurd (none-there x has)
  filter-contains p (y ∷ xs) x has passes = by (p y) refl (front-or-behind y xs x has) (λ later. filter-contains p xs x later passes)
    where
      by : (b : Bool) → p y ≡ b → (y ≡ x) ⊎ Contains xs x → (Contains xs x → Contains (filter p xs) x) → Contains (filter p (y ∷ xs)) x
      by true on (inl same) rest = rw on (subst (λ (z : X). Contains (z ∷ filter p xs) x) (sym same) (at-front x (filter p xs)))
      by true on (inr later) rest = rw on (behind y (filter p xs) x (rest later))
      by false off (inl same) rest = let clash : true ≡ false = sym passes ∙ ap p (sym same) ∙ off in absurd (cc)
      by false off (inr later) rest = rw off (rest later)

  pub filter-all : (p : X → Bool) (xs : List X) → ((x : X) → Contains xs x → p x ≡ true) → filter p xs ≡ xs
  filter-all p [] all = refl
  filter-all p (x ∷ xs) all =
      let here : p x ≡ true = all x (at-front x xs) in
      let rest = filter-all p xs (λ y has. all y (behind x xs y has)) in
      rw here (ap (λ (ys : List X). x ∷ ys) rest)

  pub filter-member : (p : X → Bool) (xs : List X) (x : X) → Contains (filter p xs) x → Contains xs x × (p x ≡ true)
  filter-member p [] x has = absurd (none-there x has)
  filter-member p (y ∷ xs) x has = by (p y) refl (λ later. filter-member p xs x later)
    where
      by : (b : Bool) → p y ≡ b → (Contains (filter p xs) x → Contains xs x × (p x ≡ true)) → Contains (y ∷ xs) x × (p x ≡ true)
      by true on rest =
          let here : Contains (y ∷ filter p xs) x = rw on at has in
          elim (front-or-behind y (filter p xs) x here) [
            | inl same ↦ (subst (Contains (y ∷ xs)) same (at-front y xs), ap p (sym same) ∙ on)
            | inr later ↦ (let one = rest later in (behind y xs x one.0, one.1))
          ]
      by false off rest =
          let here : Contains (filter p xs) x = rw off at has in
          let one = rest here in (behind y xs x one.0, one.1)

  pub drop-member : (k : ℕ) (xs : List X) (x : X) → Contains (drop k xs) x → Contains xs x
  drop-member zero xs x has = has
  drop-member (suc k) [] x has = has
  drop-member (suc k) (y ∷ xs) x has = behind y xs x (drop-member k xs x has)

  pub all-pass : (p : X → Bool) (xs : List X) → ((x : X) → Contains xs x → p x ≡ true) → list_all p xs ≡ true
  all-pass p [] all = refl
  all-pass p (x ∷ xs) all =
      let here = all x (at-front x xs) in
      let rest = all-pass p xs (λ y has. all y (behind x xs y has)) in
      rw here rest

-- ---- members that are tested

pub among-there : (xs : List ℕ) (x : ℕ) → Contains xs x → is_among xs x ≡ true
among-there [] x has = absurd (none-there x has)
among-there (y ∷ xs) x has = at (front-or-behind y xs x has) (λ later. among-there xs x later)
  where
    at : (y ≡ x) ⊎ Contains xs x → (Contains xs x → is_among xs x ≡ true) → is_among (y ∷ xs) x ≡ true
    at (inl same) rest = let one : eqb x y ≡ true = eq-eqb x y (sym same) in rw one refl
    at (inr later) rest = by (eqb x y) refl
      where
        by : (b : Bool) → eqb x y ≡ b → is_among (y ∷ xs) x ≡ true
        by true is = rw is refl
        by false is = rw is (rest later)

pub there-among : (xs : List ℕ) (x : ℕ) → is_among xs x ≡ true → Contains xs x
there-among [] x is = absurd (cc)
there-among (y ∷ xs) x is = by (eqb x y) refl (λ rest. there-among xs x rest)
  where
    by : (b : Bool) → eqb x y ≡ b → (is_among xs x ≡ true → Contains xs x) → Contains (y ∷ xs) x
    by true on rest = subst (Contains (y ∷ xs)) (sym (eqb-true x y on)) (at-front y xs)
    by false off rest = behind y xs x (rest (rw off at is))

-- ---- weights

-- a test for members
pub has-is : (xs : List ℕ) (x : ℕ) (r : Bool) → IsTrue r ↔ Contains xs x → r ≡ is_among xs x
has-is xs x true tells = sym (among-there xs x (tells.0 refl))
has-is xs x false tells = by (is_among xs x) refl
  where
    by : (b : Bool) → is_among xs x ≡ b → false ≡ is_among xs x
    by true is = let clash : false ≡ true = tells.1 (there-among xs x is) in absurd (cc)
    by false is = sym is
