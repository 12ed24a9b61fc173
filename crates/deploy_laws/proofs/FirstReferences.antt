-- Of a model there is one first reference of which something doesn't hold.
use Rattle.std.proofs.Common.{◌≡◌, inl, inr, sym, ap, ◌∙◌, arith, subst, ℕ, zero, suc, ◌<◌, Some, None, List, [], ◌∷◌, take, All}
use Rattle.std.specs.Prelude.{slice_get}
use Rattle.std.proofs.lemmas.Bool.{cases_lt}
use Rattle.rule_model.specs.declared.rules.Statement.{Statement}
use Rattle.rule_model.specs.BoundModel.{BoundModel, rules_of}
use Rattle.ref_order.specs.Counted.{Counted, counted_of}
use Rattle.ref_order.specs.FirstReference.{HoldsOfEach, IsFirstOf, IsFirstReference}

-- ---- of a list

module _ {X : Type 0} (P : X → Type 0) where
  pub there-holds : (xs : List X) (n : ℕ) (x : X) → All P xs → slice_get xs n ≡ Some x → P x
  there-holds [] n x all at = let clash : None ≡ Some x = at in absurd (cc)
  there-holds (y ∷ xs) zero x all at = let same : y ≡ x = cc in subst P same (all 0 y (omega arith))
  there-holds (y ∷ xs) (suc n) x all at = there-holds xs n x (λ k d low. all (suc k) d (omega (arith, low))) at

  pub taken-holds : (xs : List X) (n k : ℕ) (x : X) → All P (take n xs) → k < n → slice_get xs k ≡ Some x → P x
  taken-holds [] n k x all low at = let clash : None ≡ Some x = at in absurd (cc)
  taken-holds (y ∷ xs) zero k x all low at = absurd (omega (arith, low))
  taken-holds (y ∷ xs) (suc n) zero x all low at = let same : y ≡ x = cc in subst P same (all 0 y (omega arith))
  taken-holds (y ∷ xs) (suc n) (suc k) x all low at = taken-holds xs n k x (λ j d less. all (suc j) d (omega (arith, less))) (omega (arith, low)) at

-- ---- of a statement

module _ (holds : Counted → Type 0) (s : Statement) where
  -- of two first references of a statement neither is before the other
  reference-before : (r q : ℕ) (x : IsFirstOf holds s r) (y : IsFirstOf holds s q) → x.place < y.place → ⊥
  reference-before r q x y less = x.fails (taken-holds holds (counted_of s) y.place x.place x.it y.before less x.here)

  one-of-statement : (r q : ℕ) → IsFirstOf holds s r → IsFirstOf holds s q → r ≡ q
  one-of-statement r q x y = elim (cases_lt x.place y.place) [
    | inl less ↦ absurd (reference-before r q x y less)
    | inr high ↦ elim (cases_lt y.place x.place) [
      | inl less ↦ absurd (reference-before q r y x less)
      | inr also ↦ (let same : x.place ≡ y.place = omega (arith, high, also) in x.number ∙ ap suc same ∙ sym y.number)
    ]
  ]

  -- there is none where it holds of all
  pub none-of-all : (r : ℕ) → IsFirstOf holds s r → HoldsOfEach holds s → ⊥
  none-of-all r x all = x.fails (there-holds holds (counted_of s) x.place x.it all x.here)

-- ---- of a model

module _ (holds : ℕ → Statement → Counted → Type 0) (m : BoundModel) where
  abbrev AllHold : ℕ → Statement → Type 0
  AllHold cube s = HoldsOfEach (holds cube s) s

  statement-before : (cube st r tt q : ℕ) (x : IsFirstReference holds m cube st r) (y : IsFirstReference holds m cube tt q) → x.place < y.place → ⊥
  statement-before cube st r tt q x y less =
      none-of-all (holds cube x.it) x.it r x.first (taken-holds (AllHold cube) (rules_of m cube).statements y.place x.place x.it y.before less x.here)

  cube-before : (cube other st r tt q : ℕ) → IsFirstReference holds m cube st r → IsFirstReference holds m other tt q → cube < other → ⊥
  cube-before cube other st r tt q x y less =
      none-of-all (holds cube x.it) x.it r x.first (there-holds (AllHold cube) (rules_of m cube).statements x.place x.it (y.cubes_before cube less) x.here)

  module _ {A : Type 0} (told : ℕ → ℕ → ℕ → A) where
    same-statement : (cube st r tt q : ℕ) (x : IsFirstReference holds m cube st r) (y : IsFirstReference holds m cube tt q) → x.place ≡ y.place → told cube st r ≡ told cube tt q
    same-statement cube st r tt q x y same =
        let its : Some x.it ≡ Some y.it = sym x.here ∙ ap (slice_get (rules_of m cube).statements) same ∙ y.here in
        let it : x.it ≡ y.it = cc in
        let reference : r ≡ q = one-of-statement (holds cube y.it) y.it r q (subst (λ s. IsFirstOf (holds cube s) s r) it x.first) y.first in
        ap (λ n. told cube n r) (x.number ∙ ap suc same ∙ sym y.number) ∙ ap (told cube tt) reference

    one-in-cube : (cube st r tt q : ℕ) → IsFirstReference holds m cube st r → IsFirstReference holds m cube tt q → told cube st r ≡ told cube tt q
    one-in-cube cube st r tt q x y = elim (cases_lt x.place y.place) [
      | inl less ↦ absurd (statement-before cube st r tt q x y less)
      | inr high ↦ elim (cases_lt y.place x.place) [
        | inl less ↦ absurd (statement-before cube tt q st r y x less)
        | inr also ↦ same-statement cube st r tt q x y (omega (arith, high, also))
      ]
    ]

    pub one-reference : (cube other st r tt q : ℕ) → IsFirstReference holds m cube st r → IsFirstReference holds m other tt q → told cube st r ≡ told other tt q
    one-reference cube other st r tt q x y = elim (cases_lt cube other) [
      | inl less ↦ absurd (cube-before cube other st r tt q x y less)
      | inr high ↦ elim (cases_lt other cube) [
        | inl less ↦ absurd (cube-before other cube tt q st r y x less)
        | inr also ↦ (let same : cube ≡ other = omega (arith, high, also) in
            ap (λ k. told k st r) same ∙ one-in-cube other st r tt q (subst (λ k. IsFirstReference holds m k st r) same x) y)
      ]
    ]
