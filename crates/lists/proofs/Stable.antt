-- A stable sort by a number keeps, for each number, the items with it as they came.
use Rattle.std.proofs.Common.{◌≡◌, ◌∙◌, refl, sym, ap, ℕ, Bool, true, false, not, ◌&&◌, cond, Option, Some, List, [], ◌∷◌, fold, filter, eqb, arith, inl, inr}
use Rattle.std.specs.Ordering.{is_lt, nat_cmp}
use Rattle.std.specs.List.Sorted.{IsStableByKey, ties}
use Rattle.std.proofs.lemmas.Bool.Decides.{nat_tests, eqb_tells}
use Rattle.std.proofs.lemmas.List.Elements.{filter_agree}

module _ {X : Type 0} (key : X → ℕ) where
  -- the items with this number
  abbrev pub of_key : List X → ℕ → List X
  of_key xs k = filter (λ x. eqb (key x) k) xs

  tie : (k m : ℕ) → eqb m k ≡ (not (is_lt (nat_cmp k m)) && not (is_lt (nat_cmp m k)))
  tie k m = grind (arith, nat_tests)

  tied : (y : X) (xs : List X) → of_key xs (key y) ≡ filter (ties (λ (a : X) (b : X). is_lt (nat_cmp (key a) (key b))) y) xs
  tied y xs = filter_agree (λ x. eqb (key x) (key y)) (ties (λ (a : X) (b : X). is_lt (nat_cmp (key a) (key b))) y) (λ x. tie (key y) (key x)) xs

  its_key : (xs : List X) (k : ℕ) (y : X) (ys : List X) → of_key xs k ≡ y ∷ ys → key y ≡ k
  its_key [] k y ys is = absurd (cc)
  its_key (x ∷ xs) k y ys is =
      elim (eqb_tells (key x) k) [
        | inl t ↦ (let here = rw t.0 at is in let same : x ≡ y = cc in ap key (sym same) ∙ t.1)
        | inr t ↦ (let rest = rw t.0 at is in its_key xs k y ys rest)
      ]

  same_by_item : (us vs : List X) → ((y : X) → of_key us (key y) ≡ of_key vs (key y)) → (k : ℕ) (a b : List X) → of_key us k ≡ a → of_key vs k ≡ b → a ≡ b
  same_by_item us vs same k [] [] ua vb = refl
  same_by_item us vs same k (y ∷ a) b ua vb =
      let here : key y ≡ k = its_key us k y a ua in
      sym ua ∙ (ap (λ (j : ℕ). of_key us j) (sym here) ∙ (same y ∙ (ap (λ (j : ℕ). of_key vs j) here ∙ vb)))
  same_by_item us vs same k [] (y ∷ b) ua vb =
      let here : key y ≡ k = its_key vs k y b vb in
      sym ua ∙ (ap (λ (j : ℕ). of_key us j) (sym here) ∙ (same y ∙ (ap (λ (j : ℕ). of_key vs j) here ∙ vb)))

  pub stable_of_key : (xs sorted : List X) → IsStableByKey key nat_cmp xs sorted → (k : ℕ) → of_key sorted k ≡ of_key xs k
  stable_of_key xs sorted stable k =
      same_by_item sorted xs (λ y. tied y sorted ∙ (stable y ∙ sym (tied y xs))) k (of_key sorted k) (of_key xs k) refl refl

-- what the last item with a number gives, where `before` is what there was
module _ {X Y : Type 0} (key : X → ℕ) (given : X → Y) where
  abbrev latest : Option Y → List X → ℕ → Option Y
  latest before xs k = fold (λ now x. cond (eqb (key x) k) (Some (given x)) now) before xs

  latest-part : (b : Bool) (x : X) (xs : List X) (before : Option Y) (k : ℕ) → eqb (key x) k ≡ b → latest (cond b (Some (given x)) before) xs k ≡ latest before (cond b (x ∷ xs) xs) k
  latest-part true x xs before k same = ap (λ (b : Bool). latest (cond b (Some (given x)) before) xs k) (sym same)
  latest-part false x xs before k same = refl

  latest-of_key : (before : Option Y) (xs : List X) (k : ℕ) → latest before xs k ≡ latest before (of_key key xs k) k
  latest-of_key before [] k = refl
  latest-of_key before (x ∷ xs) k =
      latest-of_key (cond (eqb (key x) k) (Some (given x)) before) xs k ∙ latest-part (eqb (key x) k) x (of_key key xs k) before k refl

  pub latest-sorted : (before : Option Y) (xs sorted : List X) → IsStableByKey key nat_cmp xs sorted → (k : ℕ) → latest before sorted k ≡ latest before xs k
  latest-sorted before xs sorted stable k =
      latest-of_key before sorted k ∙ (ap (λ (ys : List X). latest before ys k) (stable_of_key key xs sorted stable k) ∙ sym (latest-of_key before xs k))
