-- Levels are the one solution of their equations, and there are more elements than levels.
use Rattle.std.proofs.Common.{◌≡◌, ◌≢◌, ◌⊎◌, inl, inr, ℕ, zero, suc, ◌+◌, ◌<◌, ◌≤◌, max, Bool, true, false, eqb, ℤ, List, [], ◌∷◌, ◌++◌, length, take, get_or, set, refl, ap, sym, ◌∙◌, subst, arith, All, slice_index}
use Rattle.std.specs.List.{list_all}
use Rattle.std.proofs.lemmas.Bool.{eqb-true, eq-eqb}
use Rattle.std.proofs.lemmas.List.{take_more, get_or-set_same, get_or-set_other}
use Rattle.std.proofs.lemmas.List.Elements.{All-set, All-nil, All-cons}
use Rattle.std.proofs.lemmas.List.Folds.{list_any_more}
use Rattle.equations.specs.Equations.{IsGrounded, Solves}
use Rattle.equations.proofs.RoundsFacts.{table_by_rounds-solves, table_by_rounds-only}
use Rattle.dim_order.specs.Members.{is_among}
use Rattle.dim_order.specs.Levels.{level_over, level_side, level_of, AreLevels}
use Rattle.dim_order.specs.Loops.{IsOrder, parts_of}
use Rattle.dim_order.proofs.Tests.{both, either, place_among}
use Rattle.dim_order.proofs.Depths.{Agree, agree-among, agree-parts, among-all, among-at, among-front, depth, depth-within, depth-earlier, parts-earlier}

level_over-agree : (S T : ℕ → ℕ) (parts : List (ℕ × ℤ)) → Agree S T parts → level_over S parts ≡ level_over T parts
level_over-agree S T [] same = refl
level_over-agree S T (part ∷ parts) same = rw (same.0, level_over-agree S T parts same.1) refl

level_over-push : (f : ℕ → ℕ) (parts : List (ℕ × ℤ)) (p : ℕ × ℤ) → level_over f (parts ++ p ∷ []) ≡ max (level_over f parts) (f p.0 + 1)
level_over-push f [] p = omega arith
level_over-push f (q ∷ parts) p = let rest = level_over-push f parts p in omega arith

pub level_over-more : (f : ℕ → ℕ) (parts : List (ℕ × ℤ)) (i : ℕ) (d : ℕ × ℤ) → i < length parts
    → level_over f (take (i + 1) parts) ≡ max (level_over f (take i parts)) (f (get_or parts i d).0 + 1)
level_over-more f parts i d within = ap (level_over f) (take_more parts i d within) ∙ level_over-push f (take i parts) (get_or parts i d)

-- each component has a smaller level than what lies over all
pub level_over-at : (f : ℕ → ℕ) (parts : List (ℕ × ℤ)) (k : ℕ) (e : ℕ × ℤ) → k < length parts → f (get_or parts k e).0 < level_over f parts
level_over-at f [] k e within = absurd (omega arith)
level_over-at f (p ∷ parts) zero e within = omega arith
level_over-at f (p ∷ parts) (suc k) e within = let rest = level_over-at f parts k e (omega arith) in omega arith

level_over-le : (f : ℕ → ℕ) (m : ℕ) (front : List ℕ) (parts : List (ℕ × ℤ)) → list_all (λ part. is_among front part.0) parts ≡ true
    → ((x : ℕ) → is_among front x ≡ true → f x < m) → level_over f parts ≤ m
level_over-le f m front [] among below = omega arith
level_over-le f m front (part ∷ parts) among below =
    let tests = both (is_among front part.0) (list_all (λ part. is_among front part.0) parts) among in
    let here = below part.0 tests.0 in
    let rest = level_over-le f m front parts tests.1 below in
    omega arith

parts-within : (n : ℕ) (front : List ℕ) (parts : List (ℕ × ℤ)) → list_all (λ part. is_among front part.0) parts ≡ true
    → ((x : ℕ) → is_among front x ≡ true → x < n) → All (λ part. part.0 < n) parts
parts-within n front [] among within = All-nil (λ part. part.0 < n)
parts-within n front (part ∷ parts) among within =
    let tests = both (is_among front part.0) (list_all (λ part. is_among front part.0) parts) among in
    All-cons (λ part. part.0 < n) part parts (within part.0 tests.0) (parts-within n front parts tests.1 within)

module _ (lists : List (List (ℕ × ℤ))) (order : List ℕ) (ordered : IsOrder lists order) where
  -- what stands in the order is an element, and its components are
  pub order-within : (i : ℕ) → i < length order → get_or order i 0 < length lists
  order-within i within = ordered.within (get_or order i 0) (among-at order i within)

  pub components-within : (i : ℕ) → i < length order → All (λ part. part.0 < length lists) (parts_of lists (get_or order i 0))
  components-within i within = parts-within (length lists) (take i order) (parts_of lists (get_or order i 0)) (ordered.earlier i within) (λ x among. ordered.within x (among-all order i x among))

  grounded : IsGrounded (λ element. element < length lists) (depth lists order ordered) (level_side lists)
  grounded S T element here same = level_over-agree S T (parts_of lists element) (agree-parts lists order ordered S T element here same)

  pub level-solves : Solves (λ element. element < length lists) (level_side lists) (level_of lists)
  unfolding level_of
  level-solves = table_by_rounds-solves (λ element. element < length lists) (depth lists order ordered) (level_side lists) grounded 0 (λ _. length lists) (depth-within lists order ordered)

  pub level-only : (table : ℕ → ℕ) → Solves (λ element. element < length lists) (level_side lists) table → (element : ℕ) → element < length lists → table element ≡ level_of lists element
  unfolding level_of
  level-only table solves element here = table_by_rounds-only (λ element. element < length lists) (depth lists order ordered) (level_side lists) grounded 0 (λ _. length lists) (depth-within lists order ordered) table solves element here

  level-low : (n : ℕ) (element : ℕ) → element < length lists → depth lists order ordered element < n → level_of lists element ≤ depth lists order ordered element
  level-low zero element here below = absurd (omega arith)
  level-low (suc n) element here below =
      let over = level_over-le (level_of lists) (depth lists order ordered element) (take (depth lists order ordered element) order) (parts_of lists element) (parts-earlier lists order ordered element here)
      (λ x among.
      let first = depth-earlier lists order ordered element x among in
      let low = level-low n x (ordered.within x (among-all order (depth lists order ordered element) x among)) (omega arith) in
      omega arith) in
      let same = level-solves element here in
      omega arith

  -- there are more elements than levels
  pub level-below : (element : ℕ) → element < length lists → level_of lists element < length lists
  level-below element here =
      let low = level-low (suc (depth lists order ordered element)) element here (omega arith) in
      let deep = depth-within lists order ordered element here in
      omega arith

  -- one more level is made, of the next in the order
  module _ (levels : List ℕ) (i v : ℕ) (within : i < length order) (whole : length levels ≡ length lists)
      (known : (k : ℕ) → is_among (take i order) k ≡ true → slice_index levels k ≡ level_of lists k) (made : v ≡ level_over (slice_index levels) (parts_of lists (get_or order i 0))) where
    inside : get_or order i 0 < length lists
    inside = ordered.within (get_or order i 0) (among-at order i within)

    level-at : v ≡ level_of lists (get_or order i 0)
    level-at =
        made
        ∙ level_over-agree (slice_index levels) (level_of lists) (parts_of lists (get_or order i 0)) (agree-among (take i order) (slice_index levels) (level_of lists) (parts_of lists (get_or order i 0)) (ordered.earlier i within) known)
        ∙ sym (level-solves (get_or order i 0) inside)

    pub levels-known : (k : ℕ) → is_among (take (i + 1) order) k ≡ true → slice_index (set levels (get_or order i 0) v) k ≡ level_of lists k
    levels-known k among = by (eqb k (get_or order i 0)) refl (either (is_among (take i order) k) (eqb k (get_or order i 0)) (sym (list_any_more (eqb k) order i 0 within) ∙ among))
      where
        by : (b : Bool) → eqb k (get_or order i 0) ≡ b → (is_among (take i order) k ≡ true) ⊎ (eqb k (get_or order i 0) ≡ true) → slice_index (set levels (get_or order i 0) v) k ≡ level_of lists k
        by true e place =
            let same = eqb-true k (get_or order i 0) e in
            ap (λ (x : ℕ). slice_index (set levels (get_or order i 0) v) x) same ∙ (get_or-set_same levels (get_or order i 0) v 0 (omega (arith, inside, whole)) ∙ (level-at ∙ ap (level_of lists) (sym same)))
        by false e (inl before) =
            let other : k ≢ get_or order i 0 = (λ same. let t = eq-eqb k (get_or order i 0) same in cc) in
            get_or-set_other levels (get_or order i 0) k v 0 other ∙ known k before
        by false e (inr here) = absurd (cc)

    pub levels-small : All (λ l. l < length lists) levels → All (λ l. l < length lists) (set levels (get_or order i 0) v)
    levels-small small =
        let below = level-below (get_or order i 0) inside in
        let at = level-at in
        let low : v < length lists = omega arith in
        All-set (λ l. l < length lists) levels (get_or order i 0) v low small

  pub levels-all : (levels : List ℕ) → (i : ℕ) → length order ≤ i → length levels ≡ length lists
      → ((k : ℕ) → is_among (take i order) k ≡ true → slice_index levels k ≡ level_of lists k) → AreLevels lists levels
  levels-all levels i past whole known = record {
    whole = whole;
    each = λ element here.
        let all = ordered.each element here in
        let at = place_among order element all in
        known element (subst (λ (x : ℕ). is_among (take i order) x ≡ true) at.2 (among-front order i at.0 (omega (arith, at.1)) at.1));
  }
