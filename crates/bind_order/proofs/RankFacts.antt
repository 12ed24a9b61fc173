-- The ranks of elements hold the leaves below them.
use Rattle.std.proofs.Common.{◌≡◌, ◌<◌, ◌≤◌, ℕ, zero, suc, max, Bool, true, false, cond, nat_le, eqb, ℤ, pos, List, [], ◌∷◌, map, length, Option, Some, None, IfSome, unwrap_or, if◌then◌else◌, refl, sym, ap, ◌∙◌, subst, arith, get_or, slice_index_or}
use Rattle.std.specs.List.{range_with_len}
use Rattle.std.specs.List.{All}
use Rattle.std.proofs.lemmas.Bool.{leb-true, eqb-true}
use Rattle.std.proofs.lemmas.List.{length-map}
use Rattle.std.proofs.lemmas.List.Elements.{All-map}
use Rattle.std.proofs.lemmas.List.FromFn.{length-range_with_len, get_or-range_with_len, length-map-range_with_len, get_or-map-range_with_len}
use Rattle.dim_core.specs.Outline.{Outline, IsDimension, IsElement, components_of}
use Rattle.dim_weights.specs.Coefficients.{coef, coef_over}
use Rattle.dim_weights.specs.Table.{is_nonzero, nonzero_among}
use Rattle.dim_weights.proofs.Equations.{coef-solves, only-leaves}
use Rattle.cube_space.specs.Cells.{is_leaf}
use Rattle.rule_model.specs.Order.{greatest}
use Rattle.rule_model.specs.Conditions.{greatest_rank, AreRanks}
use Rattle.bind_order.specs.Inside.Held.{AreHeldRanks}
use Rattle.bind_order.specs.Inside.Given.{AreWithin}
use Rattle.bind_order.specs.Ranks.{leaf_rank, greatest_leaf, filled_rank, fitting, rank_of, index_ranks, ranks_by_index, ranks_of}
use Rattle.bind_order.proofs.ListFacts.{all_at, all_long}
use Rattle.dim_weights.proofs.Nonzero.{counts-nonzero as nonzero}

at_least : (a b : ℕ) → (a ≤ max a b) × (b ≤ max a b)
at_least a b = (omega arith, omega arith)

at_most : (a b n : ℕ) → a ≤ n → b ≤ n → max a b ≤ n
at_most a b n la lb = omega (arith, la, lb)

counted : (v : ℕ → ℤ) (f : ℕ → ℕ) (xs : List ℕ) (k : ℕ) → k < length xs → (v (get_or xs k 0) ≡ pos 0 → ⊥) → f (get_or xs k 0) ≤ greatest (map (λ pair. f pair.0) (nonzero_among v xs))
counted v f [] k low other = absurd (omega (arith, low))
counted v f (x ∷ xs) zero low other = rw (nonzero (v x) other) ((at_least (f x) (greatest (map (λ pair. f pair.0) (nonzero_among v xs)))).0)
counted v f (x ∷ xs) (suc k) low other = by (is_nonzero (v x)) (counted v f xs k (omega (arith, low)) other)
  where
    rest : List (ℕ × ℤ)
    rest = nonzero_among v xs

    by : (b : Bool) → f (get_or xs k 0) ≤ greatest (map (λ pair. f pair.0) rest) → f (get_or xs k 0) ≤ greatest (map (λ (pair : ℕ × ℤ). f pair.0) (cond b ((x, v x) ∷ rest) rest))
    by true later = let both = at_least (f x) (greatest (map (λ pair. f pair.0) rest)) in omega (arith, both.1, later)
    by false later = later

-- where all that count are small, so is the greatest
all_small : (v : ℕ → ℤ) (f : ℕ → ℕ) (n : ℕ) (xs : List ℕ) → ((x : ℕ) → is_nonzero (v x) ≡ true → f x ≤ n) → greatest (map (λ pair. f pair.0) (nonzero_among v xs)) ≤ n
all_small v f n [] small = omega arith
all_small v f n (x ∷ xs) small = by (is_nonzero (v x)) refl (all_small v f n xs small)
  where
    rest : List (ℕ × ℤ)
    rest = nonzero_among v xs

    by : (b : Bool) → is_nonzero (v x) ≡ b → greatest (map (λ pair. f pair.0) rest) ≤ n → greatest (map (λ (pair : ℕ × ℤ). f pair.0) (cond b ((x, v x) ∷ rest) rest)) ≤ n
    by true is later = at_most (f x) (greatest (map (λ pair. f pair.0) rest)) n (small x is) later
    by false is later = later

-- a leaf counts in itself alone
alone : (d : Outline) → IsDimension d → (leaf other : ℕ) → IsElement d leaf → components_of d leaf ≡ [] → is_nonzero (coef d leaf other) ≡ true → leaf ≡ other
alone d dim leaf other here none some = by (eqb leaf other) refl
  where
    is : coef d leaf other ≡ (if eqb leaf other then pos 1 else pos 0)
    is = coef-solves d dim other leaf here ∙ ap (coef_over other leaf (λ e. coef d e other)) none

    by : (b : Bool) → eqb leaf other ≡ b → leaf ≡ other
    by true e = eqb-true leaf other e
    by false e = absurd (let zero : coef d leaf other ≡ pos 0 = is ∙ ap (λ b. if b then pos 1 else pos 0) e in let f : false ≡ true = ap is_nonzero (sym zero) ∙ some in cc f)

-- a leaf that isn't given a rank has 0
leaf_low : (d : Outline) (dim : IsDimension d) (given : List (Option ℕ)) (leaf : ℕ) → IsElement d leaf → components_of d leaf ≡ []
    → unwrap_or (slice_index_or given leaf None) (greatest_leaf d given leaf) ≤ leaf_rank given leaf
leaf_low d dim given leaf here none = by (slice_index_or given leaf None) refl
  where
    by : (o : Option ℕ) → slice_index_or given leaf None ≡ o → unwrap_or o (greatest_leaf d given leaf) ≤ unwrap_or o 0
    by (Some rank) is = omega arith
    by None is = all_small (coef d leaf) (leaf_rank given) 0 (range_with_len 0 (length d.elements))
        (λ x some. subst (λ e. leaf_rank given e ≤ 0) (alone d dim leaf x here none some) (let low : leaf_rank given leaf ≡ 0 = ap (λ p. unwrap_or p 0) is in omega (arith, low)))

-- a rank that fits
fits : (least rank found : ℕ) → fitting least rank ≡ Some found → (found ≡ rank) × (least ≤ rank)
fits least rank found is = by (nat_le least rank) refl
  where
    by : (a : Bool) → nat_le least rank ≡ a → (found ≡ rank) × (least ≤ rank)
    by true low =
        let some : fitting least rank ≡ Some rank = rw low refl in
        let e : Some rank ≡ Some found = sym some ∙ is in
        ((let same : rank ≡ found = cc in sym same), leb-true least rank low)
    by false low = absurd (let none : fitting least rank ≡ None = rw low refl in let e : None ≡ Some found = sym none ∙ is in cc e)

-- the ranks that are made are no greater than those that are given
small_at : (given : List (Option ℕ)) → AreWithin given → (k : ℕ) → IfSome (slice_index_or given k None) (λ r. r ≤ greatest_rank)
small_at [] small k = tt
small_at (g ∷ given) small zero = small 0 None (omega arith)
small_at (g ∷ given) small (suc k) = small_at given (λ j d low. small (suc j) d (omega (arith, low))) k

small_leaf : (given : List (Option ℕ)) → AreWithin given → (leaf : ℕ) → leaf_rank given leaf ≤ greatest_rank
small_leaf given small leaf = by (slice_index_or given leaf None) (small_at given small leaf)
  where
    by : (o : Option ℕ) → IfSome o (λ r. r ≤ greatest_rank) → unwrap_or o 0 ≤ greatest_rank
    by (Some rank) low = low
    by None low = omega arith

no_components : (d : Outline) → IsDimension d → (element leaf : ℕ) → IsElement d element → (coef d element leaf ≡ pos 0 → ⊥) → components_of d leaf ≡ []
no_components d dim element leaf here other = by (components_of d leaf) refl
  where
    by : (parts : List (ℕ × ℤ)) → components_of d leaf ≡ parts → components_of d leaf ≡ []
    by [] is = is
    by (part ∷ parts) is = absurd (other (only-leaves d dim leaf (λ none. let e : part ∷ parts ≡ [] = sym is ∙ none in cc e) element here))

-- what counts in an element is a leaf
pub leaf-counted : (d : Outline) → IsDimension d → (element leaf : ℕ) → IsElement d element → (coef d element leaf ≡ pos 0 → ⊥) → is_leaf d leaf ≡ true
leaf-counted d dim element leaf here other = ap (λ (parts : List (ℕ × ℤ)). eqb (length parts) 0) (no_components d dim element leaf here other)

filled-small : (d : Outline) (given : List (Option ℕ)) → AreWithin given → (k : ℕ) → filled_rank d given k ≤ greatest_rank
filled-small d given within k = by (slice_index_or given k None) (small_at given within k)
  where
    by : (o : Option ℕ) → IfSome o (λ r. r ≤ greatest_rank) → unwrap_or o (greatest_leaf d given k) ≤ greatest_rank
    by (Some rank) low = low
    by None low = all_small (coef d k) (leaf_rank given) greatest_rank (range_with_len 0 (length d.elements)) (λ x some. small_leaf given within x)

-- ranks that fill in those that aren't given, and ranks that are given, are ranks
pub filled-are : (d : Outline) (given : List (Option ℕ)) → AreWithin given → AreRanks d (map (filled_rank d given) (range_with_len 0 (length d.elements)))
filled-are d given within = record {
  each = length-map-range_with_len (filled_rank d given) 0 n;
  small = λ k x low.
      let here : k < n = omega (arith, low, length-map-range_with_len (filled_rank d given) 0 n) in
      let is : get_or (map (filled_rank d given) (range_with_len 0 n)) k x ≡ filled_rank d given k = get_or-map-range_with_len (filled_rank d given) 0 n k k x here (omega arith) in
      subst (λ r. r ≤ greatest_rank) (sym is) (filled-small d given within k);
}
  where
    n : ℕ
    n = length d.elements

given-small : (given : List (Option ℕ)) → AreWithin given → All (λ rank. rank ≤ greatest_rank) (map (λ rank. unwrap_or rank 0) given)
given-small given small = All-map (λ rank. rank ≤ greatest_rank) (λ rank. unwrap_or rank 0) given (λ k x low. by (get_or given k x) (small k x low))
  where
    by : (o : Option ℕ) → IfSome o (λ r. r ≤ greatest_rank) → unwrap_or o 0 ≤ greatest_rank
    by (Some rank) low = low
    by None low = omega arith

pub given-are : (d : Outline) (given : List (Option ℕ)) → length given ≡ length d.elements → AreWithin given → AreRanks d (map (λ rank. unwrap_or rank 0) given)
given-are d given whole small = record {
  each = length-map given (λ rank. unwrap_or rank 0) ∙ whole;
  small = given-small given small;
}

pub ranks_hold : (d : Outline) → IsDimension d → (given : List (Option ℕ)) (ranks : List ℕ) → AreWithin given → ranks_of d given ≡ Some ranks → AreHeldRanks d ranks
unfolding ranks_of
ranks_hold d dim given ranks within is = record {
  are = record {
    each = long ∙ length-range_with_len 0 n;
    small = λ k x low. let e = at k x (omega (arith, low, long, length-range_with_len 0 n)) in omega (arith, e.0, filled-small d given within k);
  };
  hold = λ element leaf here below counts.
      let top = at element 0 here in
      let bottom = at leaf 0 below in
      let low = leaf_low d dim given leaf below (no_components d dim element leaf here counts) in
      let same : get_or (range_with_len 0 n) leaf 0 ≡ leaf = get_or-range_with_len 0 n leaf 0 below ∙ (omega arith) in
      let held = counted (coef d element) (leaf_rank given) (range_with_len 0 n) leaf (omega (arith, below, length-range_with_len 0 n)) (λ z. counts (ap (coef d element) (sym same) ∙ z)) in
      let inside : leaf_rank given leaf ≤ greatest_leaf d given element = subst (λ x. leaf_rank given x ≤ greatest_leaf d given element) same held in
      omega (arith, top.0, top.1, bottom.0, low, inside);
}
  where
    n : ℕ
    n = length d.elements

    long : length ranks ≡ length (range_with_len 0 n)
    long = all_long (rank_of d given) (range_with_len 0 n) ranks is

    wanted : ℕ → ℕ
    wanted k = filled_rank d given k

    at : (k x : ℕ) → k < n → (get_or ranks k x ≡ wanted k) × (greatest_leaf d given k ≤ wanted k)
    at k x low =
        let here = all_at (rank_of d given) (range_with_len 0 n) ranks k 0 x is (omega (arith, low, length-range_with_len 0 n)) in
        let same : get_or (range_with_len 0 n) k 0 ≡ k = get_or-range_with_len 0 n k 0 low ∙ (omega arith) in
        fits (greatest_leaf d given k) (wanted k) (get_or ranks k x) (subst (λ e. rank_of d given e ≡ Some (get_or ranks k x)) same here)

-- the ranks by index hold the leaves below them
pub index_hold : (d : Outline) → IsDimension d → AreWithin (index_ranks d) → AreHeldRanks d (ranks_by_index d)
unfolding ranks_by_index
index_hold d dim within = record {
  are = record {
    each = length-map-range_with_len rank 0 n;
    small = λ k x low. subst (λ r. r ≤ greatest_rank) (sym (at k x (omega (arith, low, length-map-range_with_len rank 0 n)))) (most k);
  };
  hold = λ element leaf here below counts.
      let none = no_components d dim element leaf here counts in
      let same : get_or (range_with_len 0 n) leaf 0 ≡ leaf = get_or-range_with_len 0 n leaf 0 below ∙ (omega arith) in
      let held = counted (coef d element) (leaf_rank given) (range_with_len 0 n) leaf (omega (arith, below, length-range_with_len 0 n)) (λ z. counts (ap (coef d element) (sym same) ∙ z)) in
      let inside : leaf_rank given leaf ≤ rank element = subst (λ x. leaf_rank given x ≤ rank element) same held in
      let own : rank leaf ≤ leaf_rank given leaf = all_small (coef d leaf) (leaf_rank given) (leaf_rank given leaf) (range_with_len 0 n) (λ x some. subst (λ e. leaf_rank given e ≤ leaf_rank given leaf) (alone d dim leaf x below none some) (omega arith)) in
      omega (arith, at element 0 here, at leaf 0 below, inside, own);
}
  where
    n : ℕ
    n = length d.elements

    given : List (Option ℕ)
    given = index_ranks d

    rank : ℕ → ℕ
    rank = greatest_leaf d given

    at : (k x : ℕ) → k < n → get_or (map rank (range_with_len 0 n)) k x ≡ rank k
    at k x low = get_or-map-range_with_len rank 0 n k k x low (omega arith)

    most : (k : ℕ) → rank k ≤ greatest_rank
    most k = all_small (coef d k) (leaf_rank given) greatest_rank (range_with_len 0 n) (λ x some. small_leaf given within x)
