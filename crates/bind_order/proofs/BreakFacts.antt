-- Where an order is found to be broken, a leaf cell comes behind a consolidated cell in which it counts, and nowhere else.
use Rattle.std.proofs.Common.{◌≡◌, ◌<◌, ◌≤◌, ◌⊎◌, inl, inr, ℕ, zero, suc, ◌+◌, Bool, true, false, not, ◌&&◌, ◌||◌, List, [], ◌∷◌, length, map, All, Option, None, Some, take, refl, sym, ap, ◌∙◌, subst, arith, get_or, slice_get, nat_lt, ◌==◌}
use Rattle.std.specs.List.{list_all, cons_option}
use Rattle.std.proofs.lemmas.Bool.{and_parts, and_from, or_left, or_right, ltb-true, lt-ltb, eqb-true, eq-eqb, cases_lt, cases_eq, ne_eqb, both_ways, false_from_ne_true, not-true}
use Rattle.std.proofs.lemmas.List.{get_or-take, length-take-le, length-map, get_or_past, get_or_default}
use Rattle.std.proofs.lemmas.List.Sums.{AllPass-from_list_all, list_all-from_AllPass}
use Rattle.std.proofs.lemmas.Option.{slice_get_within}
use Rattle.dim_core.specs.Outline.{Outline, IsDimension}
use Rattle.dim_weights.proofs.Nonzero.{nonzero-counts, counts-nonzero}
use Rattle.lists.proofs.Found.{found_holds}
use Rattle.cube_space.specs.Layout.{axes_of, sizes_of}
use Rattle.cube_space.specs.Cells.{are_leaves}
use Rattle.cube_space.proofs.Radix.{digits-length}
use Rattle.rule_model.specs.declared.order.Position.{Position}
use Rattle.rule_model.specs.declared.order.Position.TheVariants as positions
use Rattle.rule_model.specs.Weights.{coef_product}
use Rattle.rule_model.specs.Order.{most_positions, position_in, number_by}
use Rattle.rule_model.specs.Conditions.{IsLeafBelow, AreEqualBefore, HoldsLeafCells, rank_in}
use Rattle.bind_order.specs.declared.by_kind.PositionByKind.{PositionByKind}
use Rattle.bind_order.specs.declared.by_kind.PositionByKind.TheVariants.{Constants, Ranks}
use Rattle.bind_order.specs.ByKind.{leaf_position, total_position, kinds_order}
use Rattle.bind_order.specs.LeafCells.{holds_leaf_cells}
use Rattle.bind_order.specs.Inside.Held.{IsByKind}
use Rattle.bind_order.specs.Inside.Breaks.{agrees_at, exceeds_at, agrees, exceeds, breaks_at, have_pairs, is_broken_at}
use Rattle.bind_order.proofs.PairFacts.{pass, ArePairs, pairs-there, pairs-found}
use Rattle.bind_order.proofs.LeafCellFacts.{holds-from, holds-back}

-- the number of a leaf cell and that of a consolidated cell at a position
leaf_number : PositionByKind → List ℕ → ℕ
leaf_number position leaf = number_by (leaf_position position) leaf

total_number : PositionByKind → List ℕ → ℕ
total_number position cell = number_by (total_position position) cell

-- ---- one position

same-agrees : (position : PositionByKind) (cell leaf : List ℕ) → number_by (leaf_position position) leaf ≡ number_by (total_position position) cell
    → (agrees position ≡ true) × ((place : ℕ) → agrees_at place (get_or cell place 0) (get_or leaf place 0) position ≡ true)
same-agrees (Constants a b) cell leaf same = (eq-eqb a b same, λ place. refl)
same-agrees (Ranks dim a b) cell leaf same = (refl, λ place. by place (cases_eq dim place))
  where
    by : (place : ℕ) → (dim ≡ place) ⊎ (dim ≡ place → ⊥) → (not (dim == place) || (rank_in a (get_or leaf place 0) == rank_in b (get_or cell place 0))) ≡ true
    by place (inl is) = or_right (not (dim == place)) _ (eq-eqb _ _ (subst (λ k. rank_in a (get_or leaf k 0) ≡ rank_in b (get_or cell k 0)) is same))
    by place (inr other) = or_left _ _ (ap not (ne_eqb dim place other))

greater-exceeds : (position : PositionByKind) (cell leaf : List ℕ) → number_by (total_position position) cell < number_by (leaf_position position) leaf
    → (exceeds position ≡ true) × ((place : ℕ) → exceeds_at place (get_or cell place 0) (get_or leaf place 0) position ≡ true)
greater-exceeds (Constants a b) cell leaf more = (lt-ltb b a more, λ place. refl)
greater-exceeds (Ranks dim a b) cell leaf more = (refl, λ place. by place (cases_eq dim place))
  where
    by : (place : ℕ) → (dim ≡ place) ⊎ (dim ≡ place → ⊥) → (not (dim == place) || nat_lt (rank_in b (get_or cell place 0)) (rank_in a (get_or leaf place 0))) ≡ true
    by place (inl is) = or_right (not (dim == place)) _ (lt-ltb _ _ (subst (λ k. rank_in b (get_or cell k 0) < rank_in a (get_or leaf k 0)) is more))
    by place (inr other) = or_left _ _ (ap not (ne_eqb dim place other))

-- at its own dimension, a test says what it says of the ranks
own : (dim : ℕ) (b : Bool) → (not (dim == dim) || b) ≡ true → b ≡ true
own dim b is = ap (λ c. not c || b) (sym (eq-eqb dim dim refl)) ∙ is

agrees-same : (ds : List Outline) (position : PositionByKind) (cell leaf : List ℕ) → IsByKind ds position → agrees position ≡ true
    → ((place : ℕ) → place < length ds → agrees_at place (get_or cell place 0) (get_or leaf place 0) position ≡ true)
    → number_by (leaf_position position) leaf ≡ number_by (total_position position) cell
agrees-same ds (Constants a b) cell leaf are constant each = eqb-true a b constant
agrees-same ds (Ranks dim a b) cell leaf (d, is, first, second) constant each = eqb-true _ _ (own dim _ (each dim (slice_get_within ds dim d is)))

exceeds-greater : (ds : List Outline) (position : PositionByKind) (cell leaf : List ℕ) → IsByKind ds position → exceeds position ≡ true
    → ((place : ℕ) → place < length ds → exceeds_at place (get_or cell place 0) (get_or leaf place 0) position ≡ true)
    → number_by (total_position position) cell < number_by (leaf_position position) leaf
exceeds-greater ds (Constants a b) cell leaf are constant each = ltb-true b a constant
exceeds-greater ds (Ranks dim a b) cell leaf (d, is, first, second) constant each = ltb-true _ _ (own dim _ (each dim (slice_get_within ds dim d is)))

-- ---- all places

pass-from : (test : ℕ → ℕ → ℕ → Bool) (place : ℕ) (cell leaf : List ℕ) → ((k : ℕ) → test (place + k) (get_or cell k 0) (get_or leaf k 0) ≡ true) → pass test place cell leaf ≡ true
pass-from test place [] leaf each = refl
pass-from test place (e ∷ cell) [] each = refl
pass-from test place (e ∷ cell) (l ∷ leaf) each =
    let here : place + 0 ≡ place = omega arith in
    and_from _ _ (subst (λ p. test p e l ≡ true) here (each 0))
    (pass-from test (suc place) cell leaf (λ k. let next : place + suc k ≡ suc place + k = omega arith in subst (λ p. test p (get_or cell k 0) (get_or leaf k 0) ≡ true) next (each (suc k))))

pass-at : (test : ℕ → ℕ → ℕ → Bool) (place : ℕ) (cell leaf : List ℕ) (k : ℕ) → k < length cell → k < length leaf → pass test place cell leaf ≡ true → test (place + k) (get_or cell k 0) (get_or leaf k 0) ≡ true
pass-at test place [] leaf k low less passes = absurd (omega (arith, low))
pass-at test place (e ∷ cell) [] k low less passes = absurd (omega (arith, less))
pass-at test place (e ∷ cell) (l ∷ leaf) zero low less passes =
    let here : place ≡ place + 0 = omega arith in
    subst (λ p. test p e l ≡ true) here (and_parts (test place e l) (pass test (suc place) cell leaf) passes).0
pass-at test place (e ∷ cell) (l ∷ leaf) (suc k) low less passes =
    let next : suc place + k ≡ place + suc k = omega arith in
    subst (λ p. test p (get_or cell k 0) (get_or leaf k 0) ≡ true) next
    (pass-at test (suc place) cell leaf k (omega (arith, low)) (omega (arith, less)) (and_parts (test place e l) (pass test (suc place) cell leaf) passes).1)

-- ---- an order

abbrev pub no_position : PositionByKind
no_position = Constants 0 0

-- each dimension of a cube is one
pub axes-are : (D : List Outline) → All IsDimension D → (dims : List ℕ) (k : ℕ) (d : Outline) → slice_get (axes_of D dims) k ≡ Some d → IsDimension d
axes-are D all [] k d is = absurd (cc is)
axes-are D all (n ∷ dims) k d is = by (axes-are D all dims) (slice_get D n) refl k is
  where
    by : ((k : ℕ) (d : Outline) → slice_get (axes_of D dims) k ≡ Some d → IsDimension d) → (o : Option Outline) → slice_get D n ≡ o → (k : ℕ) → slice_get (cons_option o (axes_of D dims)) k ≡ Some d → IsDimension d
    by later None none k is = later k d is
    by later (Some x) here zero is = let same : x ≡ d = cc in subst IsDimension same (found_holds IsDimension D n x all here)
    by later (Some x) here (suc k) is = later k d is

module _ (ds : List Outline) (list : List PositionByKind) where
  leaf-at : (place : ℕ) → position_in (kinds_order list) true place ≡ leaf_position (get_or list place no_position)
  leaf-at place = at list place
    where
      at : (xs : List PositionByKind) (k : ℕ) → get_or (map leaf_position xs) k (positions.Constant 0) ≡ leaf_position (get_or xs k no_position)
      at [] k = refl
      at (x ∷ xs) zero = refl
      at (x ∷ xs) (suc k) = at xs k

  total-at : (place : ℕ) → position_in (kinds_order list) false place ≡ total_position (get_or list place no_position)
  total-at place = at list place
    where
      at : (xs : List PositionByKind) (k : ℕ) → get_or (map total_position xs) k (positions.Constant 0) ≡ total_position (get_or xs k no_position)
      at [] k = refl
      at (x ∷ xs) zero = refl
      at (x ∷ xs) (suc k) = at xs k

  -- past the last position each cell has 0
  past : length list ≤ most_positions → (kind : Bool) (place : ℕ) (elements : List ℕ) → most_positions ≤ place → number_by (position_in (kinds_order list) kind place) elements ≡ 0
  past few true place elements high =
      ap (λ (p : Position). number_by p elements) (leaf-at place ∙ ap leaf_position (get_or_past list place no_position (omega (arith, few, high))))
  past few false place elements high =
      ap (λ (p : Position). number_by p elements) (total-at place ∙ ap total_position (get_or_past list place no_position (omega (arith, few, high))))

  abbrev pub is_broken : ℕ → Bool
  is_broken place = is_broken_at ds (take place list) (get_or list place no_position)

  module _ (cell leaf : List ℕ) (place : ℕ) (low : place < length list) where
    abbrev front : List PositionByKind
    front = take place list

    abbrev last : PositionByKind
    last = get_or list place no_position

    front-at : (k : ℕ) → k < place → get_or (take place list) k no_position ≡ get_or list k no_position
    front-at k less = get_or-take place list k no_position less

    front-all : (test : PositionByKind → Bool) → ((k : ℕ) → k < place → test (get_or list k no_position) ≡ true) → list_all test (take place list) ≡ true
    front-all test each = list_all-from_AllPass test (take place list) (λ k d less.
        let here : k < place = omega (arith, less, length-take-le place list (omega (arith, low))) in
        ap test (get_or_default (take place list) k d no_position less ∙ front-at k here) ∙ each k here)

    all-front : (test : PositionByKind → Bool) → list_all test (take place list) ≡ true → (k : ℕ) → k < place → test (get_or list k no_position) ≡ true
    all-front test all k less =
        ap test (sym (front-at k less)) ∙ AllPass-from_list_all test (take place list) all k no_position (omega (arith, less, length-take-le place list (omega (arith, low))))

    equal-at : AreEqualBefore (kinds_order list) cell leaf place → (k : ℕ) → k < place
        → number_by (leaf_position (get_or list k no_position)) leaf ≡ number_by (total_position (get_or list k no_position)) cell
    equal-at before k less =
        ap (λ (p : Position). number_by p leaf) (sym (leaf-at k)) ∙ before k less ∙ ap (λ (p : Position). number_by p cell) (total-at k)

    -- a leaf cell that is behind breaks the order
    broken-there : IsLeafBelow ds cell leaf → AreEqualBefore (kinds_order list) cell leaf place → number_by (position_in (kinds_order list) false place) cell < number_by (position_in (kinds_order list) true place) leaf
        → is_broken place ≡ true
    unfolding is_broken_at breaks_at
    broken-there below before more =
        and_from _ _ (and_from _ _ greater.0 (front-all agrees (λ k less. (same-agrees (get_or list k no_position) cell leaf (equal-at before k less)).0))) (pairs-there (breaks_at front last) 0 false ds cell leaf pairs)
      where
        greater : (exceeds last ≡ true) × ((k : ℕ) → exceeds_at k (get_or cell k 0) (get_or leaf k 0) last ≡ true)
        greater = greater-exceeds last cell leaf (subst (λ (p : Position). number_by (total_position last) cell < number_by p leaf) (leaf-at place) (subst (λ (p : Position). number_by p cell < number_by (position_in (kinds_order list) true place) leaf) (total-at place) more))

        passes : (k : ℕ) → breaks_at front last (0 + k) (get_or cell k 0) (get_or leaf k 0) ≡ true
        passes k = subst (λ i. breaks_at front last i (get_or cell k 0) (get_or leaf k 0) ≡ true) (let e : k ≡ 0 + k = omega arith in e)
            (and_from _ _ (greater.1 k) (front-all (agrees_at k (get_or cell k 0) (get_or leaf k 0)) (λ q less. (same-agrees (get_or list q no_position) cell leaf (equal-at before q less)).1 k)))

        pairs : ArePairs (breaks_at front last) 0 false ds cell leaf
        pairs = record {
          upper = below.cell;
          lower = below.leaf;
          leaves = below.leaves;
          counts = counts-nonzero (coef_product ds cell leaf) below.counts;
          passes = pass-from (breaks_at front last) 0 cell leaf passes;
          total = ap not below.total;
        }

    -- and what breaks it is one
    pairs-behind : All (IsByKind ds) list → exceeds last ≡ true → list_all agrees front ≡ true → ArePairs (breaks_at front last) 0 false ds cell leaf → HoldsLeafCells ds (kinds_order list) → ⊥
    unfolding breaks_at
    pairs-behind are more same pairs holds = omega (arith, least, greater, ap (λ (p : Position). number_by p leaf) (leaf-at place), ap (λ (p : Position). number_by p cell) (total-at place))
      where
        both : (k : ℕ) → k < length ds → (exceeds_at k (get_or cell k 0) (get_or leaf k 0) last ≡ true) × (list_all (agrees_at k (get_or cell k 0) (get_or leaf k 0)) front ≡ true)
        both k less =
            let upper : k < length cell = omega (arith, less, digits-length (sizes_of ds) cell pairs.upper, length-map ds (λ (d : Outline). length d.elements)) in
            let lower : k < length leaf = omega (arith, less, digits-length (sizes_of ds) leaf pairs.lower, length-map ds (λ (d : Outline). length d.elements)) in
            let start : 0 + k ≡ k = omega arith in
            and_parts (exceeds_at k (get_or cell k 0) (get_or leaf k 0) last) (list_all (agrees_at k (get_or cell k 0) (get_or leaf k 0)) front)
            (subst (λ i. breaks_at front last i (get_or cell k 0) (get_or leaf k 0) ≡ true) start (pass-at (breaks_at front last) 0 cell leaf k upper lower pairs.passes))

        before : AreEqualBefore (kinds_order list) cell leaf place
        before k less =
            ap (λ (p : Position). number_by p leaf) (leaf-at k)
            ∙ agrees-same ds (get_or list k no_position) cell leaf (are k no_position (omega (arith, less, low))) (all-front agrees same k less) (λ i within. all-front (agrees_at i (get_or cell i 0) (get_or leaf i 0)) (both i within).1 k less)
            ∙ ap (λ (p : Position). number_by p cell) (sym (total-at k))

        below : IsLeafBelow ds cell leaf
        below = record {
          cell = pairs.upper;
          leaf = pairs.lower;
          total = not-true (are_leaves ds cell) pairs.total;
          leaves = pairs.leaves;
          counts = nonzero-counts (coef_product ds cell leaf) pairs.counts;
        }

        least : number_by (position_in (kinds_order list) true place) leaf ≤ number_by (position_in (kinds_order list) false place) cell
        least = holds cell leaf place below before

        greater : number_by (total_position last) cell < number_by (leaf_position last) leaf
        greater = exceeds-greater ds last cell leaf (are place no_position low) more (λ i within. (both i within).0)

  -- where no position breaks it, the order holds leaf cells
  none-broken : ((place : ℕ) → place < length list → is_broken place ≡ false) → HoldsLeafCells ds (kinds_order list)
  none-broken none cell leaf place below before = by (cases_lt place (length list))
    where
      by : (place < length list) ⊎ (length list ≤ place) → number_by (position_in (kinds_order list) true place) leaf ≤ number_by (position_in (kinds_order list) false place) cell
      by (inl low) = order (cases_lt (number_by (position_in (kinds_order list) false place) cell) (number_by (position_in (kinds_order list) true place) leaf))
        where
          order : (number_by (position_in (kinds_order list) false place) cell < number_by (position_in (kinds_order list) true place) leaf) ⊎ (number_by (position_in (kinds_order list) true place) leaf ≤ number_by (position_in (kinds_order list) false place) cell)
              → number_by (position_in (kinds_order list) true place) leaf ≤ number_by (position_in (kinds_order list) false place) cell
          order (inl more) = absurd (both_ways (is_broken place) (none place low) (broken-there cell leaf place low below before more))
          order (inr least) = least
      by (inr high) =
          let zero-leaf : number_by (position_in (kinds_order list) true place) leaf ≡ 0 = ap (λ (p : Position). number_by p leaf) (leaf-at place ∙ ap leaf_position (get_or_past list place no_position high)) in
          omega (arith, zero-leaf)

  pub unbroken : length list ≤ most_positions → ((place : ℕ) → place < length list → is_broken place ≡ false) → holds_leaf_cells ds (kinds_order list) ≡ true
  unbroken few none = holds-back ds (kinds_order list) (past few) (none-broken none)

  pub broken : length list ≤ most_positions → All (IsByKind ds) list → ((k : ℕ) (d : Outline) → slice_get ds k ≡ Some d → IsDimension d) → (place : ℕ) → place < length list → is_broken place ≡ true
      → holds_leaf_cells ds (kinds_order list) ≡ false
  unfolding is_broken_at
  broken few are dims place low breaks = false_from_ne_true _ (λ holds. pairs-behind cell leaf place low are second.0 second.1 pairs (holds-from ds (kinds_order list) (past few) holds))
    where
      first : ((exceeds (get_or list place no_position) && list_all agrees (take place list)) ≡ true) × (have_pairs (breaks_at (take place list) (get_or list place no_position)) 0 false ds ≡ true)
      first = and_parts (exceeds (get_or list place no_position) && list_all agrees (take place list)) (have_pairs (breaks_at (take place list) (get_or list place no_position)) 0 false ds) breaks

      second : (exceeds (get_or list place no_position) ≡ true) × (list_all agrees (take place list) ≡ true)
      second = and_parts (exceeds (get_or list place no_position)) (list_all agrees (take place list)) first.0

      found : (cell : List ℕ) × (leaf : List ℕ) × ArePairs (breaks_at (take place list) (get_or list place no_position)) 0 false ds cell leaf
      found = pairs-found (breaks_at (take place list) (get_or list place no_position)) 0 false ds dims first.1

      cell : List ℕ
      cell = found.0

      leaf : List ℕ
      leaf = found.1

      pairs : ArePairs (breaks_at (take place list) (get_or list place no_position)) 0 false ds cell leaf
      pairs = found.2

  -- the order of these positions is one of its cube
  pub kinds-valid : length list ≤ most_positions → holds_leaf_cells ds (kinds_order list) ≡ true → HoldsLeafCells ds (kinds_order list)
  kinds-valid few = holds-from ds (kinds_order list) (past few)
