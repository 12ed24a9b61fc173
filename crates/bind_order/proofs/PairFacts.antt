-- Elements of all dimensions make a cell and a leaf cell that counts in it.
use Rattle.std.proofs.Common.{◌≡◌, ◌<◌, ℕ, suc, Bool, true, false, not, ◌&&◌, ◌||◌, cond, ℤ, List, [], ◌∷◌, length, Some, refl, sym, ap, ◌∙◌, arith, get_or, slice_get, nat_lt}
use Rattle.std.specs.List.{range_with_len, list_any}
use Rattle.std.proofs.lemmas.Bool.{and_parts, and_from, or_left, or_right, ltb-true, lt-ltb, not-true}
use Rattle.std.proofs.lemmas.List.Folds.{Any-from_list_any, list_any_at}
use Rattle.std.proofs.lemmas.List.FromFn.{length-range_with_len, get_or-range_with_len}
use Rattle.dim_core.specs.Outline.{Outline, IsDimension, IsElement}
use Rattle.dim_weights.specs.Coefficients.{coef}
use Rattle.dim_weights.specs.Table.{is_nonzero, nonzero_among}
use Rattle.dim_weights.proofs.Nonzero.{both-factors, first-factor, second-factor, nonzero-counts}
use Rattle.cube_space.specs.Layout.{sizes_of}
use Rattle.cube_space.specs.Cells.{is_leaf, are_leaves}
use Rattle.cube_space.specs.Radix.{are_digits}
use Rattle.rule_model.specs.Weights.{coef_product}
use Rattle.bind_order.specs.Inside.Breaks.{is_of_kind, has_leaf, has_pair, have_pairs}
use Rattle.bind_order.proofs.RankFacts.{leaf-counted}

-- a number of a range passes a test
any-there : (test : ℕ → Bool) (n k : ℕ) → k < n → test k ≡ true → list_any test (range_with_len 0 n) ≡ true
any-there test n k low passes =
    let at : get_or (range_with_len 0 n) k 0 ≡ k = get_or-range_with_len 0 n k 0 low ∙ omega arith in
    list_any_at test (range_with_len 0 n) k 0 (omega (arith, low, length-range_with_len 0 n)) (ap test at ∙ passes)

any-found : (test : ℕ → Bool) (n : ℕ) → list_any test (range_with_len 0 n) ≡ true → (k : ℕ) × (k < n) × (test k ≡ true)
any-found test n some =
    let (i, k, low, is, passes) = Any-from_list_any test (range_with_len 0 n) some in
    let here : i < n = omega (arith, low, length-range_with_len 0 n) in
    let same : k ≡ i = sym is ∙ get_or-range_with_len 0 n i k here ∙ omega arith in
    (k, omega (arith, here, same), passes)

-- what counts and passes a test
counted : (test : ℕ → Bool) (value : ℕ → ℤ) (xs : List ℕ) → list_any (λ pair. test pair.0) (nonzero_among value xs) ≡ list_any (λ x. is_nonzero (value x) && test x) xs
counted test value [] = refl
counted test value (x ∷ xs) = by (is_nonzero (value x)) (counted test value xs)
  where
    rest : List (ℕ × ℤ)
    rest = nonzero_among value xs

    by : (b : Bool) → list_any (λ pair. test pair.0) rest ≡ list_any (λ x. is_nonzero (value x) && test x) xs
        → list_any (λ (pair : ℕ × ℤ). test pair.0) (cond b ((x, value x) ∷ rest) rest) ≡ ((b && test x) || list_any (λ x. is_nonzero (value x) && test x) xs)
    by true later = ap (λ r. test x || r) later
    by false later = later

-- an element of a kind, and a leaf that counts in it, which pass a test
pub record IsPair (test : ℕ → ℕ → Bool) (kind : Bool) (d : Outline) (e l : ℕ) : Type 0 where
  pub element : IsElement d e
  pub leaf : IsElement d l
  pub of_kind : is_of_kind kind d e ≡ true
  pub counts : is_nonzero (coef d e l) ≡ true
  pub passes : test e l ≡ true

pub pair-there : (test : ℕ → ℕ → Bool) (kind : Bool) (d : Outline) (e l : ℕ) → IsPair test kind d e l → has_pair test kind d ≡ true
unfolding has_pair
pair-there test kind d e l pair =
    let n = length d.elements in
    let leaf : list_any (λ x. is_nonzero (coef d e x) && test e x) (range_with_len 0 n) ≡ true = any-there (λ x. is_nonzero (coef d e x) && test e x) n l pair.leaf (and_from _ _ pair.counts pair.passes) in
    let has : has_leaf test d e ≡ true = counted (test e) (coef d e) (range_with_len 0 n) ∙ leaf in
    any-there (λ x. is_of_kind kind d x && has_leaf test d x) n e pair.element (and_from _ _ pair.of_kind has)

pub pair-found : (test : ℕ → ℕ → Bool) (kind : Bool) (d : Outline) → has_pair test kind d ≡ true → (e : ℕ) × (l : ℕ) × IsPair test kind d e l
unfolding has_pair
pair-found test kind d some =
    let n = length d.elements in
    let (e, here, both) = any-found (λ x. is_of_kind kind d x && has_leaf test d x) n some in
    let parts = and_parts (is_of_kind kind d e) (has_leaf test d e) both in
    let (l, below, two) = any-found (λ x. is_nonzero (coef d e x) && test e x) n (sym (counted (test e) (coef d e) (range_with_len 0 n)) ∙ parts.1) in
    let last = and_parts (is_nonzero (coef d e l)) (test e l) two in
    (e, l, record { element = here; leaf = below; of_kind = parts.0; counts = last.0; passes = last.1 })

-- whether each element passes, with the leaf at its place, the test of the place
abbrev pub pass : (ℕ → ℕ → ℕ → Bool) → ℕ → List ℕ → List ℕ → Bool
pass test place [] leaf = true
pass test place (e ∷ cell) [] = true
pass test place (e ∷ cell) (l ∷ leaf) = test place e l && pass test (suc place) cell leaf

-- the elements of a cell and of a leaf cell that counts in it, which pass the tests of their places; the cell is
-- consolidated, where none of the elements before is
pub record ArePairs (test : ℕ → ℕ → ℕ → Bool) (place : ℕ) (before : Bool) (ds : List Outline) (cell leaf : List ℕ) : Type 0 where
  pub upper : are_digits (sizes_of ds) cell ≡ true
  pub lower : are_digits (sizes_of ds) leaf ≡ true
  pub leaves : are_leaves ds leaf ≡ true
  pub counts : is_nonzero (coef_product ds cell leaf) ≡ true
  pub passes : pass test place cell leaf ≡ true
  pub total : (before || not (are_leaves ds cell)) ≡ true

pub pairs-there : (test : ℕ → ℕ → ℕ → Bool) (place : ℕ) (before : Bool) (ds : List Outline) (cell leaf : List ℕ) → ArePairs test place before ds cell leaf → have_pairs test place before ds ≡ true
unfolding have_pairs
pairs-there test place before [] [] leaf are = by before are.total
  where
    by : (b : Bool) → (b || false) ≡ true → b ≡ true
    by true on = refl
    by false on = on
pairs-there test place before [] (e ∷ cell) leaf are = absurd (let off : false ≡ true = are.upper in cc off)
pairs-there test place before (d ∷ ds) [] leaf are = absurd (let off : false ≡ true = are.upper in cc off)
pairs-there test place before (d ∷ ds) (e ∷ cell) [] are = absurd (let off : false ≡ true = are.lower in cc off)
pairs-there test place before (d ∷ ds) (e ∷ cell) (l ∷ leaf) are = by (λ b rest. pairs-there test (suc place) b ds cell leaf rest) (is_leaf d e) refl
  where
    upper : (nat_lt e (length d.elements) ≡ true) × (are_digits (sizes_of ds) cell ≡ true)
    upper = and_parts (nat_lt e (length d.elements)) (are_digits (sizes_of ds) cell) are.upper

    lower : (nat_lt l (length d.elements) ≡ true) × (are_digits (sizes_of ds) leaf ≡ true)
    lower = and_parts (nat_lt l (length d.elements)) (are_digits (sizes_of ds) leaf) are.lower

    leaves : (is_leaf d l ≡ true) × (are_leaves ds leaf ≡ true)
    leaves = and_parts (is_leaf d l) (are_leaves ds leaf) are.leaves

    passes : (test place e l ≡ true) × (pass test (suc place) cell leaf ≡ true)
    passes = and_parts (test place e l) (pass test (suc place) cell leaf) are.passes

    here : (kind : Bool) → is_of_kind kind d e ≡ true → has_pair (test place) kind d ≡ true
    here kind is = pair-there (test place) kind d e l (record {
      element = ltb-true e (length d.elements) upper.0;
      leaf = ltb-true l (length d.elements) lower.0;
      of_kind = is;
      counts = first-factor (coef d e l) (coef_product ds cell leaf) are.counts;
      passes = passes.0;
    })

    rest : (b : Bool) → (b || not (are_leaves ds cell)) ≡ true → ArePairs test (suc place) b ds cell leaf
    rest b total = record {
      upper = upper.1;
      lower = lower.1;
      leaves = leaves.1;
      counts = second-factor (coef d e l) (coef_product ds cell leaf) are.counts;
      passes = passes.1;
      total = total;
    }

    weaker : (b c r : Bool) → (b || r) ≡ true → ((b || c) || r) ≡ true
    weaker true c r on = refl
    weaker false true r on = refl
    weaker false false r on = on

    by : ((b : Bool) → ArePairs test (suc place) b ds cell leaf → have_pairs test (suc place) b ds ≡ true) → (b : Bool) → is_leaf d e ≡ b → have_pairs test place before (d ∷ ds) ≡ true
    by later true is =
        let own = here true is in
        let total : (before || not (are_leaves ds cell)) ≡ true = ap (λ b. before || not (b && are_leaves ds cell)) (sym is) ∙ are.total in
        and_from _ _ (or_right _ _ own) (later (before || has_pair (test place) false d) (rest (before || has_pair (test place) false d) (weaker before (has_pair (test place) false d) (not (are_leaves ds cell)) total)))
    by later false is =
        let own = here false (ap not is) in
        and_from _ _ (or_left _ _ own) (later (before || has_pair (test place) false d) (rest (before || has_pair (test place) false d) (or_left _ _ (or_right before _ own))))

pub pairs-found : (test : ℕ → ℕ → ℕ → Bool) (place : ℕ) (before : Bool) (ds : List Outline) → ((k : ℕ) (d : Outline) → slice_get ds k ≡ Some d → IsDimension d) → have_pairs test place before ds ≡ true
    → (cell : List ℕ) × (leaf : List ℕ) × ArePairs test place before ds cell leaf
unfolding have_pairs
pairs-found test place before [] dims are =
    ([], [], record { upper = refl; lower = refl; leaves = refl; counts = refl; passes = refl; total = or_left before false are })
pairs-found test place before (d ∷ ds) dims are = by (pairs-found test (suc place) (before || has_pair (test place) false d) ds more both.1) (has_pair (test place) false d) refl
  where
    both : ((has_pair (test place) false d || has_pair (test place) true d) ≡ true) × (have_pairs test (suc place) (before || has_pair (test place) false d) ds ≡ true)
    both = and_parts (has_pair (test place) false d || has_pair (test place) true d) (have_pairs test (suc place) (before || has_pair (test place) false d) ds) are

    more : (k : ℕ) (x : Outline) → slice_get ds k ≡ Some x → IsDimension x
    more k x is = dims (suc k) x is

    joined : (kind b : Bool) (e l : ℕ) (cell leaf : List ℕ) → IsPair (test place) kind d e l → ArePairs test (suc place) b ds cell leaf → (before || not (is_leaf d e && are_leaves ds cell)) ≡ true
        → (cell : List ℕ) × (leaf : List ℕ) × ArePairs test place before (d ∷ ds) cell leaf
    joined kind b e l cell leaf own rest total = (
      e ∷ cell,
      l ∷ leaf,
      record {
        upper = and_from _ _ (lt-ltb e (length d.elements) own.element) rest.upper;
        lower = and_from _ _ (lt-ltb l (length d.elements) own.leaf) rest.lower;
        leaves = and_from _ _ (leaf-counted d (dims 0 d refl) e l own.element (nonzero-counts (coef d e l) own.counts)) rest.leaves;
        counts = both-factors (coef d e l) (coef_product ds cell leaf) own.counts rest.counts;
        passes = and_from _ _ own.passes rest.passes;
        total = total;
      },
    )

    by : (cell : List ℕ) × (leaf : List ℕ) × ArePairs test (suc place) (before || has_pair (test place) false d) ds cell leaf → (b : Bool) → has_pair (test place) false d ≡ b → (cell : List ℕ) × (leaf : List ℕ) × ArePairs test place before (d ∷ ds) cell leaf
    by (cell, leaf, rest) true some =
        let (e, l, own) = pair-found (test place) false d some in
        let total : (before || not (is_leaf d e && are_leaves ds cell)) ≡ true = or_right before _ (ap (λ b. not (b && are_leaves ds cell)) (not-true (is_leaf d e) own.of_kind)) in
        joined false (before || has_pair (test place) false d) e l cell leaf own rest total
    by (cell, leaf, rest) false none =
        let leafs : has_pair (test place) true d ≡ true = ap (λ b. b || has_pair (test place) true d) (sym none) ∙ both.0 in
        let (e, l, own) = pair-found (test place) true d leafs in
        let total : (before || not (is_leaf d e && are_leaves ds cell)) ≡ true =
        ap (λ b. before || not (b && are_leaves ds cell)) own.of_kind ∙ ap (λ b. b || not (are_leaves ds cell)) (sym (or_none before) ∙ ap (λ b. before || b) (sym none)) ∙ rest.total in
        joined true (before || has_pair (test place) false d) e l cell leaf own rest total
      where
        or_none : (b : Bool) → (b || false) ≡ b
        or_none true = refl
        or_none false = refl
