-- How long the tables of a dimension are.
use Rattle.std.proofs.Common.{◌≡◌, ap, arith, ℕ, zero, suc, ◌≤◌, Bool, ℤ, List, [], ◌∷◌, length, map, filter}
use Rattle.std.specs.List.{range_with_len, sum_by}
use Rattle.std.proofs.lemmas.Bool.{cond_both}
use Rattle.std.proofs.lemmas.List.Sums.{sum_by-cons}
use Rattle.std.proofs.lemmas.List.{length-map}
use Rattle.std.proofs.lemmas.List.FromFn.{length-range_with_len}
use Rattle.std.specs.Prelude.{slice_index_or}
use Rattle.dim_core.specs.Outline.{Outline, IsDimension, components_of, component_lists}
use Rattle.dim_weights.specs.Coefficients.{coef}
use Rattle.dim_weights.specs.Table.{is_nonzero, leaves_of}

-- an element has no more leaves than its dimension elements
filtered-few : {X : Type 0} (p : X → Bool) (xs : List X) → length (filter p xs) ≤ length xs
filtered-few p [] = omega arith
filtered-few p (x ∷ xs) = cond_both (p x) (x ∷ filter p xs) (filter p xs) (λ ys. length ys ≤ length (x ∷ xs)) (λ _. omega (arith, filtered-few p xs)) (λ _. omega (arith, filtered-few p xs))

pub leaves-few : (d : Outline) (e : ℕ) (pairs : List (ℕ × ℤ)) → IsDimension d → pairs ≡ leaves_of d e → length pairs ≤ 100000
leaves-few d e pairs valid is =
    let leaves : List ℕ = range_with_len 0 (length d.elements) in
    let with_coef : ℕ → ℕ × ℤ = λ leaf. (leaf, coef d e leaf) in
    let all : List (ℕ × ℤ) = map with_coef leaves in
    omega (arith, filtered-few (λ (pair : ℕ × ℤ). is_nonzero pair.1) all, ap length is, length-map leaves with_coef, length-range_with_len 0 (length d.elements), valid.few)

-- nor more components than all have together
sum-over : (lists : List (List (ℕ × ℤ))) (k : ℕ) → length (slice_index_or lists k []) ≤ sum_by length lists
sum-over [] k = omega arith
sum-over (x ∷ lists) zero = omega (arith, sum_by-cons (λ (parts : List (ℕ × ℤ)). length parts) x lists)
sum-over (x ∷ lists) (suc k) = omega (arith, sum_by-cons (λ (parts : List (ℕ × ℤ)). length parts) x lists, sum-over lists k)

pub parts-few : (d : Outline) (e : ℕ) (parts : List (ℕ × ℤ)) → IsDimension d → parts ≡ components_of d e → length parts ≤ 1000000
parts-few d e parts valid is = omega (arith, sum-over (component_lists d.elements) e, ap length is, valid.few_components)
