-- Rising lists of cells, by recursion.
use Rattle.std.proofs.Common.{ℕ, zero, suc, ◌<◌, ◌≤◌, List, [], ◌∷◌, ◌++◌, All, add-one, arith}
use Rattle.std.specs.List.{AllPairs}
use Rattle.std.specs.List.Sorted.{IsStrictlyIncreasing}
use Rattle.std.proofs.lemmas.List.Kept.{AllPairs-from_increasing}

-- each number of the list is above this one
abbrev pub AllAbove : ℕ → List ℕ → Type 0
AllAbove n [] = Unit {0}
AllAbove n (x ∷ xs) = (n < x) × AllAbove n xs

-- each number is below all later ones
abbrev pub Rises : List ℕ → Type 0
Rises [] = Unit {0}
Rises (x ∷ xs) = AllAbove x xs × Rises xs

AllAbove-from_all : (n : ℕ) (xs : List ℕ) → All (λ x. n < x) xs → AllAbove n xs
AllAbove-from_all n [] all = tt
AllAbove-from_all n (x ∷ xs) all =
    (all 0 x (omega arith), AllAbove-from_all n xs (λ k d low. all (suc k) d (omega arith)))

Rises-from_pairs : (xs : List ℕ) → AllPairs (λ x y. x < y) xs → Rises xs
Rises-from_pairs [] pairs = tt
Rises-from_pairs (x ∷ xs) pairs =
    (AllAbove-from_all x xs (λ k d low. pairs 0 (suc k) d (omega arith) (omega arith)), Rises-from_pairs xs (λ i j d less low. pairs (suc i) (suc j) d (omega arith) (omega arith)))

pub Rises-from_increasing : (xs : List ℕ) → IsStrictlyIncreasing xs → Rises xs
Rises-from_increasing xs up = Rises-from_pairs xs (AllPairs-from_increasing xs up)

pub increasing_from_Rises : (xs : List ℕ) → Rises xs → IsStrictlyIncreasing xs
increasing_from_Rises [] rises k low = absurd (omega arith)
increasing_from_Rises (x ∷ []) rises k low = absurd (omega arith)
increasing_from_Rises (x ∷ y ∷ ys) rises zero low = rises.0.0
increasing_from_Rises (x ∷ y ∷ ys) rises (suc k) low =
    let later = increasing_from_Rises (y ∷ ys) rises.1 k (omega arith) in
    let next = rw add-one at later in
    rw add-one next

pub AllAbove-lower : (m n : ℕ) (xs : List ℕ) → m ≤ n → AllAbove n xs → AllAbove m xs
AllAbove-lower m n [] le above = tt
AllAbove-lower m n (x ∷ xs) le above = (omega arith, AllAbove-lower m n xs le above.1)

pub AllAbove-append : (n : ℕ) (xs ys : List ℕ) → AllAbove n xs → AllAbove n ys → AllAbove n (xs ++ ys)
AllAbove-append n [] ys first second = second
AllAbove-append n (x ∷ xs) ys first second = (first.0, AllAbove-append n xs ys first.1 second)

AllAbove-front : (n : ℕ) (xs ys : List ℕ) → AllAbove n (xs ++ ys) → AllAbove n xs
AllAbove-front n [] ys above = tt
AllAbove-front n (x ∷ xs) ys above = (above.0, AllAbove-front n xs ys above.1)

-- the parts of a rising list rise
pub Rises-front : (xs ys : List ℕ) → Rises (xs ++ ys) → Rises xs
Rises-front [] ys rises = tt
Rises-front (x ∷ xs) ys rises = (AllAbove-front x xs ys rises.0, Rises-front xs ys rises.1)

pub Rises-back : (xs ys : List ℕ) → Rises (xs ++ ys) → Rises ys
Rises-back [] ys rises = rises
Rises-back (x ∷ xs) ys rises = Rises-back xs ys rises.1
