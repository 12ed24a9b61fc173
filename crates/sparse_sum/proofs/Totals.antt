-- A total, as it grows.
use Rattle.std.proofs.Common.{◌≡◌, ◌∙◌, refl, sym, ap, arith, ℕ, ◌+◌, leb, true, ℤ, List, [], ◌∷◌, ◌++◌, length, map, filter}
use Rattle.std.proofs.lemmas.Bool.Decides.{nat_tests}
use Rattle.std.specs.Prelude.{fold, Result, Ok}
use Rattle.cube_fixed.specs.declared.value.Value.{Value}
use Rattle.cube_fixed.specs.Total.{Total, with_term}
use Rattle.cube_space.specs.Layout.{Layout}
use Rattle.sparse_sum.specs.Live.{live_below}
use Rattle.sparse_sum.specs.Walking.{begun, left}
use Rattle.sparse_sum.specs.Totals.{Answered, after_calls}

pub fold-push : {A B : Type 0} (f : B → A → B) (b : B) (xs : List A) (x : A) → fold f b (xs ++ x ∷ []) ≡ f (fold f b xs) x
fold-push f b [] x = refl
fold-push f b (y ∷ ys) x = fold-push f (f b y) ys x

pub firsts-push : (answered : List Answered) (pair : ℕ × ℤ) (value : Value) (rest : List (ℕ × ℤ)) → map (λ one. one.0) (answered ++ (pair, value) ∷ []) ++ rest ≡ map (λ one. one.0) answered ++ pair ∷ rest
firsts-push [] pair value rest = refl
firsts-push (one ∷ answered) pair value rest = ap (λ (xs : List (ℕ × ℤ)). one.0 ∷ xs) (firsts-push answered pair value rest)

pub terms-are : (answered : List Answered) (total : Total) → (fold (λ total one. with_term total one.0.1 one.1) total answered).terms ≡ total.terms + length answered
terms-are [] total = omega arith
terms-are (one ∷ answered) total = let rest = terms-are answered (with_term total one.0.1 one.1) in omega (arith, rest)

pub lengths-are : (answered : List Answered) (rest : List (ℕ × ℤ)) → length (map (λ one. one.0) answered ++ rest) ≡ length answered + length rest
lengths-are [] rest = omega arith
lengths-are (one ∷ answered) rest = let later = lengths-are answered rest in omega (arith, later)

from-start : (xs : List (ℕ × ℤ)) → filter (λ pair. leb 0 pair.0) xs ≡ xs
from-start [] = refl
from-start (x ∷ xs) =
    let all : leb 0 x.0 ≡ true = grind (arith, nat_tests) in
    rw all (ap (λ (ys : List (ℕ × ℤ)). x ∷ ys) (from-start xs))

pub all-left : (space : Layout) (stored fed : List ℕ) (cell : ℕ) → left space stored fed (begun cell) ≡ live_below space stored fed cell
all-left space stored fed cell = from-start (live_below space stored fed cell)

nothing-more : (xs : List (ℕ × ℤ)) → xs ++ [] ≡ xs
nothing-more [] = refl
nothing-more (x ∷ xs) = ap (λ (ys : List (ℕ × ℤ)). x ∷ ys) (nothing-more xs)

pub all-answered : (answered : List Answered) (left cells : List (ℕ × ℤ)) → left ≡ [] → map (λ one. one.0) answered ++ left ≡ cells → map (λ one. one.0) answered ≡ cells
all-answered answered left cells none front =
    sym (nothing-more (map (λ one. one.0) answered)) ∙ ap (λ (xs : List (ℕ × ℤ)). map (λ one. one.0) answered ++ xs) (sym none) ∙ front

module _ {Calls Fault : Type 0} (after_call : Calls → ℕ → Result Value Fault → Calls) (count : Calls → ℕ)
    (counted : (before : Calls) (cell : ℕ) (answer : Result Value Fault) → count (after_call before cell answer) ≡ count before + 1) where
  pub count-is : (answered : List Answered) (before : Calls) → count (after_calls after_call before answered) ≡ count before + length answered
  count-is [] before = omega arith
  count-is (one ∷ answered) before =
      let rest = count-is answered (after_call before one.0.0 (Ok one.1)) in
      let here = counted before one.0.0 (Ok one.1) in
      omega (arith, rest, here)
