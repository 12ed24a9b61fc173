-- What each of so many numbers has, as a list, and one number more.
use Rattle.std.proofs.Common.{◌≡◌, sym, ◌∙◌, ap, arith, ℕ, ◌+◌, ◌<◌, List, [], ◌∷◌, ◌++◌, max, map}
use Rattle.std.specs.Prelude.{Contains}
use Rattle.std.specs.List.{range_with_len}
use Rattle.std.proofs.lemmas.List.FromFn.{map-range_with_len_more, length-map-range_with_len, get_or-map-range_with_len}
use Rattle.rule_model.specs.Order.{greatest}

pub map-push : {X : Type 0} (f : ℕ → X) (xs ys : List X) (n : ℕ) (x : X) → ys ≡ xs ++ x ∷ [] → xs ≡ map f (range_with_len 0 n) → x ≡ f n → ys ≡ map f (range_with_len 0 (n + 1))
map-push {X} f xs ys n x more before here =
    more ∙ ap (λ (zs : List X). zs ++ x ∷ []) before ∙ ap (λ (z : X). map f (range_with_len 0 n) ++ z ∷ []) here ∙ sym (map-range_with_len_more f 0 n n (omega arith))

pub map-contains : {X : Type 0} (f : ℕ → X) (n k : ℕ) → k < n → Contains (map f (range_with_len 0 n)) (f k)
map-contains f n k less = (k, omega (arith, less, length-map-range_with_len f 0 n), get_or-map-range_with_len f 0 n k k (f k) less (omega arith))

greatest-push : (xs : List ℕ) (y : ℕ) → greatest (xs ++ y ∷ []) ≡ max (greatest xs) y
greatest-push [] y = omega arith
greatest-push (x ∷ xs) y = let rest = greatest-push xs y in omega (arith, rest)

pub greatest-more : (f : ℕ → ℕ) (n : ℕ) → greatest (map f (range_with_len 0 (n + 1))) ≡ max (greatest (map f (range_with_len 0 n))) (f n)
greatest-more f n = ap greatest (map-range_with_len_more f 0 n n (omega arith)) ∙ greatest-push (map f (range_with_len 0 n)) (f n)
