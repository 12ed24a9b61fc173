-- Lists without repeats, taken from their end.
use Rattle.std.proofs.Common.{◌≡◌, ℕ, ◌+◌, ◌-◌, ◌<◌, ◌≤◌, Bool, false, List, [], ◌∷◌, map, drop, take, length, get_or, ap, sym, subst, ◌∙◌, arith}
use Rattle.std.proofs.Math.Seq.{drop-length}
use Rattle.std.specs.List.{IsDistinct, AllByRecursion, list_any}
use Rattle.std.proofs.lemmas.Bool.{or_parts}
use Rattle.std.proofs.lemmas.List.{drop_more, map-id, take_rest}

unlike : {X K : Type 0} (e : K → K → Bool) (f : X → K) (k : K) (xs : List X) → list_any (λ x. e k (f x)) xs ≡ false → AllByRecursion (λ y. e k y ≡ false) (map f xs)
unlike e f k [] none = tt
unlike e f k (x ∷ xs) none =
    let parts = or_parts (e k (f x)) (list_any (λ y. e k (f y)) xs) none in
    (parts.0, unlike e f k xs parts.1)

-- one more that is unlike the rest
pub IsDistinct-more : {X K : Type 0} (e : K → K → Bool) (f : X → K) (x : X) (xs : List X) → list_any (λ y. e (f x) (f y)) xs ≡ false → IsDistinct e (map f xs) → IsDistinct e (map f (x ∷ xs))
unfolding IsDistinct
IsDistinct-more e f x xs none rest = (unlike e f (f x) xs none, rest)

-- none is like another where there is none
pub IsDistinct-none : {X K : Type 0} (e : K → K → Bool) (f : X → K) (xs : List X) → IsDistinct e (map f (drop (length xs) xs))
unfolding IsDistinct
IsDistinct-none e f xs = rw (drop-length xs) tt

-- one more, from the end on
pub IsDistinct-turn : {X K : Type 0} (e : K → K → Bool) (f : X → K) (xs : List X) (i : ℕ) (x : X) → 0 < i → i ≤ length xs → x ≡ get_or xs (i - 1) x → list_any (λ y. e (f x) (f y)) (take (length xs - (i - 1 + 1)) (drop (i - 1 + 1) xs)) ≡ false
    → IsDistinct e (map f (drop i xs)) → IsDistinct e (map f (drop (i - 1) xs))
IsDistinct-turn {X} e f xs i x h few is none rest =
    let next : i - 1 + 1 ≡ i = omega arith in
    let more : drop (i - 1) xs ≡ x ∷ drop (i - 1 + 1) xs = drop_more xs (i - 1) x (omega arith) ∙ ap (λ y. y ∷ drop (i - 1 + 1) xs) (sym is) in
    let rest_of = take_rest xs (i - 1 + 1) in
    let P : List X → Type 0 = λ ys. IsDistinct e (map f ys) in
    let Q : ℕ → Type 0 = λ n. IsDistinct e (map f (drop n xs)) in
    subst P (sym more) (IsDistinct-more e f x (drop (i - 1 + 1) xs) (ap (list_any (λ y. e (f x) (f y))) (sym rest_of) ∙ none) (subst Q (sym next) rest))

pub IsDistinct-self : {K : Type 0} (e : K → K → Bool) (xs : List K) → IsDistinct e (map (λ x. x) xs) → IsDistinct e xs
IsDistinct-self {K} e xs h = let P : List K → Type 0 = IsDistinct e in subst P (map-id xs) h
