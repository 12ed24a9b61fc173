-- What lists have.
use Rattle.std.proofs.Common.{◌≡◌, refl, sym, ap, ◌∙◌, arith, ℕ, zero, suc, ◌+◌, ◌<◌, Option, Some, None, List, [], ◌∷◌, ◌++◌, length, map, Contains, get_or}
use Rattle.std.specs.Prelude.{slice_get, slice_index_or, unwrap_or}
use Rattle.std.specs.List.{range_with_len, AllZip}
use Rattle.std.proofs.lemmas.List.{get_or_default}
use Rattle.std.proofs.lemmas.List.FromFn.{get_or-range_with_len, length-range_with_len}
use Rattle.std.proofs.lemmas.Option.{slice_get_within, get_or_from_slice_get, slice_get-get_or, unwrap_or-slice_get}

-- what a mapped list has, comes from what the list has
map-has-at : {X Y : Type 0} (f : X → Y) (xs : List X) (y : Y) (k : ℕ) → k < length (map f xs) → slice_index_or (map f xs) k y ≡ y → (x : X) × Contains xs x × (f x ≡ y)
map-has-at f [] y k low is = absurd (omega arith)
map-has-at f (x ∷ xs) y zero low is = (x, (0, omega arith, refl), is)
map-has-at f (x ∷ xs) y (suc k) low is =
    let (z, (j, less, same), e) = map-has-at f xs y k (omega arith) is in
    (z, (suc j, omega (arith, less), same), e)

pub map-has : {X Y : Type 0} (f : X → Y) (xs : List X) (y : Y) → Contains (map f xs) y → (x : X) × Contains xs x × (f x ≡ y)
map-has f xs y (k, low, is) = map-has-at f xs y k low is

has-map-at : {X Y : Type 0} (f : X → Y) (xs : List X) (x : X) (k : ℕ) → k < length xs → slice_index_or xs k x ≡ x → Contains (map f xs) (f x)
has-map-at f [] x k low is = absurd (omega arith)
has-map-at f (y ∷ xs) x zero low is = (0, omega arith, ap f is)
has-map-at f (y ∷ xs) x (suc k) low is =
    let (j, less, same) = has-map-at f xs x k (omega arith) is in
    (suc j, omega (arith, less), same)

pub has-map : {X Y : Type 0} (f : X → Y) (xs : List X) (x : X) → Contains xs x → Contains (map f xs) (f x)
has-map f xs x (k, low, is) = has-map-at f xs x k low is

-- the numbers from 0 on
pub has-range : (n k : ℕ) → k < n → Contains (range_with_len 0 n) k
has-range n k low =
    let is : get_or (range_with_len 0 n) k k ≡ k = get_or-range_with_len 0 n k k low ∙ omega arith in
    (k, omega (arith, low, length-range_with_len 0 n), is)

pub range-has : (n k : ℕ) → Contains (range_with_len 0 n) k → k < n
range-has n k (j, low, is) =
    let less : j < n = omega (arith, low, length-range_with_len 0 n) in
    let same : get_or (range_with_len 0 n) j k ≡ j = get_or-range_with_len 0 n j k less ∙ omega arith in
    let e : j ≡ k = sym same ∙ is in
    omega (arith, less, e)

-- an element by its place
pub has-at : {X : Type 0} (xs : List X) (k : ℕ) (x : X) → slice_get xs k ≡ Some x → Contains xs x
has-at xs k x is = (k, slice_get_within xs k x is, get_or_from_slice_get xs k x x is)

pub at-of : {X : Type 0} (xs : List X) (x : X) → Contains xs x → (k : ℕ) × (slice_get xs k ≡ Some x)
at-of xs x (k, low, is) = (k, slice_get-get_or xs k x low ∙ ap Some is)

-- a slot that holds an arrow
pub held-has : {X : Type 0} (xs : List (Option X)) (k : ℕ) (x : X) → k < length xs → unwrap_or (slice_get xs k) None ≡ Some x → Contains xs (Some x)
held-has xs k x low is = (k, low, get_or_default xs k (Some x) None low ∙ sym (unwrap_or-slice_get xs k None) ∙ is)

pub has-held : {X : Type 0} (xs : List (Option X)) (k : ℕ) (x : X) → k < length xs → slice_index_or xs k (Some x) ≡ Some x → unwrap_or (slice_get xs k) None ≡ Some x
has-held xs k x low is = unwrap_or-slice_get xs k None ∙ get_or_default xs k None (Some x) low ∙ is

-- two lists of which each two elements at one place are related
pub zip-map : {X A B : Type 0} (R : A → B → Type 0) (f : X → A) (g : X → B) (xs : List X) → ((x : X) → Contains xs x → R (f x) (g x)) → AllZip R (map f xs) (map g xs)
zip-map R f g [] each = tt
zip-map R f g (x ∷ xs) each = (each x (0, omega arith, refl), zip-map R f g xs (λ y has. each y (suc has.0, omega (arith, has.1), has.2)))

pub zip-append : {A B : Type 0} (R : A → B → Type 0) (xs : List A) (ys : List B) (zs : List A) (ws : List B) → AllZip R xs ys → AllZip R zs ws → AllZip R (xs ++ zs) (ys ++ ws)
zip-append R [] [] zs ws one other = other
zip-append R [] (y ∷ ys) zs ws one other = absurd one
zip-append R (x ∷ xs) [] zs ws one other = absurd one
zip-append R (x ∷ xs) (y ∷ ys) zs ws one other = (one.0, zip-append R xs ys zs ws one.1 other)

pub zip-at : {A B : Type 0} (R : A → B → Type 0) (xs : List A) (ys : List B) (k : ℕ) (d : A) (e : B) → AllZip R xs ys → k < length xs → R (slice_index_or xs k d) (slice_index_or ys k e)
zip-at R [] ys k d e zip low = absurd (omega (arith, low))
zip-at R (x ∷ xs) [] k d e zip low = absurd zip
zip-at R (x ∷ xs) (y ∷ ys) zero d e zip low = zip.0
zip-at R (x ∷ xs) (y ∷ ys) (suc k) d e zip low = zip-at R xs ys k d e zip.1 (omega (arith, low))

-- an element of one of three lists, one behind another
at-left : {X : Type 0} (xs ys : List X) (k : ℕ) (d : X) → k < length xs → unwrap_or (slice_get (xs ++ ys) k) d ≡ unwrap_or (slice_get xs k) d
at-left [] ys k d low = absurd (omega arith)
at-left (x ∷ xs) ys zero d low = refl
at-left (x ∷ xs) ys (suc k) d low = at-left xs ys k d (omega arith)

pub at-past : {X : Type 0} (xs ys : List X) (k a : ℕ) (d : X) → k ≡ length xs + a → unwrap_or (slice_get (xs ++ ys) k) d ≡ unwrap_or (slice_get ys a) d
at-past [] ys k a d is = let same : k ≡ a = omega arith in ap (λ j. unwrap_or (slice_get ys j) d) same
at-past (x ∷ xs) ys zero a d is = absurd (omega arith)
at-past (x ∷ xs) ys (suc k) a d is = at-past xs ys k a d (omega arith)

pub in-first : {X : Type 0} (xs ys : List X) (k : ℕ) (d : X) → k < length xs → unwrap_or (slice_get xs k) d ≡ unwrap_or (slice_get (xs ++ ys) k) d
in-first xs ys k d low = sym (at-left xs ys k d low)

pub in-second : {X : Type 0} (xs ys zs : List X) (k a : ℕ) (d : X) → k ≡ length xs + a → a < length ys → unwrap_or (slice_get ys a) d ≡ unwrap_or (slice_get (xs ++ (ys ++ zs)) k) d
in-second xs ys zs k a d is low = sym (at-past xs (ys ++ zs) k a d is ∙ at-left ys zs a d low)

pub in-third : {X : Type 0} (xs ys zs : List X) (k a : ℕ) (d : X) → k ≡ length xs + (length ys + a) → unwrap_or (slice_get zs a) d ≡ unwrap_or (slice_get (xs ++ (ys ++ zs)) k) d
in-third xs ys zs k a d is = sym (at-past xs (ys ++ zs) k (length ys + a) d is ∙ at-past ys zs (length ys + a) a d refl)
