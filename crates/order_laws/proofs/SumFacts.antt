-- Sums of one number a dimension.
use Rattle.std.proofs.Common.{◌≡◌, refl, sym, ap, ◌∙◌, arith, ℕ, zero, suc, ◌+◌, ◌<◌, Bool, true, false, not, ◌||◌, ◌&&◌, ℤ, pos, ◌+ℤ◌, Option, Some, None, List, [], ◌∷◌, length, get_or, ◌==◌, nat_lt, if◌then◌else◌}
use Rattle.std.specs.Prelude.{slice_index_or}
use Rattle.std.specs.List.{list_all, zip}
use Rattle.std.proofs.Math.Bool.{and-true}
use Rattle.std.proofs.lemmas.Int.{ints}
use Rattle.std.proofs.lemmas.Bool.{ne_eqb, eq-eqb}
use Rattle.cube_space.specs.Radix.{are_digits}
use Rattle.order_laws.specs.Greatest.{plus, sum_from, any_from, only}

add-swap : (a b c d : ℤ) → (a +ℤ b) +ℤ (c +ℤ d) ≡ (a +ℤ c) +ℤ (b +ℤ d)
add-swap a b c d = omega (arith, ints)

pub plus-swap : (a b c d : Option ℤ) → plus (plus a b) (plus c d) ≡ plus (plus a c) (plus b d)
plus-swap None b None d = refl
plus-swap None b (Some c) None = refl
plus-swap None b (Some c) (Some d) = refl
plus-swap (Some a) None None d = refl
plus-swap (Some a) None (Some c) None = refl
plus-swap (Some a) None (Some c) (Some d) = refl
plus-swap (Some a) (Some b) None d = refl
plus-swap (Some a) (Some b) (Some c) None = refl
plus-swap (Some a) (Some b) (Some c) (Some d) = ap Some (add-swap a b c d)

pub plus-none : (a : Option ℤ) → plus a None ≡ None
plus-none None = refl
plus-none (Some a) = refl

pub plus-zero : (a : Option ℤ) → plus a (Some (pos 0)) ≡ a
plus-zero None = refl
plus-zero (Some a) = ap Some (let e : a +ℤ pos 0 ≡ a = omega (arith, ints) in e)

pub zero-plus : (a : Option ℤ) → plus (Some (pos 0)) a ≡ a
zero-plus None = refl
zero-plus (Some a) = ap Some (let e : pos 0 +ℤ a ≡ a = omega (arith, ints) in e)

pub plus-same : (a b c d : Option ℤ) → a ≡ c → b ≡ d → plus a b ≡ plus c d
plus-same a b c d e f = ap (λ x. plus x b) e ∙ ap (plus c) f

-- sums of sums, of nothing, and of the same
pub sum-plus : (f g : ℕ → ℕ → Option ℤ) (i : ℕ) (es : List ℕ) → sum_from (λ i e. plus (f i e) (g i e)) i es ≡ plus (sum_from f i es) (sum_from g i es)
sum-plus f g i [] = refl
sum-plus f g i (e ∷ es) = ap (plus (plus (f i e) (g i e))) (sum-plus f g (suc i) es) ∙ plus-swap (f i e) (g i e) (sum_from f (suc i) es) (sum_from g (suc i) es)

pub sum-zero : (i : ℕ) (es : List ℕ) → sum_from (λ i e. Some (pos 0)) i es ≡ Some (pos 0)
sum-zero i [] = refl
sum-zero i (e ∷ es) = zero-plus (sum_from (λ i e. Some (pos 0)) (suc i) es) ∙ sum-zero (suc i) es

pub sum-same : (f g : ℕ → ℕ → Option ℤ) → ((i e : ℕ) → f i e ≡ g i e) → (i : ℕ) (es : List ℕ) → sum_from f i es ≡ sum_from g i es
sum-same f g same i [] = refl
sum-same f g same i (e ∷ es) = plus-same (f i e) (sum_from f (suc i) es) (g i e) (sum_from g (suc i) es) (same i e) (sum-same f g same (suc i) es)

-- numbers of one dimension alone
abbrev pub at_dim : ℕ → (ℕ → Option ℤ) → ℕ → ℕ → Option ℤ
at_dim dim number i e = if i == dim then number e else Some (pos 0)

same-dim : (a : ℕ) → (a == a) ≡ true
same-dim a = eq-eqb a a refl

pub other-dim : (a b : ℕ) → a < b → (a == b) ≡ false
other-dim a b h = ne_eqb a b (λ e. omega (arith, h, e))

pub later-dim : (a b : ℕ) → b < a → (a == b) ≡ false
later-dim a b h = ne_eqb a b (λ e. omega (arith, h, e))

pub sum-past : (dim : ℕ) (number : ℕ → Option ℤ) (i : ℕ) (es : List ℕ) → dim < i → sum_from (at_dim dim number) i es ≡ Some (pos 0)
sum-past dim number i [] h = refl
sum-past dim number i (e ∷ es) h =
    plus-same (at_dim dim number i e) _ (Some (pos 0)) _ (ap (λ t. if t then number e else Some (pos 0)) (later-dim i dim h)) (sum-past dim number (suc i) es (omega arith))

pub sum-dim : (dim : ℕ) (number : ℕ → Option ℤ) (i k : ℕ) (es : List ℕ) → dim ≡ i + k → k < length es → sum_from (at_dim dim number) i es ≡ number (get_or es k 0)
sum-dim dim number i k [] e h = absurd (omega arith)
sum-dim dim number i zero (x ∷ es) e h =
    let same : i ≡ dim = omega arith in
    plus-same (at_dim dim number i x) (sum_from (at_dim dim number) (suc i) es) (number x) (Some (pos 0))
    (ap (λ t. if t then number x else Some (pos 0)) (eq-eqb i dim same)) (sum-past dim number (suc i) es (omega arith))
    ∙ plus-zero (number x)
sum-dim dim number i (suc k) (x ∷ es) e h =
    plus-same (at_dim dim number i x) (sum_from (at_dim dim number) (suc i) es) (Some (pos 0)) (number (get_or es k 0))
    (ap (λ t. if t then number x else Some (pos 0)) (other-dim i dim (omega arith))) (sum-dim dim number (suc i) k es (omega arith) (omega arith))
    ∙ zero-plus (number (get_or es k 0))

-- of numbers that are the same in the dimensions after one
pub sum-later : (f g : ℕ → ℕ → Option ℤ) (k i : ℕ) (es : List ℕ) → k < i → ((j e : ℕ) → k < j → f j e ≡ g j e) → sum_from f i es ≡ sum_from g i es
sum-later f g k i [] low same = refl
sum-later f g k i (e ∷ es) low same = plus-same (f i e) (sum_from f (suc i) es) (g i e) (sum_from g (suc i) es) (same i e low) (sum-later f g k (suc i) es (omega (arith, low)) same)

-- the number of one dimension, and those of the others
abbrev pub but_dim : ℕ → (ℕ → ℕ → Option ℤ) → ℕ → ℕ → Option ℤ
but_dim dim g i e = if i == dim then Some (pos 0) else g i e

pub sum-split : (dim : ℕ) (f : ℕ → Option ℤ) (g : ℕ → ℕ → Option ℤ) (es : List ℕ) → dim < length es
    → sum_from (λ i e. if i == dim then f e else g i e) 0 es ≡ plus (f (get_or es dim 0)) (sum_from (but_dim dim g) 0 es)
sum-split dim f g es low =
    sum-same (λ i e. if i == dim then f e else g i e) (λ i e. plus (at_dim dim f i e) (but_dim dim g i e)) (λ i e. by (f e) (g i e) (i == dim)) 0 es
    ∙ sum-plus (at_dim dim f) (but_dim dim g) 0 es ∙ ap (λ a. plus a (sum_from (but_dim dim g) 0 es)) (sum-dim dim f 0 dim es (omega arith) low)
  where
    by : (a b : Option ℤ) (t : Bool) → (if t then a else b) ≡ plus (if t then a else Some (pos 0)) (if t then Some (pos 0) else b)
    by a b true = sym (plus-zero a)
    by a b false = sym (zero-plus b)

-- whether each element passes
abbrev pub all_from : (ℕ → ℕ → Bool) → ℕ → List ℕ → Bool
all_from test i [] = true
all_from test i (e ∷ es) = test i e && all_from test (suc i) es

pub all-same : (f g : ℕ → ℕ → Bool) → ((i e : ℕ) → f i e ≡ g i e) → (i : ℕ) (es : List ℕ) → all_from f i es ≡ all_from g i es
all-same f g same i [] = refl
all-same f g same i (e ∷ es) = ap (λ t. t && all_from f (suc i) es) (same i e) ∙ ap (λ t. g i e && t) (all-same f g same (suc i) es)

pub all-later : (f g : ℕ → ℕ → Bool) (k i : ℕ) (es : List ℕ) → k < i → ((j e : ℕ) → k < j → f j e ≡ g j e) → all_from f i es ≡ all_from g i es
all-later f g k i [] low same = refl
all-later f g k i (e ∷ es) low same = ap (λ t. t && all_from f (suc i) es) (same i e low) ∙ ap (λ t. g i e && t) (all-later f g k (suc i) es (omega (arith, low)) same)

pub all-true : (i : ℕ) (es : List ℕ) → all_from (λ i e. true) i es ≡ true
all-true i [] = refl
all-true i (e ∷ es) = all-true (suc i) es

-- one test in a dimension, and none in the others
pub all-dim : (dim : ℕ) (test : ℕ → Bool) (i k : ℕ) (es : List ℕ) → dim ≡ i + k → k < length es → all_from (λ i e. if i == dim then test e else true) i es ≡ test (get_or es k 0)
all-dim dim test i k [] e h = absurd (omega arith)
all-dim dim test i zero (x ∷ es) e h =
    let same : i ≡ dim = omega arith in
    ap (λ t. (if t then test x else true) && all_from (λ i e. if i == dim then test e else true) (suc i) es) (eq-eqb i dim same)
    ∙ ap (λ t. test x && t) (all-later (λ i e. if i == dim then test e else true) (λ i e. true) dim (suc i) es (omega arith) (λ j y low. ap (λ t. if t then test y else true) (later-dim j dim low)) ∙ all-true (suc i) es)
    ∙ and-true (test x)
all-dim dim test i (suc k) (x ∷ es) e h =
    ap (λ t. (if t then test x else true) && all_from (λ i e. if i == dim then test e else true) (suc i) es) (other-dim i dim (omega arith))
    ∙ all-dim dim test (suc i) k es (omega arith) (omega arith)

-- all fail where none passes
pub any-not : (test : ℕ → ℕ → Bool) (i : ℕ) (es : List ℕ) → not (any_from test i es) ≡ all_from (λ i e. not (test i e)) i es
any-not test i [] = refl
any-not test i (e ∷ es) = parted (test i e) (any_from test (suc i) es) ∙ ap (λ t. not (test i e) && t) (any-not test (suc i) es)
  where
    parted : (t u : Bool) → not (t || u) ≡ not t && not u
    parted true u = refl
    parted false u = refl

only-plus : (t u : Bool) (a b : Option ℤ) → plus (only t a) (only u b) ≡ only (t && u) (plus a b)
only-plus true true a b = refl
only-plus true false a b = plus-none a
only-plus false u a b = refl

pub sum-only : (test : ℕ → ℕ → Bool) (f : ℕ → ℕ → Option ℤ) (i : ℕ) (es : List ℕ) → sum_from (λ i e. only (test i e) (f i e)) i es ≡ only (all_from test i es) (sum_from f i es)
sum-only test f i [] = refl
sum-only test f i (e ∷ es) =
    ap (plus (only (test i e) (f i e))) (sum-only test f (suc i) es) ∙ only-plus (test i e) (all_from test (suc i) es) (f i e) (sum_from f (suc i) es)

pub plus-only : (s : ℤ) (t : Bool) (a : Option ℤ) → plus (Some s) (only t a) ≡ only t (plus (Some s) a)
plus-only s true a = refl
plus-only s false a = refl

pub sum-shift : (f : ℕ → ℕ → Option ℤ) (i : ℕ) (es : List ℕ) → sum_from f (suc i) es ≡ sum_from (λ i e. f (suc i) e) i es
sum-shift f i [] = refl
sum-shift f i (e ∷ es) = ap (plus (f (suc i) e)) (sum-shift f (suc i) es)

pub all-shift : (test : ℕ → ℕ → Bool) (i : ℕ) (es : List ℕ) → all_from test (suc i) es ≡ all_from (λ i e. test (suc i) e) i es
all-shift test i [] = refl
all-shift test i (e ∷ es) = ap (λ t. test (suc i) e && t) (all-shift test (suc i) es)

and-swap : (a b c d : Bool) → (a && b) && (c && d) ≡ (a && c) && (b && d)
and-swap true true c d = refl
and-swap true false true d = refl
and-swap true false false d = refl
and-swap false b c d = refl

pub all-and : (f g : ℕ → ℕ → Bool) (i : ℕ) (es : List ℕ) → all_from (λ i e. f i e && g i e) i es ≡ all_from f i es && all_from g i es
all-and f g i [] = refl
all-and f g i (e ∷ es) = ap (λ t. (f i e && g i e) && t) (all-and f g (suc i) es) ∙ and-swap (f i e) (g i e) (all_from f (suc i) es) (all_from g (suc i) es)

-- digits are elements below their sizes
pub digits-each : (sizes es : List ℕ) → length es ≡ length sizes → are_digits sizes es ≡ all_from (λ i e. nat_lt e (slice_index_or sizes i 0)) 0 es
digits-each [] [] h = refl
digits-each [] (e ∷ es) h = absurd (omega arith)
digits-each (s ∷ sizes) [] h = absurd (omega arith)
digits-each (s ∷ sizes) (e ∷ es) h =
    ap (λ t. nat_lt e s && t) (digits-each sizes es (omega arith) ∙ sym (all-shift (λ i e. nat_lt e (slice_index_or (s ∷ sizes) i 0)) 0 es))

pub zip-each : {X : Type 0} (test : X → ℕ → Bool) (d : X) (xs : List X) (es : List ℕ) → length es ≡ length xs → list_all (λ p. test p.0 p.1) (zip xs es) ≡ all_from (λ i e. test (slice_index_or xs i d) e) 0 es
zip-each test d [] [] h = refl
zip-each test d [] (e ∷ es) h = absurd (omega arith)
zip-each test d (x ∷ xs) [] h = absurd (omega arith)
zip-each test d (x ∷ xs) (e ∷ es) h =
    ap (λ t. test x e && t) (zip-each test d xs es (omega arith) ∙ sym (all-shift (λ i e. test (slice_index_or (x ∷ xs) i d) e) 0 es))
