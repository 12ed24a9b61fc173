-- Pairs of a leaf and a coefficient.
use Rattle.std.proofs.Common.{◌≡◌, ◌≢◌, ℕ, zero, suc, ◌+◌, ◌*◌, ◌<◌, ◌≤◌, max, Bool, true, false, cond, eqb, ℤ, pos, ◌+ℤ◌, unsigned_abs, List, [], ◌∷◌, ◌++◌, length, take, get_or, map, refl, ap, sym, ◌∙◌, add-one, arith, All}
use Rattle.std.specs.List.{AllPairs, range_with_len}
use Rattle.std.proofs.Math.IntN.{+ℤ_idl}
use Rattle.std.proofs.lemmas.Bool.{eqb-true, eq-eqb}
use Rattle.std.proofs.lemmas.Bool.Decides.{nat_tests}
use Rattle.std.proofs.lemmas.Int.{ints}
use Rattle.std.proofs.lemmas.List.Elements.{All-cons, All-nil}
use Rattle.std.proofs.lemmas.List.{take_more, append-nil}
use Rattle.std.proofs.lemmas.List.Kept.{AllPairs-from_increasing}
use Rattle.dim_weights.specs.Table.{is_nonzero, nonzero_among, share, greatest_in, IsRising}
use Rattle.dim_weights.proofs.Nonzero.{zero-is as is-zero, abs-plus}
pub use Rattle.dim_weights.proofs.Nonzero.{counts-nonzero as nonzero-true}

-- the leaves rise, by recursion, from this one on
abbrev pub RisesFrom : ℕ → List (ℕ × ℤ) → Type 0
RisesFrom a [] = Unit {0}
RisesFrom a (p ∷ ps) = (a ≤ p.0) × RisesFrom (p.0 + 1) ps

abbrev leaves : List (ℕ × ℤ) → List ℕ
leaves ps = map (λ (p : ℕ × ℤ). p.0) ps

rises-after : (p : ℕ × ℤ) (ps : List (ℕ × ℤ)) → AllPairs (λ x y. x < y) (leaves (p ∷ ps)) → RisesFrom (p.0 + 1) ps
rises-after p [] up = tt
rises-after p (q ∷ qs) up =
    let less : p.0 < q.0 = up 0 1 0 (omega arith) (omega arith) in
    (omega arith, rises-after q qs (λ i j d below within. up (suc i) (suc j) d (omega arith) (omega arith)))

pub RisesFrom-rising : (ps : List (ℕ × ℤ)) → IsRising ps → RisesFrom 0 ps
RisesFrom-rising [] up = tt
RisesFrom-rising (p ∷ ps) up = (omega arith, rises-after p ps (AllPairs-from_increasing (leaves (p ∷ ps)) up))

pub rising-RisesFrom : (a : ℕ) (ps : List (ℕ × ℤ)) → RisesFrom a ps → IsRising ps
rising-RisesFrom a [] rises k within = absurd (omega arith)
rising-RisesFrom a (p ∷ []) rises k within = absurd (omega arith)
rising-RisesFrom a (p ∷ q ∷ qs) rises zero within = let next : p.0 + 1 ≤ q.0 = rises.1.0 in omega arith
rising-RisesFrom a (p ∷ q ∷ qs) rises (suc k) within =
    let later = rising-RisesFrom (p.0 + 1) (q ∷ qs) rises.1 k (omega arith) in
    let next = rw add-one at later in
    rw add-one next

RisesFrom-lower : (a b : ℕ) (ps : List (ℕ × ℤ)) → a ≤ b → RisesFrom b ps → RisesFrom a ps
RisesFrom-lower a b [] le rises = tt
RisesFrom-lower a b (p ∷ ps) le rises = (let at = rises.0 in omega arith, rises.1)

RisesFrom-at : (a : ℕ) (ps : List (ℕ × ℤ)) → RisesFrom a ps → (k : ℕ) (d : ℕ × ℤ) → k < length ps → a ≤ (get_or ps k d).0
RisesFrom-at a [] rises k d within = absurd (omega arith)
RisesFrom-at a (p ∷ ps) rises zero d within = rises.0
RisesFrom-at a (p ∷ ps) rises (suc k) d within =
    let later = RisesFrom-at (p.0 + 1) ps rises.1 k d (omega arith) in
    let first : a ≤ p.0 = rises.0 in
    omega arith

pub differ : (m n : ℕ) → m ≢ n → eqb m n ≡ false
differ m n h = by (eqb m n) refl
  where
    by : (b : Bool) → eqb m n ≡ b → b ≡ false
    by true e = absurd (h (eqb-true m n e))
    by false e = refl

-- what pairs say of a leaf
pub share-above : (a : ℕ) (ps : List (ℕ × ℤ)) → RisesFrom a ps → (leaf : ℕ) → leaf < a → share ps leaf ≡ pos 0
share-above a [] rises leaf below = refl
share-above a (p ∷ ps) rises leaf below =
    let first : a ≤ p.0 = rises.0 in
    let other = differ p.0 leaf (λ e. omega arith) in
    let rest = share-above (p.0 + 1) ps rises.1 leaf (omega arith) in
    rw (other, rest) refl

pub share-at : (a : ℕ) (ps : List (ℕ × ℤ)) → RisesFrom a ps → (k : ℕ) (d : ℕ × ℤ) → k < length ps → share ps (get_or ps k d).0 ≡ (get_or ps k d).1
share-at a [] rises k d within = absurd (omega arith)
share-at a (p ∷ ps) rises zero d within =
    let same = eq-eqb p.0 p.0 refl in
    let rest = share-above (p.0 + 1) ps rises.1 p.0 (omega arith) in
    rw (same, rest) (omega (arith, ints))
share-at a (p ∷ ps) rises (suc k) d within =
    let inside : k < length ps = omega arith in
    let later = RisesFrom-at (p.0 + 1) ps rises.1 k d inside in
    let other = differ p.0 (get_or ps k d).0 (λ e. omega arith) in
    let rest = share-at (p.0 + 1) ps rises.1 k d inside in
    rw (other, rest) (+ℤ_idl _)

pub share-none : (ps : List (ℕ × ℤ)) (leaf : ℕ) → All (λ p. p.0 ≢ leaf) ps → share ps leaf ≡ pos 0
share-none [] leaf none = refl
share-none (p ∷ ps) leaf none =
    let other = differ p.0 leaf (none 0 p (omega arith)) in
    let rest = share-none ps leaf (λ k d within. none (suc k) d (omega arith)) in
    rw (other, rest) refl

pub share-push : (ps : List (ℕ × ℤ)) (p : ℕ × ℤ) (leaf : ℕ) → share (ps ++ p ∷ []) leaf ≡ share ps leaf +ℤ cond (eqb p.0 leaf) p.1 (pos 0)
share-push [] p leaf = omega (arith, ints)
share-push (q ∷ ps) p leaf = let rest = share-push ps p leaf in omega (arith, ints)

pub share-size : (m : ℕ) (ps : List (ℕ × ℤ)) (leaf : ℕ) → greatest_in ps ≤ m → unsigned_abs (share ps leaf) ≤ length ps * m
share-size m [] leaf small = omega arith
share-size m (p ∷ ps) leaf small = by (eqb p.0 leaf) (share-size m ps leaf (omega arith))
  where
    by : (b : Bool) → unsigned_abs (share ps leaf) ≤ length ps * m → unsigned_abs (cond b p.1 (pos 0) +ℤ share ps leaf) ≤ suc (length ps) * m
    by true rest =
        let sum = abs-plus p.1 (share ps leaf) in
        omega arith
    by false rest =
        let sum = abs-plus (pos 0) (share ps leaf) in
        omega arith

-- the greatest size
pub greatest_in-push : (ps : List (ℕ × ℤ)) (p : ℕ × ℤ) → greatest_in (ps ++ p ∷ []) ≡ max (greatest_in ps) (unsigned_abs p.1)
greatest_in-push [] p = omega arith
greatest_in-push (q ∷ ps) p = let rest = greatest_in-push ps p in omega arith

pub greatest_in-at : (ps : List (ℕ × ℤ)) (k : ℕ) (d : ℕ × ℤ) → k < length ps → unsigned_abs (get_or ps k d).1 ≤ greatest_in ps
greatest_in-at [] k d within = absurd (omega arith)
greatest_in-at (p ∷ ps) zero d within = omega arith
greatest_in-at (p ∷ ps) (suc k) d within = let later = greatest_in-at ps k d (omega arith) in omega arith

-- values other than 0
pub skip-zero : (f : ℕ → ℤ) (a : ℕ) (ls : List ℕ) → f a ≡ pos 0 → nonzero_among f (a ∷ ls) ≡ nonzero_among f ls
skip-zero f a ls zero_there = rw zero_there refl

module _ (f : ℕ → ℤ) where
  pub rises-range : (n a : ℕ) → RisesFrom a (nonzero_among f (range_with_len a n))
  rises-range zero a = tt
  rises-range (suc n) a = by (is_nonzero (f a)) (rises-range n (a + 1))
    where
      by : (b : Bool) → RisesFrom (a + 1) (nonzero_among f (range_with_len (a + 1) n))
          → RisesFrom a (cond b ((a, f a) ∷ nonzero_among f (range_with_len (a + 1) n)) (nonzero_among f (range_with_len (a + 1) n)))
      by true rest = (omega arith, rest)
      by false rest = RisesFrom-lower a (a + 1) _ (omega arith) rest

  pub within-range : (m n a : ℕ) → a + n ≤ m → All (λ p. p.0 < m) (nonzero_among f (range_with_len a n))
  within-range m zero a le = All-nil (λ p. p.0 < m)
  within-range m (suc n) a le = by (is_nonzero (f a)) (within-range m n (a + 1) (omega arith))
    where
      by : (b : Bool) → All (λ p. p.0 < m) (nonzero_among f (range_with_len (a + 1) n))
          → All (λ p. p.0 < m) (cond b ((a, f a) ∷ nonzero_among f (range_with_len (a + 1) n)) (nonzero_among f (range_with_len (a + 1) n)))
      by true rest = All-cons (λ p. p.0 < m) (a, f a) _ (omega arith) rest
      by false rest = rest

  pub share-range : (n a leaf : ℕ) → a ≤ leaf → leaf < a + n → share (nonzero_among f (range_with_len a n)) leaf ≡ f leaf
  share-range zero a leaf low high = absurd (omega arith)
  share-range (suc n) a leaf low high = by (eqb a leaf) (is_nonzero (f a)) refl refl (λ above. share-range n (a + 1) leaf above (omega arith))
    where
      by : (b v : Bool) → eqb a leaf ≡ b → is_nonzero (f a) ≡ v → (a + 1 ≤ leaf → share (nonzero_among f (range_with_len (a + 1) n)) leaf ≡ f leaf)
          → share (cond v ((a, f a) ∷ nonzero_among f (range_with_len (a + 1) n)) (nonzero_among f (range_with_len (a + 1) n))) leaf ≡ f leaf
      by true true e nonzero later =
          let none = share-above (a + 1) (nonzero_among f (range_with_len (a + 1) n)) (rises-range n (a + 1)) leaf (let same = eqb-true a leaf e in omega arith) in
          let same = ap f (eqb-true a leaf e) in
          rw (e, none) (omega (arith, ints))
      by true false e nonzero later =
          share-above (a + 1) (nonzero_among f (range_with_len (a + 1) n)) (rises-range n (a + 1)) leaf (let same = eqb-true a leaf e in omega arith)
          ∙ sym (is-zero (f a) nonzero) ∙ ap f (eqb-true a leaf e)
      by false true e nonzero later =
          let rest = later (grind (arith, nat_tests)) in
          rw (e, rest) (+ℤ_idl _)
      by false false e nonzero later = later (grind (arith, nat_tests))

  -- the greatest is no less than any value
  pub greatest-range : (n a leaf : ℕ) → a ≤ leaf → leaf < a + n → unsigned_abs (f leaf) ≤ greatest_in (nonzero_among f (range_with_len a n))
  greatest-range zero a leaf low high = absurd (omega arith)
  greatest-range (suc n) a leaf low high = by (eqb a leaf) (is_nonzero (f a)) refl refl (λ above. greatest-range n (a + 1) leaf above (omega arith))
    where
      by : (b v : Bool) → eqb a leaf ≡ b → is_nonzero (f a) ≡ v → (a + 1 ≤ leaf → unsigned_abs (f leaf) ≤ greatest_in (nonzero_among f (range_with_len (a + 1) n)))
          → unsigned_abs (f leaf) ≤ greatest_in (cond v ((a, f a) ∷ nonzero_among f (range_with_len (a + 1) n)) (nonzero_among f (range_with_len (a + 1) n)))
      by true true e nonzero later = let same = ap (λ (x : ℕ). unsigned_abs (f x)) (eqb-true a leaf e) in omega arith
      by true false e nonzero later = let same : f leaf ≡ pos 0 = ap f (sym (eqb-true a leaf e)) ∙ is-zero (f a) nonzero in rw same (omega arith)
      by false true e nonzero later = let rest = later (grind (arith, nat_tests)) in omega arith
      by false false e nonzero later = later (grind (arith, nat_tests))

-- functions that agree below m
pub agree-range : (f g : ℕ → ℤ) (m : ℕ) → ((leaf : ℕ) → leaf < m → f leaf ≡ g leaf) → (n a : ℕ) → a + n ≤ m
    → nonzero_among f (range_with_len a n) ≡ nonzero_among g (range_with_len a n)
agree-range f g m same zero a le = refl
agree-range f g m same (suc n) a le =
    let here : f a ≡ g a = same a (omega arith) in
    let rest = agree-range f g m same n (a + 1) (omega arith) in
    rw (here, rest) refl

-- rising pairs say no more of a leaf than the greatest size
pub share-le : (a : ℕ) (ps : List (ℕ × ℤ)) → RisesFrom a ps → (leaf : ℕ) → unsigned_abs (share ps leaf) ≤ greatest_in ps
share-le a [] rises leaf = omega arith
share-le a (p ∷ ps) rises leaf = by (eqb p.0 leaf) refl (share-le (p.0 + 1) ps rises.1 leaf)
  where
    by : (b : Bool) → eqb p.0 leaf ≡ b → unsigned_abs (share ps leaf) ≤ greatest_in ps → unsigned_abs (cond b p.1 (pos 0) +ℤ share ps leaf) ≤ max (unsigned_abs p.1) (greatest_in ps)
    by true e rest =
        let none = share-above (p.0 + 1) ps rises.1 leaf (let same = eqb-true p.0 leaf e in omega arith) in
        let sum = abs-plus p.1 (share ps leaf) in
        let nothing : unsigned_abs (share ps leaf) ≡ 0 = ap unsigned_abs none in
        omega arith
    by false e rest = let sum = abs-plus (pos 0) (share ps leaf) in omega arith

pub greatest_in-take : (ps : List (ℕ × ℤ)) (i : ℕ) → greatest_in (take i ps) ≤ greatest_in ps
greatest_in-take [] zero = omega arith
greatest_in-take [] (suc i) = omega arith
greatest_in-take (p ∷ ps) zero = omega arith
greatest_in-take (p ∷ ps) (suc i) = let rest = greatest_in-take ps i in omega arith

nonzero_among-push : (f : ℕ → ℤ) (ts : List ℕ) (t : ℕ) → nonzero_among f (ts ++ t ∷ []) ≡ nonzero_among f ts ++ cond (is_nonzero (f t)) ((t, f t) ∷ []) []
nonzero_among-push f [] t = refl
nonzero_among-push f (u ∷ ts) t = by (is_nonzero (f u)) (nonzero_among-push f ts t)
  where
    by : (b : Bool) → nonzero_among f (ts ++ t ∷ []) ≡ nonzero_among f ts ++ cond (is_nonzero (f t)) ((t, f t) ∷ []) []
        → cond b ((u, f u) ∷ nonzero_among f (ts ++ t ∷ [])) (nonzero_among f (ts ++ t ∷ [])) ≡ cond b ((u, f u) ∷ nonzero_among f ts) (nonzero_among f ts) ++ cond (is_nonzero (f t)) ((t, f t) ∷ []) []
    by true rest = ap (λ (xs : List (ℕ × ℤ)). (u, f u) ∷ xs) rest
    by false rest = rest

-- one more number
pub pairs-more : (f : ℕ → ℤ) (ts : List ℕ) (i : ℕ) (xs ys : List (ℕ × ℤ)) → i < length ts → xs ≡ nonzero_among f (take i ts) → ys ≡ xs ++ cond (is_nonzero (f (get_or ts i 0))) ((get_or ts i 0, f (get_or ts i 0)) ∷ []) []
    → ys ≡ nonzero_among f (take (i + 1) ts)
pairs-more f ts i xs ys within before pushed =
    let more = take_more ts i 0 within in
    let push = nonzero_among-push f (take i ts) (get_or ts i 0) in
    rw (more, push, ← before) pushed

pub small-more : (m t : ℕ) (v : ℤ) (xs ys : List (ℕ × ℤ)) → greatest_in xs ≤ m → unsigned_abs v ≤ m → ys ≡ xs ++ cond (is_nonzero v) ((t, v) ∷ []) [] → greatest_in ys ≤ m
small-more m t v xs ys before small pushed = by (is_nonzero v) pushed
  where
    by : (b : Bool) → ys ≡ xs ++ cond b ((t, v) ∷ []) [] → greatest_in ys ≤ m
    by true e = let all = greatest_in-push xs (t, v) in rw e (omega arith)
    by false e = rw (e, append-nil xs) before

pub greatest_in-more : (ps : List (ℕ × ℤ)) (i : ℕ) (d : ℕ × ℤ) → i < length ps → greatest_in (take (i + 1) ps) ≡ max (greatest_in (take i ps)) (unsigned_abs (get_or ps i d).1)
greatest_in-more ps i d within = ap greatest_in (take_more ps i d within) ∙ greatest_in-push (take i ps) (get_or ps i d)
