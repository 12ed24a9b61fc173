-- Stages, one after another.
use Rattle.std.proofs.Common.{◌≡◌, inl, inr, ℕ, ◌+◌, ◌<◌, ◌≤◌, zero, suc, Option, Some, None, Result, Ok, Err, List, [], ◌∷◌, ◌++◌, length, take, drop, get_or, refl, ap, sym, ◌∙◌, subst, arith, IsErrAnd, length-append, slice_index_or}
use Rattle.std.specs.Option.{option_or}
use Rattle.std.proofs.lemmas.List.{take_more, drop_more, take-append-drop}
use Rattle.model_bind.specs.declared.fault.DeployFault.{DeployFault}
use Rattle.model_bind.specs.Foundation.{memory}
use Rattle.model_bind.specs.Stages.{Stage, found, unless, each, ◌>>=◌, Comes}

module _ (A B : Type 0) (S : Stage A) (K : A → Stage B) where
  -- what is refused by the first isn't looked at by the second
  pub stopped : (fault : DeployFault) (answer : Result B DeployFault) → IsErrAnd answer (λ e. e ≡ fault) → Comes S (Err fault) → Comes (S >>= K) answer
  stopped fault (Ok b) is h = absurd is
  stopped fault (Err e) is (inl want) = inl (is ∙ want)
  stopped fault (Err e) is (inr refused) = inr (inl (subst S.refuses (sym is) refused))

  pub goes-on : (a : A) (answer : Result B DeployFault) → S.finds a → Comes (K a) answer → Comes (S >>= K) answer
  goes-on a (Ok b) finds h = (a, finds, h)
  goes-on a (Err e) finds (inl want) = inl want
  goes-on a (Err e) finds (inr refused) = inr (inr (a, finds, refused))

-- what comes of two stages in one, and then a third, comes of the three in turn
pub in-turn : (A B C : Type 0) (S : Stage A) (K : A → Stage B) (L : B → Stage C) (answer : Result C DeployFault) → Comes ((S >>= K) >>= L) answer → Comes (S >>= (λ a. K a >>= L)) answer
in-turn A B C S K L (Ok c) (b, (a, here, next), last) = (a, here, (b, next, last))
in-turn A B C S K L (Err e) (inl want) = inl want
in-turn A B C S K L (Err e) (inr (inl (inl refused))) = inr (inl refused)
in-turn A B C S K L (Err e) (inr (inl (inr (a, here, refused)))) = inr (inr (a, here, inl refused))
in-turn A B C S K L (Err e) (inr (inr (b, (a, here, next), refused))) = inr (inr (a, here, inr (b, next, refused)))

-- where the first stage finds something at once, what comes is what comes of the second
pub at-once : (A B : Type 0) (a : A) (K : A → Stage B) (answer : Result B DeployFault) → Comes (found a >>= K) answer → Comes (K a) answer
at-once A B a K (Ok b) (x, is, h) = subst (λ y. (K y).finds b) is h
at-once A B a K (Err e) (inl want) = inl want
at-once A B a K (Err e) (inr (inl none)) = absurd none
at-once A B a K (Err e) (inr (inr (x, is, h))) = inr (subst (λ y. (K y).refuses e) is h)

-- the same behind a stage
pub behind : (A B : Type 0) (S : Stage A) (K L : A → Stage B) (answer : Result B DeployFault) → ((a : A) → Comes (K a) answer → Comes (L a) answer) → Comes (S >>= K) answer → Comes (S >>= L) answer
behind A B S K L (Ok b) then (a, here, next) = (a, here, then a next)
behind A B S K L (Err e) then (inl want) = inl want
behind A B S K L (Err e) then (inr (inl refused)) = inr (inl refused)
behind A B S K L (Err e) then (inr (inr (a, here, refused))) = by (then a (inr refused))
  where
    by : Comes (L a) (Err e) → Comes (S >>= L) (Err e)
    by (inl want) = inl want
    by (inr refused) = inr (inr (a, here, refused))

-- the first of two refusals is looked for, and then the other
pub one-by-one : (A : Type 0) (first second : Option DeployFault) (K : Unit {0} → Stage A) (answer : Result A DeployFault) → Comes (unless (option_or first second) >>= K) answer
    → Comes (unless first >>= (λ _. unless second >>= K)) answer
one-by-one A None second K (Ok a) came = (tt, refl, came)
one-by-one A None second K (Err e) (inl want) = inl want
one-by-one A None second K (Err e) (inr came) = inr (inr (tt, refl, came))
one-by-one A (Some fault) second K (Ok a) (u, none, came) = absurd (cc none)
one-by-one A (Some fault) second K (Err e) (inl want) = inl want
one-by-one A (Some fault) second K (Err e) (inr (inl is)) = inr (inl is)
one-by-one A (Some fault) second K (Err e) (inr (inr (u, none, came))) = absurd (cc none)

-- want of memory answers anything
pub wanting : (A : Type 0) (S : Stage A) (answer : Result A DeployFault) → IsErrAnd answer (λ e. e ≡ memory) → Comes S answer
wanting A S (Ok a) is = absurd is
wanting A S (Err e) is = inl is

-- the same stage found these of those, in turn
abbrev pub AreFound : {A B : Type 0} → (ℕ → A → Stage B) → ℕ → List A → List B → Type 0
AreFound stage n [] [] = Unit {0}
AreFound stage n [] (y ∷ ys) = ⊥
AreFound stage n (x ∷ xs) [] = ⊥
AreFound stage n (x ∷ xs) (y ∷ ys) = (stage n x).finds y × AreFound stage (n + 1) xs ys

module _ {A B : Type 0} (stage : ℕ → A → Stage B) where
  pub all-found : (n : ℕ) (xs : List A) (ys : List B) → AreFound stage n xs ys → (each stage n xs).finds ys
  all-found n [] [] h = refl
  all-found n [] (y ∷ ys) h = absurd h
  all-found n (x ∷ xs) [] h = absurd h
  all-found n (x ∷ xs) (y ∷ ys) h = (y, h.0, (ys, all-found (n + 1) xs ys h.1, refl))

  pub as-many : (n : ℕ) (xs : List A) (ys : List B) → (each stage n xs).finds ys → length ys ≡ length xs
  as-many n [] ys h = ap length h
  as-many n (x ∷ xs) ys (y, one, (more, rest, is)) = ap length is ∙ ap suc (as-many (n + 1) xs more rest)

  at-place : {C : Type 0} (P : ℕ → C → Type 0) (n k : ℕ) (c : C) → n ≡ k → P n c → P k c
  at-place P n k c same h = subst (λ i. P i c) same h

  pub one-more : (n : ℕ) (xs : List A) (ys : List B) (x : A) (y : B) → AreFound stage n xs ys → (stage (n + length xs) x).finds y → AreFound stage n (xs ++ x ∷ []) (ys ++ y ∷ [])
  one-more n [] [] x y h is = (subst (λ k. (stage k x).finds y) (omega arith) is, tt)
  one-more n [] (b ∷ ys) x y h is = absurd h
  one-more n (a ∷ xs) [] x y h is = absurd h
  one-more n (a ∷ xs) (b ∷ ys) x y h is = (h.0, one-more (n + 1) xs ys x y h.1 (subst (λ k. (stage k x).finds y) (omega arith) is))

  pub one-refused : (n : ℕ) (front : List A) (ys : List B) (x : A) (rest : List A) (fault : DeployFault) → AreFound stage n front ys → (stage (n + length front) x).refuses fault
      → (each stage n (front ++ x ∷ rest)).refuses fault
  one-refused n [] [] x rest fault h is = inl (subst (λ k. (stage k x).refuses fault) (omega arith) is)
  one-refused n [] (b ∷ ys) x rest fault h is = absurd h
  one-refused n (a ∷ front) [] x rest fault h is = absurd h
  one-refused n (a ∷ front) (b ∷ ys) x rest fault h is = inr (b, h.0, inl (one-refused (n + 1) front ys x rest fault h.1 (subst (λ k. (stage k x).refuses fault) (omega arith) is)))

  -- what was found of one of them
  pub found-at : (n k : ℕ) (xs : List A) (ys : List B) (a : A) (b : B) → AreFound stage n xs ys → k < length xs → (stage (n + k) (slice_index_or xs k a)).finds (slice_index_or ys k b)
  found-at n k [] ys a b h low = absurd (omega (arith, low))
  found-at n k (x ∷ xs) [] a b h low = absurd h
  found-at n zero (x ∷ xs) (y ∷ ys) a b h low = subst (λ i. (stage i x).finds y) (omega arith) h.0
  found-at n (suc k) (x ∷ xs) (y ∷ ys) a b h low =
      subst (λ i. (stage i (slice_index_or xs k a)).finds (slice_index_or ys k b)) (omega arith) (found-at (n + 1) k xs ys a b h.1 (omega (arith, low)))

  -- the first that doesn't go through is the answer
  pub comes-refused : (all front rest : List A) (ys : List B) (x : A) (k : ℕ) (fault : DeployFault) (answer : Result (List B) DeployFault) → all ≡ front ++ x ∷ rest → k ≡ length front
      → AreFound stage 0 front ys → Comes (stage k x) (Err fault) → IsErrAnd answer (λ e. e ≡ fault) → Comes (each stage 0 all) answer
  comes-refused all front rest ys x k fault (Ok y) parts place h came is = absurd is
  comes-refused all front rest ys x k fault (Err e) parts place h (inl want) is = inl (is ∙ want)
  comes-refused all front rest ys x k fault (Err e) parts place h (inr refused) is =
      let start : k ≡ 0 + length front = omega (arith, place) in
      let here = subst (λ n. (stage n x).refuses fault) start refused in
      let last = one-refused 0 front ys x rest fault h here in
      inr (subst (λ f. (each stage 0 all).refuses f) (sym is) (subst (λ l. (each stage 0 l).refuses fault) (sym parts) last))

-- the elements up to one, that one, and those after it
pub parts-at : {A : Type 0} (xs : List A) (i : ℕ) (x : A) → i < length xs → x ≡ get_or xs i x → xs ≡ take i xs ++ x ∷ drop (i + 1) xs
parts-at xs i x low is =
    sym (take-append-drop i xs) ∙ ap (λ rest. take i xs ++ rest) (drop_more xs i x low) ∙ ap (λ y. take i xs ++ y ∷ drop (i + 1) xs) (sym is)

pub taken-more : {A : Type 0} (xs : List A) (i : ℕ) (x : A) → i < length xs → x ≡ get_or xs i x → take (i + 1) xs ≡ take i xs ++ x ∷ []
taken-more xs i x low is = take_more xs i x low ∙ ap (λ y. take i xs ++ y ∷ []) (sym is)

take-end : {A : Type 0} (i : ℕ) (xs : List A) → length xs ≤ i → take i xs ≡ xs
take-end zero [] h = refl
take-end (suc i) [] h = refl
take-end zero (x ∷ xs) h = absurd (omega (arith, h))
take-end (suc i) (x ∷ xs) h = ap (λ l. x ∷ l) (take-end i xs (omega (arith, h)))

-- all of them went through
pub whole-found : {A B : Type 0} (stage : ℕ → A → Stage B) (xs : List A) (ys : List B) (i : ℕ) → length xs ≤ i → AreFound stage 0 (take i xs) ys → (each stage 0 xs).finds ys
whole-found stage xs ys i end h = all-found stage 0 xs ys (subst (λ l. AreFound stage 0 l ys) (take-end i xs end) h)

pub place-at : {A : Type 0} (xs : List A) (i : ℕ) → i < length xs → i ≡ length (take i xs)
place-at [] i h = absurd (omega (arith, h))
place-at (x ∷ xs) zero h = refl
place-at (x ∷ xs) (suc i) h = ap suc (place-at xs i (omega (arith, h)))

-- one of a list, behind those before it
pub seam-low : {A : Type 0} (all front rest : List A) (x : A) → all ≡ front ++ x ∷ rest → length front < length all
seam-low all front rest x parts = omega (arith, ap length parts, length-append front (x ∷ rest))

pub seam-at : {A : Type 0} (all front rest : List A) (x d : A) → all ≡ front ++ x ∷ rest → slice_index_or all (length front) d ≡ x
seam-at {A = A} all front rest x d parts = ap (λ l. slice_index_or l (length front) d) parts ∙ at front
  where
    at : (xs : List A) → slice_index_or (xs ++ x ∷ rest) (length xs) d ≡ x
    at [] = refl
    at (y ∷ ys) = at ys
