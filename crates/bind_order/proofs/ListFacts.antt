-- Lists of which each item may be missing.
use Rattle.std.proofs.Common.{Bool, true, false, ◌||◌, ◌≡◌, ◌<◌, ◌≤◌, ℕ, zero, suc, ◌+◌, List, [], ◌∷◌, ◌++◌, map, length, drop, Option, Some, None, option_map, refl, sym, ap, ◌∙◌, arith, append_assoc, append-nil, get_or}
use Rattle.std.proofs.lemmas.List.{drop_more, drop_all}
use Rattle.std.proofs.lemmas.List.FromFn.{length-range_with_len, get_or-range_with_len}
use Rattle.std.specs.List.{range_with_len, list_any}
use Rattle.bind_order.specs.Ranks.{all_of}

-- all of these behind others
abbrev pub behind : {A : Type 0} → List A → Option (List A) → Option (List A)
behind front later = option_map (λ list. front ++ list) later

pub all_more : {A B : Type 0} (f : A → Option B) (front next : List B) (rest later : List A) (x : A) (b : B) (whole : Option (List B))
    → rest ≡ x ∷ later → f x ≡ Some b → next ≡ front ++ b ∷ [] → behind front (all_of (map f rest)) ≡ whole → behind next (all_of (map f later)) ≡ whole
all_more {A} {B} f front next rest later x b whole is here pushed before =
    by (all_of (map f later)) ∙ step ∙ before
  where
    by : (o : Option (List B)) → behind next o ≡ behind front (option_map (λ list. b ∷ list) o)
    by None = refl
    by (Some list) = ap Some (ap (λ l. l ++ list) pushed ∙ append_assoc front (b ∷ []) list)

    same : all_of (map f rest) ≡ option_map (λ list. b ∷ list) (all_of (map f later))
    same = rw (is, here) refl

    step : behind front (option_map (λ list. b ∷ list) (all_of (map f later))) ≡ behind front (all_of (map f rest))
    step = ap (behind front) (sym same)

pub all_stops : {A B : Type 0} (f : A → Option B) (front : List B) (rest later : List A) (x : A) (whole : Option (List B))
    → rest ≡ x ∷ later → f x ≡ None → behind front (all_of (map f rest)) ≡ whole → None ≡ whole
all_stops f front rest later x whole is here before =
    let none : all_of (map f rest) ≡ None = rw (is, here) refl in
    ap (behind front) (sym none) ∙ before

pub all_done : {A B : Type 0} (f : A → Option B) (front : List B) (rest : List A) (whole : Option (List B))
    → rest ≡ [] → behind front (all_of (map f rest)) ≡ whole → Some front ≡ whole
all_done f front rest whole is before =
    let none : behind front (all_of (map f rest)) ≡ Some front = rw is (ap Some (append-nil front)) in
    sym none ∙ before

-- the first is there, and the later ones are
first_of : {A B : Type 0} (f : A → Option B) (y : A) (xs : List A) (bs : List B) → all_of (map f (y ∷ xs)) ≡ Some bs
    → (c : B) × (cs : List B) × (f y ≡ Some c) × (all_of (map f xs) ≡ Some cs) × (c ∷ cs ≡ bs)
first_of {A} {B} f y xs bs is = by (f y) refl (all_of (map f xs)) refl
  where
    by : (o : Option B) → f y ≡ o → (later : Option (List B)) → all_of (map f xs) ≡ later → (c : B) × (cs : List B) × (f y ≡ Some c) × (all_of (map f xs) ≡ Some cs) × (c ∷ cs ≡ bs)
    by None here later rest = absurd (let none : all_of (map f (y ∷ xs)) ≡ None = rw here refl in let e : None ≡ Some bs = sym none ∙ is in cc e)
    by (Some c) here None rest = absurd (let none : all_of (map f (y ∷ xs)) ≡ None = rw (here, rest) refl in let e : None ≡ Some bs = sym none ∙ is in cc e)
    by (Some c) here (Some cs) rest =
        let some : all_of (map f (y ∷ xs)) ≡ Some (c ∷ cs) = rw (here, rest) refl in
        let e : Some (c ∷ cs) ≡ Some bs = sym some ∙ is in
        (c, cs, here, rest, (let same : c ∷ cs ≡ bs = cc in same))

-- what all are, one by one
pub all_at : {A B : Type 0} (f : A → Option B) (xs : List A) (bs : List B) (k : ℕ) (x : A) (b : B) → all_of (map f xs) ≡ Some bs → k < length xs → f (get_or xs k x) ≡ Some (get_or bs k b)
all_at f [] bs k x b is low = absurd (omega (arith, low))
all_at f (y ∷ xs) bs zero x b is low =
    let (c, cs, here, rest, same) = first_of f y xs bs is in
    here ∙ ap (λ l. Some (get_or l 0 b)) same
all_at f (y ∷ xs) bs (suc k) x b is low =
    let (c, cs, here, rest, same) = first_of f y xs bs is in
    all_at f xs cs k x b rest (omega (arith, low)) ∙ ap (λ l. Some (get_or l (suc k) b)) same

pub all_long : {A B : Type 0} (f : A → Option B) (xs : List A) (bs : List B) → all_of (map f xs) ≡ Some bs → length bs ≡ length xs
all_long f [] bs is = let same : [] ≡ bs = cc in ap length (sym same)
all_long f (y ∷ xs) bs is =
    let (c, cs, here, rest, same) = first_of f y xs bs is in
    ap length (sym same) ∙ ap suc (all_long f xs cs rest)

-- the next number of a range
pub next_number : (n i : ℕ) → i < n → drop i (range_with_len 0 n) ≡ i ∷ drop (i + 1) (range_with_len 0 n)
next_number n i low =
    let long = length-range_with_len 0 n in
    drop_more (range_with_len 0 n) i 0 (omega (arith, low, long)) ∙ ap (λ k. k ∷ drop (i + 1) (range_with_len 0 n)) (get_or-range_with_len 0 n i 0 low ∙ (omega arith))

pub no_number : (n i : ℕ) → n ≤ i → drop i (range_with_len 0 n) ≡ []
no_number n i past = drop_all i (range_with_len 0 n) (omega (arith, past, length-range_with_len 0 n))

-- whether a number of a range passes a test, from the next on
pub any_more : (test : ℕ → Bool) (n i : ℕ) (whole : Bool) → i < n → test i ≡ false → list_any test (drop i (range_with_len 0 n)) ≡ whole → list_any test (drop (i + 1) (range_with_len 0 n)) ≡ whole
any_more test n i whole low off so =
    sym (ap (list_any test) (next_number n i low) ∙ ap (λ b. b || list_any test (drop (i + 1) (range_with_len 0 n))) off) ∙ so

pub any_stops : (test : ℕ → Bool) (n i : ℕ) (whole : Bool) → i < n → test i ≡ true → list_any test (drop i (range_with_len 0 n)) ≡ whole → true ≡ whole
any_stops test n i whole low on so =
    sym (ap (list_any test) (next_number n i low) ∙ ap (λ b. b || list_any test (drop (i + 1) (range_with_len 0 n))) on) ∙ so

pub any_done : (test : ℕ → Bool) (n i : ℕ) (whole : Bool) → n ≤ i → list_any test (drop i (range_with_len 0 n)) ≡ whole → false ≡ whole
any_done test n i whole past so = sym (ap (list_any test) (no_number n i past)) ∙ so
