-- The decimals of a fraction, as they are written and as they read back.
use Rattle.std.proofs.Common.{◌≡◌, ◌≢◌, ◌∙◌, sym, ap, refl, arith, lit≤, ℕ, zero, suc, ◌+◌, ◌-◌, ◌*◌, ◌/◌, ◌%◌, ◌^◌, ◌<◌, ◌≤◌, false, ◌==◌, List, [], ◌∷◌, ◌++◌, get_or, cond, take, append_assoc, append-nil}
use Rattle.std.proofs.lemmas.Bool.Decides.{nat_tests}
use Rattle.std.proofs.lemmas.Nat.{div-add-mod', mod_below}
use Rattle.std.proofs.Math.Nat.{zero-div, one-le-pow}
use Rattle.cube_fixed.specs.Text.{digits_in, onto_trimmed, without_zeros_at_end, fraction_text}

-- n in k digits, without the zeros at the end
unfoldable pub decimals : ℕ → ℕ → List ℕ
decimals k n = without_zeros_at_end (digits_in k n)

decimals-suc : (k n : ℕ) → decimals (suc k) n ≡ onto_trimmed (48 + n / 10 ^ k) (decimals k (n % 10 ^ k))
unfolding decimals
decimals-suc k n = refl

pub decimals-none : (n : ℕ) → decimals zero n ≡ []
unfolding decimals
decimals-none n = refl

pub decimals-zero : (k : ℕ) → decimals k 0 ≡ []
decimals-zero zero = decimals-none 0
decimals-zero (suc k) =
    let one : 1 ≤ 10 ^ k = one-le-pow k 10 (lit≤ tt) in
    let rest : 0 % 10 ^ k ≡ 0 = omega arith in
    decimals-suc k 0 ∙
    ap (λ q. onto_trimmed (48 + q) (decimals k (0 % 10 ^ k))) (zero-div (10 ^ k)) ∙
    ap (λ r. onto_trimmed 48 (decimals k r)) rest ∙
    ap (λ xs. onto_trimmed 48 xs) (decimals-zero k)

-- a list that has a first element
abbrev pub Starts : List ℕ → Type 0
Starts xs = (c : ℕ) × (cs : List ℕ) × (xs ≡ c ∷ cs)

onto_cons : (c : ℕ) (xs : List ℕ) → Starts xs → onto_trimmed c xs ≡ c ∷ xs
onto_cons c [] h = cc
onto_cons c (d ∷ ds) h = refl

onto_nonzero : (c : ℕ) → c ≢ 48 → onto_trimmed c [] ≡ c ∷ []
onto_nonzero c h =
    let no : (c == 48) ≡ false = grind (arith, nat_tests) in
    ap (λ b. cond b [] (c ∷ [])) no

-- the first digit of a number other than 0 stands before those of its rest
step_at : (k n m : ℕ) → n % 10 ^ k ≡ m → 0 < n → (0 < m → Starts (decimals k m)) → onto_trimmed (48 + n / 10 ^ k) (decimals k m) ≡ (48 + n / 10 ^ k) ∷ decimals k m
step_at k n zero e above tail =
    let one : 0 < 10 ^ k = one-le-pow k 10 (lit≤ tt) in
    let parts : n / 10 ^ k * 10 ^ k + n % 10 ^ k ≡ n = div-add-mod' n (10 ^ k) in
    let some : 48 + n / 10 ^ k ≢ 48 = λ eq.
    let none : n / 10 ^ k ≡ 0 = omega arith in
    let product : n / 10 ^ k * 10 ^ k ≡ 0 * 10 ^ k = ap (λ q. q * 10 ^ k) none in
    omega (arith, parts, product) in
    ap (λ xs. onto_trimmed (48 + n / 10 ^ k) xs) (decimals-zero k) ∙ onto_nonzero (48 + n / 10 ^ k) some ∙
    ap (λ xs. (48 + n / 10 ^ k) ∷ xs) (sym (decimals-zero k))
step_at k n (suc m) e above tail = onto_cons (48 + n / 10 ^ k) (decimals k (suc m)) (tail (omega arith))

pub below_place : (k n : ℕ) → n % 10 ^ k < 10 ^ k
below_place k n = mod_below n (10 ^ k) (one-le-pow k 10 (lit≤ tt))

pub starts : (k n : ℕ) → n < 10 ^ k → 0 < n → Starts (decimals k n)
starts zero n below above = absurd (omega arith)
starts (suc k) n below above =
    let tail : 0 < n % 10 ^ k → Starts (decimals k (n % 10 ^ k)) = λ pos. starts k (n % 10 ^ k) (below_place k n) pos in
    (48 + n / 10 ^ k, decimals k (n % 10 ^ k), decimals-suc k n ∙ step_at k n (n % 10 ^ k) refl above tail)

pub decimals-step : (k n : ℕ) → 0 < n → decimals (suc k) n ≡ (48 + n / 10 ^ k) ∷ decimals k (n % 10 ^ k)
decimals-step k n above =
    decimals-suc k n ∙ step_at k n (n % 10 ^ k) refl above (λ pos. starts k (n % 10 ^ k) (below_place k n) pos)

pub fraction_text-pos : (n : ℕ) → 0 < n → fraction_text n ≡ 46 ∷ decimals 6 n
unfolding fraction_text decimals
fraction_text-pos zero h = absurd (omega arith)
fraction_text-pos (suc n) h = refl

-- one digit more is written
pub fraction_step : (k rest : ℕ) (text : List ℕ) → 0 < rest → (text ++ (48 + rest / 10 ^ k) ∷ []) ++ decimals k (rest % 10 ^ k) ≡ text ++ decimals (suc k) rest
fraction_step k rest text above =
    append_assoc text ((48 + rest / 10 ^ k) ∷ []) (decimals k (rest % 10 ^ k)) ∙ ap (λ xs. text ++ xs) (sym (decimals-step k rest above))

-- all are written
pub fraction_end : (text old new tail : List ℕ) (n : ℕ) → 0 < n → tail ≡ [] → new ≡ old ++ 46 ∷ [] → text ++ tail ≡ new ++ decimals 6 n → text ≡ old ++ fraction_text n
fraction_end text old new tail n above none point all =
    sym (append-nil text) ∙ ap (λ xs. text ++ xs) (sym none) ∙ all ∙ ap (λ xs. xs ++ decimals 6 n) point ∙
    append_assoc old (46 ∷ []) (decimals 6 n) ∙ ap (λ xs. old ++ xs) (sym (fraction_text-pos n above))

pub place_at : (i : ℕ) → i < 6 → get_or (100000 ∷ 10000 ∷ 1000 ∷ 100 ∷ 10 ∷ 1 ∷ []) i 0 ≡ 10 ^ (5 - i)
place_at zero h = refl
place_at (suc zero) h = refl
place_at (suc (suc zero)) h = refl
place_at (suc (suc (suc zero))) h = refl
place_at (suc (suc (suc (suc zero)))) h = refl
place_at (suc (suc (suc (suc (suc zero))))) h = refl
place_at (suc (suc (suc (suc (suc (suc i)))))) h = absurd (omega arith)

-- ---- so many digits

-- one digit more is written, of so many
pub digit_step : (k left rest : ℕ) (text : List ℕ) → (text ++ (48 + rest / 10 ^ k) ∷ []) ++ take left (digits_in k (rest % 10 ^ k)) ≡ text ++ take (suc left) (digits_in (suc k) rest)
digit_step k left rest text = append_assoc text ((48 + rest / 10 ^ k) ∷ []) (take left (digits_in k (rest % 10 ^ k)))
