-- Readers that never use up their turns on lists shorter than a length, and leave no longer ones than they were given.
use Rattle.std.proofs.Common.{ℕ, ◌<◌, ◌≤◌, zero, suc, List, [], ◌∷◌, length, Option, Some, None, Result, Ok, Err, Bool, true, false, if◌then◌else◌, codes, arith}
use Rattle.cube_lex.specs.Lexeme.{Lexeme}
use Rattle.grammar.specs.Reading.{Unexpected, Refused, OutOfTurns, Read, Reader, gives, taken, take_one, bound, both_of, choose, starts, repeat, all_of}
use Rattle.grammar.specs.Lists.{read_next, read_further, read_listed}
use Rattle.grammar.specs.Tokens.{sign, is_sign}
use Rattle.grammar.proofs.Many.{IsSettled}

-- what is answered of so many tokens: the turns weren't used up, and no more tokens are left
abbrev pub IsShort : {T R C A : Type 0} → ℕ → Read T R C A → Type 0
IsShort room (Ok x) = length x.2 ≤ room
IsShort room (Err (Unexpected left)) = Unit {0}
IsShort room (Err (Refused cause)) = Unit {0}
IsShort room (Err OutOfTurns) = ⊥

pub record SettlesBelow {T R C A : Type 0} (k : ℕ) (P : Reader T R C A) : Type 0 where
  pub at : (n : R) (ts : List T) → length ts < k → IsShort (length ts) (P n ts)

pub settled_of : {T R C A : Type 0} (room : ℕ) (r : Read T R C A) → IsShort room r → IsSettled r
settled_of room (Ok x) h = tt
settled_of room (Err (Unexpected left)) h = tt
settled_of room (Err (Refused cause)) h = tt
settled_of room (Err OutOfTurns) h = h

with_more_room : {T R C A : Type 0} (r : Read T R C A) (j k : ℕ) → j ≤ k → IsShort j r → IsShort k r
with_more_room (Ok x) j k more h = omega (arith, more, h)
with_more_room (Err (Unexpected left)) j k more h = tt
with_more_room (Err (Refused cause)) j k more h = tt
with_more_room (Err OutOfTurns) j k more h = h

-- what settles below a length settles below the one before
pub below_one_less : {T R C A : Type 0} {k : ℕ} {P : Reader T R C A} → SettlesBelow (suc k) P → SettlesBelow k P
below_one_less e = record { at = λ n ts h. e.at n ts (omega (arith, h)) }

pub nothing_below : {T R C A : Type 0} (P : Reader T R C A) → SettlesBelow 0 P
nothing_below P = record { at = λ n ts h. absurd (omega (arith, h)) }

pub below_gives : {T R C A : Type 0} {k : ℕ} (a : A) → SettlesBelow {T = T} {R = R} {C = C} k (gives a)
below_gives a = record { at = λ n ts h. omega arith }

taken_short : {T R C A : Type 0} (o : Option A) (s : Result R C) (ts : List T) → IsShort (length ts) (taken o s ts)
taken_short None s ts = tt
taken_short (Some a) (Ok s) ts = omega arith
taken_short (Some a) (Err c) ts = tt

one_short : {T R C A : Type 0} (scan : R → T → Result R C) (pick : T → Option A) (n : R) (ts : List T) → IsShort (length ts) (take_one scan pick n ts)
one_short scan pick n [] = tt
one_short scan pick n (t ∷ ts) = with_more_room (taken (pick t) (scan n t) ts) (length ts) (length (t ∷ ts)) (omega arith) (taken_short (pick t) (scan n t) ts)

pub below_one : {T R C A : Type 0} {k : ℕ} (scan : R → T → Result R C) (pick : T → Option A) → SettlesBelow k (take_one scan pick)
below_one scan pick = record { at = λ n ts h. one_short scan pick n ts }

bound_short : {T R C A B : Type 0} (k : ℕ) (Q : A → Reader T R C B) → ((a : A) → SettlesBelow k (Q a)) → (room : ℕ) → room < k → (r : Read T R C A) → IsShort room r → IsShort room (bound r Q)
bound_short k Q e room h (Ok x) short = with_more_room (Q x.0 x.1 x.2) (length x.2) room short ((e x.0).at x.1 x.2 (omega (arith, h, short)))
bound_short k Q e room h (Err (Unexpected left)) short = tt
bound_short k Q e room h (Err (Refused cause)) short = tt
bound_short k Q e room h (Err OutOfTurns) short = short

pub below_both : {T R C A B : Type 0} {k : ℕ} {P : Reader T R C A} {Q : A → Reader T R C B} → SettlesBelow k P → ((a : A) → SettlesBelow k (Q a)) → SettlesBelow k (both_of P Q)
below_both {k = k} {P = P} {Q = Q} e f = record { at = λ n ts h. bound_short k Q f (length ts) h (P n ts) (e.at n ts h) }

after_taken : {T R C A B : Type 0} (k : ℕ) (Q : A → Reader T R C B) → ((a : A) → SettlesBelow k (Q a)) → (o : Option A) (s : Result R C) (ts : List T) → length ts < k → IsShort (suc (length ts)) (bound (taken o s ts) Q)
after_taken k Q e None s ts h = tt
after_taken k Q e (Some a) (Ok s) ts h = with_more_room (Q a s ts) (length ts) (suc (length ts)) (omega arith) ((e a).at s ts h)
after_taken k Q e (Some a) (Err c) ts h = tt

after_first : {T R C A B : Type 0} (k : ℕ) (scan : R → T → Result R C) (pick : T → Option A) (Q : A → Reader T R C B) → ((a : A) → SettlesBelow k (Q a)) → (n : R) (ts : List T) → length ts < suc k → IsShort (length ts) (bound (take_one scan pick n ts) Q)
after_first k scan pick Q e n [] h = tt
after_first k scan pick Q e n (t ∷ ts) h = after_taken k Q e (pick t) (scan n t) ts (omega (arith, h))

-- what stands behind a token gets a shorter list
pub below_behind_one : {T R C A B : Type 0} {k : ℕ} (scan : R → T → Result R C) (pick : T → Option A) {Q : A → Reader T R C B} → ((a : A) → SettlesBelow k (Q a)) → SettlesBelow (suc k) (both_of (take_one scan pick) Q)
below_behind_one {k = k} scan pick {Q = Q} e = record { at = λ n ts h. after_first k scan pick Q e n ts h }

pub below_if : {T R C A : Type 0} {k : ℕ} (b : Bool) {P Q : Reader T R C A} → SettlesBelow k P → SettlesBelow k Q → SettlesBelow k (if b then P else Q)
below_if true e f = e
below_if false e f = f

if_short : {T R C A : Type 0} (room : ℕ) (b : Bool) (x y : Read T R C A) → IsShort room x → IsShort room y → IsShort room (if b then x else y)
if_short room true x y h k = h
if_short room false x y h k = k

pub below_choose : {T R C A : Type 0} {k : ℕ} (p : T → Bool) {P Q : Reader T R C A} → SettlesBelow k P → SettlesBelow k Q → SettlesBelow k (choose p P Q)
below_choose p {P = P} {Q = Q} e f = record { at = λ n ts h. if_short (length ts) (starts p ts) (P n ts) (Q n ts) (e.at n ts h) (f.at n ts h) }

repeat_below : {T R C A : Type 0} (k : ℕ) (p : T → Bool) (P : Reader T R C A) → SettlesBelow k P → (j : ℕ) → SettlesBelow k (repeat p P j)
repeat_below k p P e zero = below_gives []
repeat_below k p P e (suc j) = below_choose p (below_both e (λ a. below_both (repeat_below k p P e j) (λ rest. below_gives (a ∷ rest)))) (below_gives [])

pub below_all : {T R C A : Type 0} {k : ℕ} (p : T → Bool) {P : Reader T R C A} → SettlesBelow k P → SettlesBelow k (all_of p P)
below_all {k = k} p {P = P} e = record { at = λ n ts h. (repeat_below k p P e (length ts)).at n ts h }

-- Lists.

pub below_further : {R C A : Type 0} {k : ℕ} (scan : R → Lexeme → Result R C) {P : Reader Lexeme R C A} → SettlesBelow k P → (first : A) → SettlesBelow k (read_further scan P first)
unfolding read_further read_next
below_further scan e first = below_both (below_all (is_sign (codes ",")) (below_both (below_one scan (sign (codes ","))) (λ _. e))) (λ rest. below_gives (first ∷ rest))

pub below_listed : {R C A : Type 0} {k : ℕ} (scan : R → Lexeme → Result R C) {P : Reader Lexeme R C A} → SettlesBelow k P → SettlesBelow k (read_listed scan P)
unfolding read_listed
below_listed scan e = below_both e (λ first. below_further scan e first)
