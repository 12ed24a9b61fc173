-- Readers that never use up their turns; the grammars of which each text ends by itself and has one tree.
use Rattle.std.proofs.Common.{◌≡◌, ℕ, zero, suc, List, [], ◌∷◌, ◌++◌, length, sym, ◌∙◌, ap, subst, append-nil, append_assoc, Option, Some, None, Result, Ok, Err, Bool, true, false, if◌then◌else◌}
use Rattle.grammar.specs.Grammar.{Grammar}
use Rattle.grammar.specs.Watch.{each_text, unwatched}
use Rattle.grammar.specs.Reading.{Unexpected, Refused, OutOfTurns, Read, Reader, gives, taken, take_one, bound, both_of, choose, starts, all_of, let_through, checked_result, checked, inside_result, inside, finish, whole}
use Rattle.grammar.proofs.Exact.{Exact, Outcome, Agrees, Always}
use Rattle.grammar.proofs.Begins.{HasToken}
use Rattle.grammar.specs.After.{repeat_after, all_after}
use Rattle.grammar.proofs.Many.{IsSettled, plain}
use Rattle.grammar.proofs.Cuts.{Cuts, no_token}

pub record Settles {T R C A : Type 0} (P : Reader T R C A) : Type 0 where
  pub at : (n : R) (ts : List T) → IsSettled (P n ts)

taken_settles : {T R C A : Type 0} (o : Option A) (s : Result R C) (ts : List T) → IsSettled (taken o s ts)
taken_settles None s ts = tt
taken_settles (Some a) (Ok s) ts = tt
taken_settles (Some a) (Err c) ts = tt

one_settles : {T R C A : Type 0} (scan : R → T → Result R C) (pick : T → Option A) (n : R) (ts : List T) → IsSettled (take_one scan pick n ts)
one_settles scan pick n [] = tt
one_settles scan pick n (t ∷ ts) = taken_settles (pick t) (scan n t) ts

pub settles_one : {T R C A : Type 0} (scan : R → T → Result R C) (pick : T → Option A) → Settles (take_one scan pick)
settles_one scan pick = record { at = one_settles scan pick }

pub settles_gives : {T R C A : Type 0} (a : A) → Settles {T = T} {R = R} {C = C} (gives a)
settles_gives a = record { at = λ n ts. tt }

bound_settles : {T R C A B : Type 0} (Q : A → Reader T R C B) → ((a : A) → Settles (Q a)) → (r : Read T R C A) → IsSettled r → IsSettled (bound r Q)
bound_settles Q k (Ok x) h = (k x.0).at x.1 x.2
bound_settles Q k (Err (Unexpected left)) h = tt
bound_settles Q k (Err (Refused cause)) h = tt
bound_settles Q k (Err OutOfTurns) h = h

pub settles_both : {T R C A B : Type 0} {P : Reader T R C A} {Q : A → Reader T R C B} → Settles P → ((a : A) → Settles (Q a)) → Settles (both_of P Q)
settles_both {P = P} {Q = Q} e k = record { at = λ n ts. bound_settles Q k (P n ts) (e.at n ts) }

if_settles : {T R C A : Type 0} (b : Bool) (x y : Read T R C A) → IsSettled x → IsSettled y → IsSettled (if b then x else y)
if_settles true x y h k = h
if_settles false x y h k = k

pub settles_choose : {T R C A : Type 0} (p : T → Bool) {P Q : Reader T R C A} → Settles P → Settles Q → Settles (choose p P Q)
settles_choose p {P = P} {Q = Q} e k = record { at = λ n ts. if_settles (starts p ts) (P n ts) (Q n ts) (e.at n ts) (k.at n ts) }

turn_settles : {T R C A : Type 0} (p : T → Bool) (P : Reader T R C A) → Settles P → (Q : A → Reader T R C (List A)) → ((a : A) → Settles (Q a)) → Settles (choose p (both_of P (λ a. both_of (Q a) (λ rest. gives (a ∷ rest)))) (gives []))
turn_settles p P e Q k = settles_choose p (settles_both e (λ a. settles_both (k a) (λ rest. settles_gives (a ∷ rest)))) (settles_gives [])

repeat_settles : {T R C A : Type 0} (p : T → Bool) (P : List A → Reader T R C A) → ((before : List A) → Settles (P before)) → (k : ℕ) (front : List A) → Settles (repeat_after p P k front)
repeat_settles p P e zero front = settles_gives []
repeat_settles p P e (suc k) front = turn_settles p (P front) (e front) (λ a. repeat_after p P k (front ++ a ∷ [])) (λ a. repeat_settles p P e k (front ++ a ∷ []))

pub settles_all_after : {T R C A : Type 0} (p : T → Bool) {P : List A → Reader T R C A} → ((before : List A) → Settles (P before)) → (front : List A) → Settles (all_after p P front)
settles_all_after p {P = P} e front = record { at = λ n ts. (repeat_settles p P e (length ts) front).at n ts }

pub settles_all : {T R C A : Type 0} (p : T → Bool) {P : Reader T R C A} → Settles P → Settles (all_of p P)
settles_all p {P = P} e = record { at = λ n ts. subst IsSettled (plain p P (length ts) [] n ts) ((settles_all_after p (λ _. e) []).at n ts) }

through_settles : {T R C A : Type 0} (x : A) (ts : List T) (r : Result R C) → IsSettled (let_through x ts r)
through_settles x ts (Ok s) = tt
through_settles x ts (Err c) = tt

checked_settles : {T U R C A : Type 0} (add : A → Result R C) (r : Read T U C A) → IsSettled r → IsSettled (checked_result add r)
checked_settles add (Ok x) h = through_settles x.0 x.2 (add x.0)
checked_settles add (Err (Unexpected left)) h = tt
checked_settles add (Err (Refused cause)) h = tt
checked_settles add (Err OutOfTurns) h = h

pub settles_checked : {T U R C A : Type 0} (u0 : U) (add : R → A → Result R C) {P : Reader T U C A} → Settles P → Settles (checked u0 add P)
settles_checked u0 add {P = P} e = record { at = λ n ts. checked_settles (add n) (P u0 ts) (e.at u0 ts) }

inside_settles : {T R S C D A : Type 0} (back : R → S) (cause : C → D) (r : Read T R C A) → IsSettled r → IsSettled (inside_result back cause r)
inside_settles back cause (Ok x) h = tt
inside_settles back cause (Err (Unexpected left)) h = tt
inside_settles back cause (Err (Refused c)) h = tt
inside_settles back cause (Err OutOfTurns) h = h

pub settles_inside : {T R S C D A : Type 0} (begin : S → R) (back : S → R → S) (cause : S → C → D) {P : Reader T R C A} → Settles P → Settles (inside begin back cause P)
settles_inside begin back cause {P = P} e = record { at = λ s ts. inside_settles (back s) (cause s) (P (begin s) ts) (e.at (begin s) ts) }

finish_settles : {T R : Type 0} (C : Type 0) (n : R) (ts : List T) → IsSettled {C = C} (finish n ts)
finish_settles C n [] = tt
finish_settles C n (t ∷ ts) = tt

pub settles_whole : {T R C A : Type 0} {P : Reader T R C A} → Settles P → Settles (whole P)
settles_whole {R = R} {C = C} e = settles_both e (λ a. settles_both (record { at = λ n ts. finish_settles C n ts }) (λ _. settles_gives a))

-- Each text of the grammar ends by itself, and has one tree.

pub record EndsItself {T A : Type 0} (G : Grammar T A) : Type 0 where
  pub at : (u w : List T) (x y : A) → G u x → G (u ++ w) y → (w ≡ []) × (x ≡ y)

one_answer : {T R C A : Type 0} {G : Grammar T A} {P : Reader T R C A} → Exact unwatched G G P Always → (n : R) (ts w : List T) (x y : A) (r : Read T R C A) → Outcome G unwatched P n ts r → IsSettled r → Agrees x w r → Agrees y [] r → (w ≡ []) × (x ≡ y)
unfolding Outcome Agrees
one_answer e n ts w x y (Ok z) f s h k = (sym h.1 ∙ k.1, sym h.0 ∙ k.0)
one_answer e n ts w x y (Err (Unexpected left)) f s h k = absurd h
one_answer e n ts w x y (Err (Refused cause)) f s h k = let (t, is, never) = f.refused.refused in absurd (cc never)
one_answer e n ts w x y (Err OutOfTurns) f s h k = absurd s

pub ends_itself : {T R C A : Type 0} {G : Grammar T A} {P : Reader T R C A} → Exact unwatched G G P Always → Settles P → R → EndsItself G
ends_itself {T = T} {R = R} {C = C} {A = A} {G = G} {P = P} e s n = record { at = at } where
  at : (u w : List T) (x y : A) → G u x → G (u ++ w) y → (w ≡ []) × (x ≡ y)
  at u w x y h k =
      let second : Agrees {R = R} {C = C} y [] (P n (u ++ w)) = subst (λ z. Agrees {R = R} {C = C} y [] (P n z)) (append-nil (u ++ w)) (e.complete n (u ++ w) y [] k tt) in
      one_answer e n (u ++ w) w x y (P n (u ++ w)) (e.sound n (u ++ w)) (s.at n (u ++ w)) (e.complete n u x w h tt) second

-- Pieces that are such texts can be cut in one way only.

module _ {T X R C : Type 0} (G : Grammar T X) (add : R → X → Result R C) (ends : EndsItself G) (some : HasToken G) where
  added_once : (r s m : R) (x y : X) → x ≡ y → add r x ≡ Ok s → add r y ≡ Ok m → s ≡ m
  added_once r s m x y e h k = let g : add r x ≡ Ok m = ap (add r) e ∙ k in cc

  caused_once : (r : R) (c d : C) (x y : X) → x ≡ y → add r x ≡ Err c → add r y ≡ Err d → c ≡ d
  caused_once r c d x y e h k = let g : add r x ≡ Err d = ap (add r) e ∙ k in cc

  added_or_refused : (r s : R) (c : C) (x y : X) → x ≡ y → add r x ≡ Ok s → add r y ≡ Err c → ⊥
  added_or_refused r s c x y e h k = let g : add r x ≡ Err c = ap (add r) e ∙ k in cc

  not_begun : (u v more : List T) (t : T) (x y : X) → G u x → G ((u ++ v) ++ t ∷ more) y → ⊥
  not_begun u v more t x y h k =
      let (none, _) = ends.at u (v ++ t ∷ more) x y h (subst (λ z. G z y) (append_assoc u v (t ∷ more)) k) in
      behind v none
    where
      behind : (v : List T) → v ++ t ∷ more ≡ [] → ⊥
      behind [] e = no_token t more (sym e)
      behind (s ∷ v) e = no_token s (v ++ t ∷ more) (sym e)

  pub text_cuts : Cuts (each_text G add)
  text_cuts = record {
    some_pass = λ r s u (x, h, _). some.at u x h;
    some_refuse = λ r u c (x, h, _). some.at u x h;
    pass_pass = λ r s m u v (x, h, p) (y, k, q). let (none, same) = ends.at u v x y h k in (none, added_once r s m x y same p q);
    pass_refuse = λ r s c u v (x, h, p) (y, k, q). let (none, same) = ends.at u v x y h k in added_or_refused r s c x y same p q;
    refuse_pass = λ r s c u v (x, h, p) (y, k, q). let (none, same) = ends.at u v x y h k in added_or_refused r s c y x (sym same) q p;
    refuse_refuse = λ r c d u v (x, h, p) (y, k, q). let (none, same) = ends.at u v x y h k in (none, caused_once r c d x y same p q);
    pass_begin = λ r s u v (x, h, _) (t, more, y, k). not_begun u v more t x y h k;
    refuse_begin = λ r c u v (x, h, _) (t, more, y, k). not_begun u v more t x y h k;
  }
