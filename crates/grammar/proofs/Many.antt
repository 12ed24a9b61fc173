-- Repetition: it is exact, and takes a token in each turn.
use Rattle.std.proofs.Common.{◌≡◌, ℕ, zero, suc, List, [], ◌∷◌, ◌++◌, length, Ok, Err, Bool, true, refl, ap, if◌then◌else◌}
use Rattle.grammar.specs.Grammar.{Grammar, many}
use Rattle.grammar.specs.Watch.{Watch}
use Rattle.grammar.specs.Reading.{Read, Reader, gives, bound, both_of, repeat, all_of, starts}
use Rattle.grammar.specs.After.{many_after, repeat_after}
use Rattle.grammar.proofs.Exact.{Exact, Always, Not, exact_by, exact_same}
use Rattle.grammar.proofs.Begins.{Begins}
use Rattle.grammar.proofs.After.{exact_all_after}
pub use Rattle.grammar.proofs.After.{Shortens, shortens, IsSettled}

many_plain : {T A : Type 0} (G : Grammar T A) (front : List A) (u : List T) (list : List A) → many_after (λ _. G) front u list → many G u list
many_plain G front u [] h = h
many_plain G front u (a ∷ list) (v, w, parts, h, more) = (v, w, parts, h, many_plain G (front ++ a ∷ []) w list more)

plain_many : {T A : Type 0} (G : Grammar T A) (front : List A) (u : List T) (list : List A) → many G u list → many_after (λ _. G) front u list
plain_many G front u [] h = h
plain_many G front u (a ∷ list) (v, w, parts, h, more) = (v, w, parts, h, plain_many G (front ++ a ∷ []) w list more)

plain_turn : {T R C A : Type 0} (p : T → Bool) (P : Reader T R C A) (k : ℕ) (front : List A) → ((a : A) (n : R) (ts : List T) → repeat_after p (λ _. P) k (front ++ a ∷ []) n ts ≡ repeat p P k n ts) → (r : Read T R C A) → bound r (λ a. both_of (repeat_after p (λ _. P) k (front ++ a ∷ [])) (λ rest. gives (a ∷ rest))) ≡ bound r (λ a. both_of (repeat p P k) (λ rest. gives (a ∷ rest)))
plain_turn p P k front before (Ok x) = ap (λ y. bound y (λ rest. gives (x.0 ∷ rest))) (before x.0 x.1 x.2)
plain_turn p P k front before (Err halt) = refl

-- what came before doesn't count
pub plain : {T R C A : Type 0} (p : T → Bool) (P : Reader T R C A) (k : ℕ) (front : List A) (n : R) (ts : List T) → repeat_after p (λ _. P) k front n ts ≡ repeat p P k n ts
plain p P zero front n ts = refl
plain p P (suc k) front n ts = ap (λ x. if starts p ts then x else gives [] n ts) (plain_turn p P k front (λ a. plain p P k (front ++ a ∷ [])) (P n ts))

-- any number of them, where what is repeated may itself go on
pub exact_all : {T R C A : Type 0} {W : Watch T R C} {G H : Grammar T A} {P : Reader T R C A} {S S' : List T → Type 0} (p : T → Bool) (b : Bool) → Begins G p b → Begins H p true → ((rest : List T) → S' rest → Not p rest) → ((list : List A) (v rest : List T) → many H v list → S' rest → S (v ++ rest)) → Exact W G H P S → Exact W (many G) (many H) (all_of p P) S'
exact_all {G = G} {H = H} {P = P} p b begins begins' ends follow e =
    exact_same (λ n ts. plain p P (length ts) [] n ts)
    (exact_by (many_plain G []) (plain_many H [])
    (exact_all_after p b (λ _. begins) (λ _. begins') ends (λ before list v rest h stops. follow list v rest (many_plain H before v list h) stops) (λ _. e) []))

-- any number of them, where each ends by itself
pub exact_rest : {T R C A : Type 0} {W : Watch T R C} {G H : Grammar T A} {P : Reader T R C A} (p : T → Bool) → Begins G p true → Begins H p true → Exact W G H P Always → Exact W (many G) (many H) (all_of p P) (Not p)
exact_rest p begins begins' e = exact_all p true begins begins' (λ rest stops. stops) (λ list v rest h stops. tt) e
