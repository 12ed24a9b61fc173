-- What texts begin with, and the choices that it decides.
use Rattle.std.proofs.Common.{◌≡◌, List, [], ◌∷◌, ◌++◌, Option, Some, Bool, true, false, sym, ◌∙◌, ap, subst, ◌⊎◌, inl, inr, append-nil, append_assoc}
use Rattle.grammar.specs.Grammar.{Grammar, done, one, both, either, many}
use Rattle.grammar.specs.Watch.{Watch}
use Rattle.grammar.specs.Reading.{Reader, gives, choose, starts, both_of}
use Rattle.grammar.proofs.Exact.{Exact, Always, Not, exact_gives, exact_choose, exact_both}

-- each text of G has a first token, of which p is b
pub record Begins {T A : Type 0} (G : Grammar T A) (p : T → Bool) (b : Bool) : Type 0 where
  pub at : (u : List T) (a : A) → G u a → (t : T) × (v : List T) × (u ≡ t ∷ v) × (p t ≡ b)

-- each text of G has a token
pub record HasToken {T A : Type 0} (G : Grammar T A) : Type 0 where
  pub at : (u : List T) (a : A) → G u a → (t : T) × (v : List T) × (u ≡ t ∷ v)

-- a token that pick takes is one of p, or none
pub begins_one : {T A : Type 0} (pick : T → Option A) (p : T → Bool) (b : Bool) → ((t : T) (a : A) → pick t ≡ Some a → p t ≡ b) → Begins (one pick) p b
begins_one pick p b tells = record { at = λ u a (t, is, picks). (t, [], is, tells t a picks) }

begins_both_at : {T A B : Type 0} {G : Grammar T A} (K : A → Grammar T B) (p : T → Bool) (b : Bool) → Begins G p b → (u : List T) (x : B) → both G K u x → (t : T) × (v : List T) × (u ≡ t ∷ v) × (p t ≡ b)
begins_both_at K p b e u x (g, k, a, parts, h, _) = let (t, v, is, tells) = e.at g a h in (t, v ++ k, parts ∙ ap (λ y. y ++ k) is, tells)

pub begins_both : {T A B : Type 0} {G : Grammar T A} {K : A → Grammar T B} {p : T → Bool} {b : Bool} → Begins G p b → Begins (both G K) p b
begins_both {K = K} {p = p} {b = b} e = record { at = begins_both_at K p b e }

begins_either_at : {T A : Type 0} {G H : Grammar T A} (p : T → Bool) (b : Bool) → Begins G p b → Begins H p b → (u : List T) (x : A) → either G H u x → (t : T) × (v : List T) × (u ≡ t ∷ v) × (p t ≡ b)
begins_either_at p b e f u x (inl h) = e.at u x h
begins_either_at p b e f u x (inr h) = f.at u x h

pub begins_either : {T A : Type 0} {G H : Grammar T A} {p : T → Bool} {b : Bool} → Begins G p b → Begins H p b → Begins (either G H) p b
begins_either {p = p} {b = b} e f = record { at = begins_either_at p b e f }

-- an optional text before one that has a first token
pub begins_behind : {T A B : Type 0} {G : Grammar T A} {K : A → Grammar T B} {p : T → Bool} {b : Bool} → ((u : List T) (a : A) → G u a → (u ≡ []) ⊎ ((t : T) × (v : List T) × (u ≡ t ∷ v) × (p t ≡ b))) → ((a : A) → Begins (K a) p b) → Begins (both G K) p b
begins_behind {T = T} {G = G} {K = K} {p = p} {b = b} first_part k = record { at = λ u x (g, w, a, parts, h, l). from g w a parts l (first_part g a h) u } where
  from : (g w : List T) (a : _) {u : List T} {x : _} → u ≡ g ++ w → K a w x → (g ≡ []) ⊎ ((t : T) × (v : List T) × (g ≡ t ∷ v) × (p t ≡ b)) → (_ : List T) → (t : T) × (v : List T) × (u ≡ t ∷ v) × (p t ≡ b)
  from g w a parts l (inl nothing) _ = let (t, v, is, tells) = (k a).at w _ l in (t, v, parts ∙ ap (λ y. y ++ w) nothing ∙ is, tells)
  from g w a parts l (inr (t, v, is, tells)) _ = (t, v ++ w, parts ∙ ap (λ y. y ++ w) is, tells)

-- whether a text and what follows it start so
pub starts_text : {T A : Type 0} {G : Grammar T A} {p : T → Bool} {b : Bool} → Begins G p b → (u : List T) (a : A) (rest : List T) → G u a → starts p (u ++ rest) ≡ b
starts_text {p = p} e u a rest h = let (t, v, is, tells) = e.at u a h in ap (λ x. starts p (x ++ rest)) is ∙ tells

-- two rules of which the first begins with one of these, and the second doesn't
pub exact_or : {T R C A : Type 0} {W : Watch T R C} {G H G' H' : Grammar T A} {P Q : Reader T R C A} {S : List T → Type 0} (p : T → Bool) → Begins H p true → Begins H' p false → Exact W G H P S → Exact W G' H' Q S → Exact W (either G G') (either H H') (choose p P Q) S
exact_or p begins begins' e e' = exact_choose p e e' (λ u a rest h stops. (starts_text begins u a rest h, stops)) (λ u a rest h stops. (starts_text begins' u a rest h, stops))

nothing_starts : {T A : Type 0} (p : T → Bool) (a b : A) (u rest : List T) → done a u b → Not p rest → starts p (u ++ rest) ≡ false
nothing_starts p a b u rest h stops = ap (λ x. starts p (x ++ rest)) h.0 ∙ stops

-- a rule that begins with one of these, or no token, before what doesn't begin so
pub exact_option : {T R C A : Type 0} {W : Watch T R C} {G H : Grammar T A} {P : Reader T R C A} (p : T → Bool) (a : A) → Begins H p true → Exact W G H P Always → Exact W (either G (done a)) (either H (done a)) (choose p P (gives a)) (Not p)
exact_option {W = W} p a begins e = exact_choose p e (exact_gives W a) (λ u b rest h stops. (starts_text begins u b rest h, tt)) (λ u b rest h stops. (nothing_starts p a b u rest h stops, tt))

-- Rules that may go on, before ones that don't begin so.

-- the tree that was made
pub made_is : {T A B : Type 0} (G : Grammar T A) (make : A → B) (u : List T) (b : B) → both G (λ a. done (make a)) u b → (a : A) × G u a
made_is G make u b (v, w, a, parts, h, nothing) = (a, subst (λ x. G x a) (sym (parts ∙ ap (λ x. v ++ x) nothing.0 ∙ append-nil v)) h)

starts_many_at : {T A : Type 0} {G : Grammar T A} (p : T → Bool) → Begins G p false → (list : List A) (v rest : List T) → many G v list → starts p rest ≡ false → starts p (v ++ rest) ≡ false
starts_many_at p begins [] v rest h stops = ap (λ x. starts p (x ++ rest)) h ∙ stops
starts_many_at p begins (a ∷ list) v rest (u, w, parts, h, more) stops = ap (λ x. starts p (x ++ rest)) parts ∙ ap (starts p) (append_assoc u w rest) ∙ starts_text begins u a (w ++ rest) h

-- any number of them, and then what doesn't begin so
pub starts_many : {T A : Type 0} {G : Grammar T A} {p : T → Bool} → Begins G p false → (list : List A) (v rest : List T) → many G v list → starts p rest ≡ false → starts p (v ++ rest) ≡ false
starts_many {p = p} begins list v rest h stops = starts_many_at p begins list v rest h stops

pub exact_before_next : {T R C A B : Type 0} {W : Watch T R C} {G H : Grammar T A} {K L : A → Grammar T B} {P : Reader T R C A} {Q : A → Reader T R C B} {p : T → Bool} {S : List T → Type 0} → Exact W G H P (Not p) → ((a : A) → Exact W (K a) (L a) (Q a) S) → ((a : A) → Begins (L a) p false) → Exact W (both G K) (both H L) (both_of P Q) S
exact_before_next e k begins = exact_both e k (λ a v b rest l stops. starts_text (begins a) v b rest l)

pub has_token : {T A : Type 0} {G : Grammar T A} {p : T → Bool} {b : Bool} → Begins G p b → HasToken G
has_token e = record { at = λ u a h. (let (t, v, is, _) = e.at u a h in (t, v, is)) }

has_either : {T A : Type 0} {G H : Grammar T A} → HasToken G → HasToken H → (u : List T) (a : A) → either G H u a → (t : T) × (v : List T) × (u ≡ t ∷ v)
has_either g h u a (inl e) = g.at u a e
has_either g h u a (inr e) = h.at u a e

pub has_token_either : {T A : Type 0} {G H : Grammar T A} → HasToken G → HasToken H → HasToken (either G H)
has_token_either g h = record { at = has_either g h }

optional_front : {T A : Type 0} {G : Grammar T A} {p : T → Bool} {b : Bool} (x : A) → Begins G p b → (u : List T) (a : A) → either G (done x) u a → (u ≡ []) ⊎ ((t : T) × (v : List T) × (u ≡ t ∷ v) × (p t ≡ b))
optional_front x e u a (inl h) = inr (e.at u a h)
optional_front x e u a (inr h) = inl h.0

-- an optional text that begins so, before one that begins so
pub begins_optional : {T A B : Type 0} {G : Grammar T A} {x : A} {K : A → Grammar T B} {p : T → Bool} {b : Bool} → Begins G p b → ((a : A) → Begins (K a) p b) → Begins (both (either G (done x)) K) p b
begins_optional {x = x} e k = begins_behind (optional_front x e) k
