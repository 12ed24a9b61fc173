-- Tokens that are texts of a grammar wherever they stand.
use Rattle.std.proofs.Common.{◌≡◌, List, [], ◌∷◌, ◌++◌, map, Option, Some, refl, sym, ap, ◌∙◌, inl, inr, append-nil}
use Rattle.std.proofs.lemmas.List.Elements.{All-head, All-tail}
use Rattle.std.specs.List.{All, AllZip, flat_map}
use Rattle.cube_lex.specs.Lexeme.{Lexeme}
use Rattle.cube_lex.specs.Written.{Spelling, spelling_of}
use Rattle.grammar.specs.Grammar.{Grammar, done, one, both, either, many}

-- a list whose image is in two parts
pub split_at : (ts : List Lexeme) (xs ys : List Spelling) → map spelling_of ts ≡ xs ++ ys → (u v : List Lexeme) × (ts ≡ u ++ v) × (map spelling_of u ≡ xs) × (map spelling_of v ≡ ys)
split_at ts [] ys e = ([], ts, refl, refl, e)
split_at [] (x ∷ xs) ys e = cc
split_at (t ∷ ts) (x ∷ xs) ys e =
    let first : spelling_of t ≡ x = cc in
    let rest : map spelling_of ts ≡ xs ++ ys = cc in
    let (u, v, parts, front, back) = split_at ts xs ys rest in
    (t ∷ u, v, ap (λ l. t ∷ l) parts, ap (λ s. s ∷ map spelling_of u) first ∙ ap (λ l. x ∷ l) front, back)

pub none_spelled : (ts : List Lexeme) → map spelling_of ts ≡ [] → ts ≡ []
none_spelled [] e = refl
none_spelled (t ∷ ts) e = cc

-- these tokens, wherever they stand, are a text of G with a tree of which P holds
pub record Spells {A : Type 0} (G : Grammar Lexeme A) (tokens : List Spelling) (P : A → Type 0) : Type 0 where
  pub at : (ts : List Lexeme) → map spelling_of ts ≡ tokens → (a : A) × G ts a × P a

-- this token, wherever it stands, is one that pick takes, with a value of which P holds
pub record Picks {A : Type 0} (pick : Lexeme → Option A) (token : Spelling) (P : A → Type 0) : Type 0 where
  pub at : (t : Lexeme) → spelling_of t ≡ token → (a : A) × (pick t ≡ Some a) × P a

pub spells_done : {A : Type 0} {P : A → Type 0} (a : A) → P a → Spells (done a) [] P
spells_done a p = record { at = λ ts e. (a, (none_spelled ts e, refl), p) }

one_at : {A : Type 0} {pick : Lexeme → Option A} {token : Spelling} (P : A → Type 0) → Picks pick token P → (ts : List Lexeme) → map spelling_of ts ≡ token ∷ [] → (a : A) × one pick ts a × P a
one_at P picks [] e = cc
one_at P picks (t ∷ ts) e =
    let first : spelling_of t ≡ _ = cc in
    let rest : map spelling_of ts ≡ [] = cc in
    let (a, takes, p) = picks.at t first in
    (a, (t, ap (λ l. t ∷ l) (none_spelled ts rest), takes), p)

pub spells_one : {A : Type 0} {pick : Lexeme → Option A} {token : Spelling} {P : A → Type 0} → Picks pick token P → Spells (one pick) (token ∷ []) P
spells_one {P = P} picks = record { at = one_at P picks }

pub spells_both : {A B : Type 0} {G : Grammar Lexeme A} {K : A → Grammar Lexeme B} {xs ys : List Spelling} {P : A → Type 0} {Q : B → Type 0} → Spells G xs P → ((a : A) → P a → Spells (K a) ys Q) → Spells (both G K) (xs ++ ys) Q
spells_both {xs = xs} {ys = ys} g k = record {
  at = λ ts e. (
      let (u, v, parts, front, back) = split_at ts xs ys e in
      let (a, h, p) = g.at u front in
      let (b, l, q) = (k a p).at v back in
      (b, (u, v, a, parts, h, l), q));
}

-- one token, and then what its value leads to
pub spells_next : {A B : Type 0} {pick : Lexeme → Option A} {K : A → Grammar Lexeme B} {token : Spelling} {ys : List Spelling} {P : A → Type 0} {Q : B → Type 0} → Picks pick token P → ((a : A) → P a → Spells (K a) ys Q) → Spells (both (one pick) K) (token ∷ ys) Q
spells_next {token = token} {ys = ys} picks k = spells_both {xs = token ∷ []} {ys = ys} (spells_one picks) k

pub spells_left : {A : Type 0} {G H : Grammar Lexeme A} {tokens : List Spelling} {P : A → Type 0} → Spells G tokens P → Spells (either G H) tokens P
spells_left g = record { at = λ ts e. (let (a, h, p) = g.at ts e in (a, inl h, p)) }

pub spells_right : {A : Type 0} {G H : Grammar Lexeme A} {tokens : List Spelling} {P : A → Type 0} → Spells H tokens P → Spells (either G H) tokens P
spells_right g = record { at = λ ts e. (let (a, h, p) = g.at ts e in (a, inr h, p)) }

-- a text of G, and then the tree that is made of its own
pub spells_made : {A B : Type 0} {G : Grammar Lexeme A} {tokens : List Spelling} {P : A → Type 0} {Q : B → Type 0} (make : A → B) → Spells G tokens P → ((a : A) → P a → Q (make a)) → Spells (both G (λ a. done (make a))) tokens Q
spells_made make g into = record { at = λ ts e. (let (a, h, p) = g.at ts e in (make a, (ts, [], a, sym (append-nil ts), h, (refl, refl)), into a p)) }

pub spells_as : {A : Type 0} {G : Grammar Lexeme A} {tokens : List Spelling} {P Q : A → Type 0} → ((a : A) → P a → Q a) → Spells G tokens P → Spells G tokens Q
spells_as into g = record { at = λ ts e. (let (a, h, p) = g.at ts e in (a, h, into a p)) }

many_at : {X A : Type 0} (G : Grammar Lexeme A) (f : X → List Spelling) (Good : X → Type 0) (P : X → A → Type 0) → ((x : X) → Good x → Spells G (f x) (P x)) → (items : List X) → All Good items
    → (ts : List Lexeme) → map spelling_of ts ≡ flat_map f items → (list : List A) × many G ts list × AllZip P items list
many_at G f Good P each [] good ts e = ([], none_spelled ts e, tt)
many_at G f Good P each (x ∷ items) good ts e =
    let (u, v, parts, front, back) = split_at ts (f x) (flat_map f items) e in
    let (a, h, p) = (each x (All-head Good x items good)).at u front in
    let (list, more, ps) = many_at G f Good P each items (All-tail Good x items good) v back in
    (a ∷ list, (u, v, parts, h, more), (p, ps))

-- item after item
pub spells_many : {X A : Type 0} {G : Grammar Lexeme A} (f : X → List Spelling) (Good : X → Type 0) (P : X → A → Type 0) → ((x : X) → Good x → Spells G (f x) (P x)) → (items : List X) → All Good items
    → Spells (many G) (flat_map f items) (λ list. AllZip P items list)
spells_many {G = G} f Good P each items good = record { at = many_at G f Good P each items good }
