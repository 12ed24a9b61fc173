-- Written tokens that are texts of a grammar wherever they stand.
use Rattle.std.proofs.Common.{◌≡◌, ℕ, List, [], ◌∷◌, ◌++◌, map, true, Option, Some, refl, sym, ap, ◌∙◌, inl, inr, append-nil, append_assoc, codes}
use Rattle.std.proofs.lemmas.Bool.{and_from, cond-true}
use Rattle.std.specs.Str.{bytes_eq}
use Rattle.cube_lex.specs.Lexeme.{Lexeme}
use Rattle.cube_lex.specs.Written.{Spelling, spelling_of, sign_token}
use Rattle.grammar.specs.Grammar.{Grammar, done, one, both, either, many}
use Rattle.grammar.specs.Tokens.{is_sign_kind, is_sign, sign}
use Rattle.grammar.proofs.Spells.{split_at, none_spelled}
use Rattle.grammar.proofs.Tokens.{bytes_eq_self}
use Rattle.expression_grammar.specs.Expression.{from_left, operation, chain, enclosed}
use Rattle.expression_grammar.specs.Language.{Table, operator}
use Rattle.expression_grammar.specs.Spelled.{in_parentheses}
pub use Rattle.expression_grammar.proofs.ExpressionExact.{no_operations as chain_of_one}

-- a first token and more
pub split_next : (ts : List Lexeme) (x : Spelling) (xs : List Spelling) → map spelling_of ts ≡ x ∷ xs → (t : Lexeme) × (v : List Lexeme) × (ts ≡ t ∷ v) × (spelling_of t ≡ x) × (map spelling_of v ≡ xs)
split_next [] x xs e = cc
split_next (t ∷ ts) x xs e =
    let first : spelling_of t ≡ x = cc in
    let rest : map spelling_of ts ≡ xs = cc in
    (t, ts, refl, first, rest)

-- these tokens, wherever they stand, are a text of G with this tree
pub record Spells {A : Type 0} (G : Grammar Lexeme A) (tokens : List Spelling) (a : A) : Type 0 where
  pub at : (ts : List Lexeme) → map spelling_of ts ≡ tokens → G ts a

-- this token, wherever it stands, is one that pick takes, with this value
pub record Picks {A : Type 0} (pick : Lexeme → Option A) (token : Spelling) (a : A) : Type 0 where
  pub at : (t : Lexeme) → spelling_of t ≡ token → pick t ≡ Some a

pub spells_done : {A : Type 0} (a : A) → Spells (done a) [] a
spells_done a = record { at = λ ts e. (none_spelled ts e, refl) }

pub spells_one : {A : Type 0} {pick : Lexeme → Option A} {token : Spelling} {a : A} → Picks pick token a → Spells (one pick) (token ∷ []) a
spells_one {token = token} picks = record {
  at = λ ts e. (
      let (t, v, is, first, rest) = split_next ts token [] e in
      (t, is ∙ ap (λ l. t ∷ l) (none_spelled v rest), picks.at t first));
}

pub spells_both : {A B : Type 0} {G : Grammar Lexeme A} {K : A → Grammar Lexeme B} {xs ys : List Spelling} {a : A} {b : B} → Spells G xs a → Spells (K a) ys b → Spells (both G K) (xs ++ ys) b
spells_both {xs = xs} {ys = ys} {a = a} g k = record {
  at = λ ts e. (
      let (u, v, parts, front, back) = split_at ts xs ys e in
      (u, v, a, parts, g.at u front, k.at v back));
}

-- one token, and then what its value leads to
pub spells_next : {A B : Type 0} {pick : Lexeme → Option A} {K : A → Grammar Lexeme B} {token : Spelling} {ys : List Spelling} {a : A} {b : B} → Picks pick token a → Spells (K a) ys b → Spells (both (one pick) K) (token ∷ ys) b
spells_next {token = token} {ys = ys} picks k = spells_both {xs = token ∷ []} {ys = ys} (spells_one picks) k

-- a text of G, and then the tree that is made of its own
pub spells_made : {A B : Type 0} {G : Grammar Lexeme A} {xs : List Spelling} {a : A} (make : A → B) → Spells G xs a → Spells (both G (λ x. done (make x))) xs (make a)
spells_made {a = a} make g = record { at = λ ts e. (ts, [], a, sym (append-nil ts), g.at ts e, (refl, refl)) }

pub spells_left : {A : Type 0} {G H : Grammar Lexeme A} {tokens : List Spelling} {a : A} → Spells G tokens a → Spells (either G H) tokens a
spells_left g = record { at = λ ts e. inl (g.at ts e) }

pub spells_right : {A : Type 0} {G H : Grammar Lexeme A} {tokens : List Spelling} {a : A} → Spells H tokens a → Spells (either G H) tokens a
spells_right g = record { at = λ ts e. inr (g.at ts e) }

pub spells_in : {A : Type 0} {G H : Grammar Lexeme A} {tokens : List Spelling} {a : A} → ((ts : List Lexeme) → G ts a → H ts a) → Spells G tokens a → Spells H tokens a
spells_in into g = record { at = λ ts e. into ts (g.at ts e) }

-- One token.

pub is_written_sign : (s : List ℕ) (t : Lexeme) → spelling_of t ≡ sign_token s → is_sign s t ≡ true
is_written_sign s t e =
    let kind : is_sign_kind t.kind ≡ true = ap (λ x. is_sign_kind x.kind) e in
    let piece : bytes_eq t.piece s ≡ true = ap (λ x. bytes_eq x.piece s) e ∙ bytes_eq_self s in
    and_from _ _ kind piece

pub picks_sign : (s : List ℕ) → Picks (sign s) (sign_token s) tt
picks_sign s = record { at = λ t e. cond-true _ (Some tt) _ (is_written_sign s t e) }

pub spells_enclosed : {A : Type 0} {G : Grammar Lexeme A} {tokens : List Spelling} {a : A} → Spells G tokens a → Spells (enclosed G) (in_parentheses tokens) a
spells_enclosed {a = a} g = spells_next (picks_sign (codes "(")) (spells_both g (spells_next (picks_sign (codes ")")) (spells_done a)))

-- Chains.

many_more : {A : Type 0} (G : Grammar Lexeme A) (list : List A) (u v : List Lexeme) (a : A) → many G u list → G v a → many G (u ++ v) (list ++ a ∷ [])
many_more G [] u v a h g = (v, [], ap (λ x. x ++ v) h ∙ sym (append-nil v), g, refl)
many_more G (b ∷ list) u v a (x, y, parts, h, more) g = (x, y ++ v, ap (λ l. l ++ v) parts ∙ append_assoc x y v, h, many_more G list y v a more g)

left_more : {A O : Type 0} (joined : O → A → A → A) (head : A) (list : List (O × A)) (o : O) (x : A) → from_left joined head (list ++ (o, x) ∷ []) ≡ joined o (from_left joined head list) x
left_more joined head [] o x = refl
left_more joined head (operation ∷ list) o x = left_more joined (joined operation.0 head operation.1) list o x

-- one more operation behind a chain
pub chain_more : {A O : Type 0} (joined : O → A → A → A) (table : Table O) (operand : Grammar Lexeme A) (u v : List Lexeme) (e x : A) (t : Lexeme) (o : O) → chain joined table operand u e → operator table t ≡ Some o → operand v x
    → chain joined table operand (u ++ t ∷ v) (joined o e x)
chain_more joined table operand u v e x t o (a, b, head, parts, h, (c, d, list, further, more, (nothing, is))) takes g =
    let longer : many (operation table operand) (c ++ t ∷ v) (list ++ (o, x) ∷ []) = many_more (operation table operand) list c (t ∷ v) (o, x) more (t ∷ [], v, o, refl, (t, refl, takes), (v, [], x, sym (append-nil v), g, (refl, refl))) in
    let rest : b ≡ c = further ∙ ap (λ l. c ++ l) nothing ∙ append-nil c in (
      a,
      c ++ t ∷ v,
      head,
      ap (λ l. l ++ t ∷ v) (parts ∙ ap (λ l. a ++ l) rest) ∙ append_assoc a c (t ∷ v),
      h,
      (c ++ t ∷ v, [], list ++ (o, x) ∷ [], sym (append-nil (c ++ t ∷ v)), longer, (refl, ap (λ y. joined o y x) is ∙ sym (left_more joined head list o x))),
    )
