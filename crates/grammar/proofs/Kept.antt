-- What each tree has that a grammar reads from well-formed tokens.
use Rattle.std.proofs.Common.{◌≡◌, List, [], ◌∷◌, ◌++◌, length, Option, Some, sym, subst, inl, inr}
use Rattle.std.proofs.lemmas.List.Elements.{All-nil, All-cons, All-head, All-take, All-drop}
use Rattle.std.proofs.Math.Seq.{take-append_seam, drop-append_seam}
use Rattle.std.specs.List.{All}
use Rattle.cube_lex.specs.Lexed.{IsWellFormed}
use Rattle.cube_lex.specs.Lexeme.{Lexeme}
use Rattle.grammar.specs.Grammar.{Grammar, done, one, both, either, many}

abbrev pub AreTokens : List Lexeme → Type 0
AreTokens ts = All IsWellFormed ts

-- Two halves of a list of tokens.

pub first_tokens : (u v : List Lexeme) → AreTokens (u ++ v) → AreTokens u
first_tokens u v h = subst AreTokens (take-append_seam u v) (All-take IsWellFormed (length u) (u ++ v) h)

pub last_tokens : (u v : List Lexeme) → AreTokens (u ++ v) → AreTokens v
last_tokens u v h = subst AreTokens (drop-append_seam u v) (All-drop IsWellFormed (length u) (u ++ v) h)

-- each tree that G reads from tokens has P
pub record Keeps {A : Type 0} (G : Grammar Lexeme A) (P : A → Type 0) : Type 0 where
  pub at : (u : List Lexeme) (a : A) → AreTokens u → G u a → P a

pub keeps_any : {A : Type 0} {G : Grammar Lexeme A} → Keeps G (λ _. Unit {0})
keeps_any = record { at = λ u a tokens h. tt }

pub keeps_done : {A : Type 0} {P : A → Type 0} {a : A} → P a → Keeps (done a) P
keeps_done {P = P} p = record { at = λ u b tokens h. subst P (sym h.1) p }

pub keeps_one : {A : Type 0} {pick : Lexeme → Option A} {P : A → Type 0} → ((t : Lexeme) (a : A) → IsWellFormed t → pick t ≡ Some a → P a) → Keeps (one pick) P
keeps_one tells = record { at = λ u a tokens (t, is, picks). tells t a (All-head IsWellFormed t [] (subst AreTokens is tokens)) picks }

pub keeps_both : {A B : Type 0} {G : Grammar Lexeme A} {K : A → Grammar Lexeme B} {P : A → Type 0} {Q : B → Type 0} → Keeps G P → ((a : A) → P a → Keeps (K a) Q) → Keeps (both G K) Q
keeps_both g k = record {
  at = λ u b tokens (v, w, a, parts, h, l). (
      let whole : AreTokens (v ++ w) = subst AreTokens parts tokens in
      (k a (g.at v a (first_tokens v w whole) h)).at w b (last_tokens v w whole) l);
}

keeps_either_at : {A : Type 0} {G H : Grammar Lexeme A} (P : A → Type 0) → Keeps G P → Keeps H P → (u : List Lexeme) (a : A) → AreTokens u → either G H u a → P a
keeps_either_at P g h u a tokens (inl e) = g.at u a tokens e
keeps_either_at P g h u a tokens (inr e) = h.at u a tokens e

pub keeps_either : {A : Type 0} {G H : Grammar Lexeme A} {P : A → Type 0} → Keeps G P → Keeps H P → Keeps (either G H) P
keeps_either {P = P} g h = record { at = keeps_either_at P g h }

keeps_many_at : {A : Type 0} {G : Grammar Lexeme A} (P : A → Type 0) → Keeps G P → (u : List Lexeme) (list : List A) → AreTokens u → many G u list → All P list
keeps_many_at P g u [] tokens h = All-nil P
keeps_many_at P g u (a ∷ rest) tokens (v, w, parts, h, more) =
    let whole : AreTokens (v ++ w) = subst AreTokens parts tokens in
    All-cons P a rest (g.at v a (first_tokens v w whole) h) (keeps_many_at P g w rest (last_tokens v w whole) more)

pub keeps_many : {A : Type 0} {G : Grammar Lexeme A} {P : A → Type 0} → Keeps G P → Keeps (many G) (All P)
keeps_many {P = P} g = record { at = keeps_many_at P g }
