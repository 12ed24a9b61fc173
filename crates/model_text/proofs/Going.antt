-- Tokens that are a text of a grammar wherever they stand, and that pass the watch.
use Rattle.std.proofs.Common.{◌≡◌, List, [], ◌∷◌, ◌++◌, map, Ok, refl, sym, ap, ◌∙◌, subst, inl, append_assoc, append-nil}
use Rattle.std.specs.List.{flat_map}
use Rattle.cube_lex.specs.Lexeme.{Lexeme}
use Rattle.cube_lex.specs.Written.{Spelling, spelling_of}
use Rattle.grammar.specs.Grammar.{Grammar, both, many}
use Rattle.grammar.specs.Watch.{Passes}
use Rattle.grammar.proofs.Exact.{passes_nothing, passes-append, passes_one}
use Rattle.dim_text.specs.Statement.{unit}
use Rattle.grammar.proofs.Spells.{Spells, split_at, none_spelled}
use Rattle.model_text.specs.Gathering.{Given, gathered}
use Rattle.model_text.specs.Statement.{Piece, piece}
use Rattle.model_text.specs.Watching.{Seen, with_given, added, watching}

-- these tokens, wherever they stand, are a text of G that passes from this state to one that is told, of which P holds
pub record Goes {A E : Type 0} (G : Grammar Lexeme A) (tokens : List Spelling) (from : Seen) (state : E → Seen) (P : E → Type 0) : Type 0 where
  pub at : (ts : List Lexeme) → map spelling_of ts ≡ tokens → (a : A) × (e : E) × G ts a × Passes watching from ts (state e) × P e

-- a piece that is let through
pub goes_piece : {E : Type 0} {G : Grammar Lexeme Piece} {tokens : List Spelling} {Q : Piece → Type 0} {P : E → Type 0} (from : Seen) (given : E → Given)
    → ((u : List Lexeme) (x : Piece) → G u x → piece u x) → Spells G tokens Q → ((x : Piece) → Q x → (e : E) × (gathered from.given x ≡ Ok (given e)) × P e) → Goes G tokens from (λ e. with_given from (given e)) P
goes_piece from given into spells step = record {
  at = λ ts is. (
      let (x, h, q) = spells.at ts is in
      let (e, lets, p) = step x q in
      (x, e, h, passes_one watching from (with_given from (given e)) ts (inl (x, into ts x h, ap (added from) lets)), p));
}

-- a text of one, and then one of the other
pub goes_both : {A B E F : Type 0} {G : Grammar Lexeme A} {K : Grammar Lexeme B} {xs ys : List Spelling} {from : Seen} {between : E → Seen} {to : F → Seen} {P : E → Type 0} {Q : F → Type 0}
    → Goes G xs from between P → ((e : E) → P e → Goes K ys (between e) to Q) → Goes (both G (λ _. K)) (xs ++ ys) from to Q
goes_both {xs = xs} {ys = ys} {from = from} {between = between} {to = to} g k = record {
  at = λ ts is. (
      let (u, v, parts, front, back) = split_at ts xs ys is in
      let (a, e, h, first, p) = g.at u front in
      let (b, f, l, second, q) = (k e p).at v back in
      (b, f, (u, v, a, parts, h, l), subst (λ w. Passes watching from w (to f)) (sym parts) (passes-append watching from (between e) (to f) u v first second), q));
}

-- a text whose tree is known, and then one of what it leads to
pub goes_behind : {A B F : Type 0} {G : Grammar Lexeme A} {K : A → Grammar Lexeme B} {xs ys : List Spelling} {from between : Seen} {to : F → Seen} {Q : F → Type 0} (a : A)
    → ((ts : List Lexeme) → map spelling_of ts ≡ xs → G ts a × Passes watching from ts between) → Goes (K a) ys between to Q → Goes (both G K) (xs ++ ys) from to Q
goes_behind {xs = xs} {ys = ys} {from = from} {between = between} {to = to} a g k = record {
  at = λ ts is. (
      let (u, v, parts, front, back) = split_at ts xs ys is in
      let (h, first) = g u front in
      let (b, f, l, second, q) = k.at v back in
      (b, f, (u, v, a, parts, h, l), subst (λ w. Passes watching from w (to f)) (sym parts) (passes-append watching from between (to f) u v first second), q));
}

-- the tree isn't kept
pub goes_unit : {A E : Type 0} {G : Grammar Lexeme A} {tokens : List Spelling} {from : Seen} {to : E → Seen} {P : E → Type 0} → Goes G tokens from to P → Goes (unit G) tokens from to P
goes_unit g = record { at = λ ts is. (let (a, e, h, passes, p) = g.at ts is in (tt, e, (ts, [], a, sym (append-nil ts), h, (refl, refl)), passes, p)) }

-- what is told in other words
pub goes_as : {A E F : Type 0} {G : Grammar Lexeme A} {tokens : List Spelling} {from : Seen} {to : E → Seen} {after : F → Seen} {P : E → Type 0} {Q : F → Type 0}
    → ((e : E) → P e → (f : F) × (to e ≡ after f) × Q f) → Goes G tokens from to P → Goes G tokens from after Q
goes_as {from = from} into g = record {
  at = λ ts is. (
      let (a, e, h, passes, p) = g.at ts is in
      let (f, same, q) = into e p in
      (a, f, h, subst (Passes watching from ts) same passes, q));
}

module _ {X A E : Type 0} (G : Grammar Lexeme A) (f : X → List Spelling) (state : E → Seen) (P : List X → E → Type 0) (all : List X)
    (each : (front rest : List X) (x : X) → all ≡ front ++ x ∷ rest → (e : E) → P front e → Goes G (f x) (state e) state (P (front ++ x ∷ []))) where
  many_at : (rest front : List X) → all ≡ front ++ rest → (e : E) → P front e
      → (ts : List Lexeme) → map spelling_of ts ≡ flat_map f rest → (list : List A) × (last : E) × many G ts list × Passes watching (state e) ts (state last) × P all last
  many_at [] front parts e p ts is =
      ([], e, none_spelled ts is, subst (λ w. Passes watching (state e) w (state e)) (sym (none_spelled ts is)) (passes_nothing watching (state e)), subst (λ l. P l e) (sym (parts ∙ append-nil front)) p)
  many_at (x ∷ rest) front parts e p ts is =
      let (u, v, split, here, back) = split_at ts (f x) (flat_map f rest) is in
      let (a, next, h, first, q) = (each front rest x parts e p).at u here in
      let (list, last, more, further, r) = many_at rest (front ++ x ∷ []) (parts ∙ sym (append_assoc front (x ∷ []) rest)) next q v back in
      (a ∷ list, last, (u, v, split, h, more), subst (λ w. Passes watching (state e) w (state last)) (sym split) (passes-append watching (state e) (state next) (state last) u v first further), r)

  -- text after text
  pub goes_many : (e : E) → P [] e → Goes (many G) (flat_map f all) (state e) state (P all)
  goes_many e p = record { at = many_at all [] refl e p }
