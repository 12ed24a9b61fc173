-- Texts in which some tokens don't stand, and whose trees weigh no more than there are tokens.
use Rattle.std.proofs.Common.{◌≡◌, ◌≤◌, ◌+◌, ℕ, List, [], ◌∷◌, ◌++◌, length, Option, Some, Bool, false, refl, sym, ap, ◌∙◌, subst, inl, inr, length-append, codes, arith}
use Rattle.std.specs.List.{sum_by}
use Rattle.std.proofs.lemmas.List.Sums.{sum_by-cons}
use Rattle.cube_lex.specs.Lexeme.{Lexeme}
use Rattle.grammar.specs.Grammar.{Grammar, done, one, both, either, many}
use Rattle.grammar.specs.Lists.{next, listed, perhaps_listed}
use Rattle.grammar.specs.Tokens.{sign}
use Rattle.grammar.proofs.Begins.{Begins}

-- none of the tokens is one of these
abbrev pub Lacks : (Lexeme → Bool) → List Lexeme → Type 0
Lacks p [] = Unit {0}
Lacks p (t ∷ ts) = (p t ≡ false) × Lacks p ts

lacks_both : (p : Lexeme → Bool) (u v : List Lexeme) → Lacks p u → Lacks p v → Lacks p (u ++ v)
lacks_both p [] v h k = k
lacks_both p (t ∷ u) v h k = (h.0, lacks_both p u v h.1 k)

lacks_none : (ts : List Lexeme) → Lacks (λ _. false) ts
lacks_none [] = tt
lacks_none (t ∷ ts) = (refl, lacks_none ts)

-- Behind n tokens: no text of G has one of these tokens, and what its tree weighs is at most the number of tokens.
pub record Fits {A : Type 0} (p : Lexeme → Bool) (n : ℕ) (G : Grammar Lexeme A) (w : A → ℕ) : Type 0 where
  pub at : (u : List Lexeme) (a : A) → G u a → (w a ≤ n + length u) × Lacks p u

-- a tree that isn't weighed
abbrev pub Free : {A : Type 0} → (Lexeme → Bool) → Grammar Lexeme A → Type 0
Free p G = Fits p 0 G (λ _. 0)

pub fits_done : {A : Type 0} {p : Lexeme → Bool} {n : ℕ} {a : A} {w : A → ℕ} → w a ≤ n → Fits p n (done a) w
fits_done {p = p} {n = n} {w = w} small = record {
  at = λ u b h. subst (λ z. (w b ≤ n + length z) × Lacks p z) (sym h.0) (omega (arith, small, ap w h.1), tt);
}

-- what a token is that a rule takes
pub taken : {A : Type 0} (p : Lexeme → Bool) (pick : Lexeme → Option A) (b : Bool) (t : Lexeme) (a : A) → Begins (one pick) p b → pick t ≡ Some a → p t ≡ b
taken p pick b t a begins picks =
    let (s, v, is, tells) = begins.at (t ∷ []) a (t, refl, picks) in
    let same : s ≡ t = cc in
    ap p (sym same) ∙ tells

pub fits_one : {A : Type 0} {p : Lexeme → Bool} {n : ℕ} {pick : Lexeme → Option A} {w : A → ℕ} → Begins (one pick) p false → ((a : A) → w a ≤ n + 1) → Fits p n (one pick) w
fits_one {p = p} {n = n} {pick = pick} {w = w} begins small = record {
  at = λ u a (t, is, picks). subst (λ z. (w a ≤ n + length z) × Lacks p z) (sym is) (omega (arith, small a), (taken p pick false t a begins picks, tt));
}

pub fits_both : {A B : Type 0} {p : Lexeme → Bool} {n : ℕ} {G : Grammar Lexeme A} {K : A → Grammar Lexeme B} {w : A → ℕ} {x : B → ℕ} → Fits p n G w → ((a : A) → Fits p (w a) (K a) x) → Fits p n (both G K) x
fits_both {p = p} {n = n} {w = w} {x = x} g k = record {
  at = λ u b (v, r, a, parts, h, l). (
      let (light, lack) = g.at v a h in
      let (more, lacks) = (k a).at r b l in
      subst (λ z. (x b ≤ n + length z) × Lacks p z) (sym parts) (omega (arith, light, more, length-append v r), lacks_both p v r lack lacks));
}

either_at : {A : Type 0} (p : Lexeme → Bool) (n : ℕ) {G H : Grammar Lexeme A} (w : A → ℕ) → Fits p n G w → Fits p n H w → (u : List Lexeme) (a : A) → either G H u a → (w a ≤ n + length u) × Lacks p u
either_at p n w g h u a (inl e) = g.at u a e
either_at p n w g h u a (inr e) = h.at u a e

pub fits_either : {A : Type 0} {p : Lexeme → Bool} {n : ℕ} {G H : Grammar Lexeme A} {w : A → ℕ} → Fits p n G w → Fits p n H w → Fits p n (either G H) w
fits_either {p = p} {n = n} {w = w} g h = record { at = either_at p n w g h }

many_at : {A : Type 0} (p : Lexeme → Bool) {G : Grammar Lexeme A} (w : A → ℕ) → Fits p 0 G w → (u : List Lexeme) (list : List A) → many G u list → (sum_by w list ≤ length u) × Lacks p u
many_at p w g u [] h = subst (λ z. (sum_by w [] ≤ length z) × Lacks p z) (sym h) (omega arith, tt)
many_at p w g u (a ∷ list) (v, r, parts, h, l) =
    let (light, lack) = g.at v a h in
    let (more, lacks) = many_at p w g r list l in
    subst (λ z. (sum_by w (a ∷ list) ≤ length z) × Lacks p z) (sym parts) (omega (arith, light, more, sum_by-cons w a list, length-append v r), lacks_both p v r lack lacks)

pub fits_many : {A : Type 0} {p : Lexeme → Bool} {n : ℕ} {G : Grammar Lexeme A} {w : A → ℕ} → Fits p 0 G w → Fits p n (many G) (λ list. n + sum_by w list)
fits_many {p = p} {n = n} {w = w} g = record { at = λ u list h. (let (light, lack) = many_at p w g u list h in (omega (arith, light), lack)) }

-- behind more tokens, with a tree that weighs less, or whatever tokens there are
pub fits_behind : {A : Type 0} {p : Lexeme → Bool} {G : Grammar Lexeme A} {w : A → ℕ} (n : ℕ) → Fits p 0 G w → Fits p n G (λ a. n + w a)
fits_behind n g = record { at = λ u a h. (let (light, lack) = g.at u a h in (omega (arith, light), lack)) }

pub fits_lighter : {A : Type 0} {p : Lexeme → Bool} {n : ℕ} {G : Grammar Lexeme A} {w x : A → ℕ} → ((a : A) → x a ≤ w a) → Fits p n G w → Fits p n G x
fits_lighter {x = x} less g = record { at = λ u a h. (let (light, lack) = g.at u a h in (omega (arith, light, less a), lack)) }

pub fits_any : {A : Type 0} {p : Lexeme → Bool} {n : ℕ} {G : Grammar Lexeme A} {w : A → ℕ} → Fits p n G w → Fits (λ _. false) n G w
fits_any g = record { at = λ u a h. ((g.at u a h).0, lacks_none u) }

-- Lists with commas.

pub fits_listed : {A : Type 0} {p : Lexeme → Bool} {F G : Grammar Lexeme A} (w : A → ℕ) → Begins (one (sign (codes ","))) p false → Fits p 0 F w → Fits p 0 G w → Fits p 0 (listed F G) (sum_by w)
fits_listed {p = p} {G = G} w comma f g = fits_both f (λ head. fits_both (fits_many {w = w} further) (λ rest. fits_done (omega (arith, sum_by-cons w head rest)))) where
  further : Fits p 0 (next G) w
  further = fits_both (fits_one {w = λ _. 0} comma (λ _. omega arith)) (λ _. g)

pub fits_perhaps : {A : Type 0} {p : Lexeme → Bool} {F G : Grammar Lexeme A} (w : A → ℕ) → Begins (one (sign (codes ","))) p false → Fits p 0 F w → Fits p 0 G w → Fits p 0 (perhaps_listed F G) (sum_by w)
fits_perhaps w comma f g = fits_either (fits_listed w comma f g) (fits_done (omega arith))
