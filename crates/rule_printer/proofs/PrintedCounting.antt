-- What each token of a whole formula counts for, where the formula stands in a rule text.
use Rattle.std.proofs.Common.{◌≡◌, ◌≤◌, ℕ, ◌+◌, ◌-◌, ◌==◌, List, Bool, true, false, Option, Some, None, option_map, Ok, ◌⊎◌, inl, inr, nat_lt, not, ◌&&◌, if◌then◌else◌, refl, ap, ◌∙◌, codes, arith}
use Rattle.std.proofs.lemmas.Bool.{ne_eqb}
use Rattle.std.specs.Result.{result_ok}
use Rattle.std.specs.Str.{bytes_eq}
use Rattle.std.proofs.lemmas.Slice.Eq.{bytes_eq-Decides}
use Rattle.cube_lex.specs.Lexeme.{Lexeme}
use Rattle.cube_lex.specs.declared.token.Kind.{Kind}
use Rattle.cube_lex.specs.declared.token.Kind.TheVariants as kinds
use Rattle.grammar.specs.Tokens.{is_sign_kind, is_sign}
use Rattle.grammar.proofs.Tokens.{and_is}
use Rattle.expression_grammar.specs.Limits.{most_open, most_primaries, begun_within, scanned}
use Rattle.expression_grammar.specs.declared.limits.Limits.{Limits}
use Rattle.expression_grammar.proofs.TokenKinds.{sign_is}
use Rattle.expression_grammar.proofs.PrintedLimits.{opened, Counting}
use Rattle.rule_tree.specs.Counting.{with_token, in_place, moved, count}
use Rattle.rule_tree.specs.declared.counted.Counted.{Counted}
use Rattle.rule_tree.specs.declared.counted.RuleTextPlace.{RuleTextPlace}
use Rattle.rule_tree.specs.declared.counted.RuleTextPlace.TheVariants as places

-- one token, where it isn't refused
abbrev pub step : Counted → Lexeme → Option Counted
step c t = result_ok (count c t)

abbrev pub limits : ℕ → ℕ → Bool → Bool → Limits
limits depth primaries due bracketed = record { depth = depth; primaries = primaries; due = due; bracketed = bracketed }

-- Tokens by their kind and their bytes.

abbrev pub literal : Kind → List ℕ → Lexeme → Lexeme
literal kind piece t = record { kind = kind; piece = piece; start = t.start; line = t.line }

pub sign_literal : (s : List ℕ) (t : Lexeme) → is_sign s t ≡ true → t ≡ literal kinds.Sign s t
sign_literal s t is =
    let (kind, bytes) = and_is (is_sign_kind t.kind) (bytes_eq t.piece s) is in
    ap (λ k. literal k t.piece t) (sign_is t.kind kind) ∙ ap (λ b. literal kinds.Sign b t) ((bytes_eq-Decides t.piece s).0 bytes)

-- a sign that is none of those that parentheses, brackets, lists and formulas end or begin with
pub record IsQuiet (t : Lexeme) : Type 0 where
  pub kind : is_sign_kind t.kind ≡ true
  pub semicolon : bytes_eq t.piece (codes ";") ≡ false
  pub colon : bytes_eq t.piece (codes ":") ≡ false
  pub comma : bytes_eq t.piece (codes ",") ≡ false
  pub opening : bytes_eq t.piece (codes "(") ≡ false
  pub closing : bytes_eq t.piece (codes ")") ≡ false
  pub bracket : bytes_eq t.piece (codes "[") ≡ false
  pub mark : bytes_eq t.piece (codes "!") ≡ false

-- Limits token by token.

quiet_scanned : (t : Lexeme) (d p : ℕ) (due : Bool) → IsQuiet t → scanned (limits d p due false) t ≡ Some (limits d p true false)
quiet_scanned t d p true q = simp (q.kind, q.opening, q.closing, q.bracket, q.mark) refl
quiet_scanned t d p false q = simp (q.kind, q.opening, q.closing, q.bracket, q.mark) refl

-- Where a whole formula stands, inside so many parentheses: whatever isn't the formula's end is counted by its limits.
abbrev pub IsWithin : ℕ → Limits → Lexeme → Type 0
IsWithin base l t = (l.bracketed ≡ true) ⊎ ((is_sign (codes ":") t ≡ false) × ((base + 1 ≤ l.depth) ⊎ ((is_sign (codes ",") t ≡ false) × (is_sign (codes ")") t ≡ false))))

pub record IsPlace (place : Limits → RuleTextPlace) (base : ℕ) : Type 0 where
  pub within : (c : Counted) (l : Limits) (t : Lexeme) → is_sign (codes ";") t ≡ false → IsWithin base l t → count (record c { place = place l }) t ≡ moved c (in_place place (with_token l t))

third_of : {A Q : Type 0} (a b c : Bool) (x y z : A) → a ≡ false → (b ≡ true) ⊎ ((c ≡ false) × Q) → (if a then x else (if not b && c then y else z)) ≡ z
third_of true b c x y z none h = cc
third_of false true c x y z none h = refl
third_of false false true x y z none (inl h) = cc
third_of false false true x y z none (inr h) = let no_sign : true ≡ false = h.0 in cc
third_of false false false x y z none h = refl

past : {A : Type 0} (a : Bool) (x y : A) → a ≡ false → (if a then x else y) ≡ y
past true x y none = cc
past false x y none = refl

last_of : {A Q : Type 0} (e b c d : Bool) (x y z : A) → (b ≡ true) ⊎ (Q × ((e ≡ false) ⊎ ((c ≡ false) × (d ≡ false)))) → (if (e && not b) && c then x else (if (e && not b) && d then y else z)) ≡ z
last_of false b c d x y z h = refl
last_of true true c d x y z h = refl
last_of true false c d x y z (inl h) = cc
last_of true false c d x y z (inr (q, inl h)) = cc
last_of true false c d x y z (inr (q, inr (no_comma, no_end))) = rw (no_comma, no_end) refl

pub formula_place : IsPlace places.Formula 0
unfolding count
formula_place = record { within = at } where
  at : (c : Counted) (l : Limits) (t : Lexeme) → is_sign (codes ";") t ≡ false → IsWithin 0 l t → count (record c { place = places.Formula l }) t ≡ moved c (in_place places.Formula (with_token l t))
  at c l t semicolon h = ap (moved c) (third_of (is_sign (codes ";") t) l.bracketed (is_sign (codes ":") t) (Ok places.Between) (Ok (places.Formula (begun_within 0))) (in_place places.Formula (with_token l t)) semicolon h)

deeper : (l : Limits) (t : Lexeme) → IsWithin 1 l t → (l.bracketed ≡ true) ⊎ ((is_sign (codes ":") t ≡ false) × (((l.depth == 1) ≡ false) ⊎ ((is_sign (codes ",") t ≡ false) × (is_sign (codes ")") t ≡ false))))
deeper l t (inl h) = inl h
deeper l t (inr (colon, inl deep)) = inr (colon, inl (ne_eqb l.depth 1 (λ e. omega (arith, deep, e))))
deeper l t (inr (colon, inr h)) = inr (colon, inr h)

pub argument_place : IsPlace places.Argument 1
unfolding count
argument_place = record { within = at } where
  at : (c : Counted) (l : Limits) (t : Lexeme) → is_sign (codes ";") t ≡ false → IsWithin 1 l t → count (record c { place = places.Argument l }) t ≡ moved c (in_place places.Argument (with_token l t))
  at c l t semicolon h = ap (moved c) (
      past (is_sign (codes ";") t) (Ok places.Between) _ semicolon
      ∙ last_of (l.depth == 1) l.bracketed (is_sign (codes ",") t) (is_sign (codes ")") t) (Ok (places.Argument (begun_within 1))) (Ok places.Targets) (in_place places.Argument (with_token l t)) (deeper l t h))

-- In such a place.

told_so : (place : Limits → RuleTextPlace) (c : Counted) (l : Limits) (t : Lexeme) (o : Option Limits) → scanned l t ≡ o → result_ok (moved c (in_place place (with_token l t))) ≡ option_map (λ m. record c { place = place m }) o
told_so place c l t None e = rw e refl
told_so place c l t (Some m) e = rw e refl

-- within the formula, the limits move on
pub steps_within : (place : Limits → RuleTextPlace) (base : ℕ) → IsPlace place base → (c : Counted) (l : Limits) (t : Lexeme) → is_sign (codes ";") t ≡ false → IsWithin base l t → (o : Option Limits) → scanned l t ≡ o
    → step (record c { place = place l }) t ≡ option_map (λ m. record c { place = place m }) o
steps_within place base is c l t semicolon within o e = ap result_ok (is.within c l t semicolon within) ∙ told_so place c l t o e

quiet_not : (t : Lexeme) (x : List ℕ) → is_sign_kind t.kind ≡ true → bytes_eq t.piece x ≡ false → is_sign x t ≡ false
quiet_not t x kind other = rw (kind, other) refl

no_sign : (t : Lexeme) (x : List ℕ) → is_sign_kind t.kind ≡ false → is_sign x t ≡ false
no_sign t x kind = rw kind refl

-- one more primary, if there is room
abbrev pub if_room : {S : Type 0} → ℕ → S → Option S
if_room p s = if nat_lt p most_primaries then Some s else None

abbrev pub if_shallow : {S : Type 0} → ℕ → S → Option S
if_shallow d s = if nat_lt d most_open then Some s else None

room_first : {A B : Type 0} (f : A → B) (a b : Bool) (x : A) → option_map f (if not a then None else (if b then Some x else None)) ≡ (if a then (if b then Some (f x) else None) else None)
room_first f true true x = refl
room_first f true false x = refl
room_first f false b x = refl

room_alone : {A B : Type 0} (f : A → B) (a : Bool) (x : A) → option_map f (if not a then None else Some x) ≡ (if a then Some (f x) else None)
room_alone f true x = refl
room_alone f false x = refl

shallow_alone : {A B : Type 0} (f : A → B) (a : Bool) (x : A) → option_map f (if a then Some x else None) ≡ (if a then Some (f x) else None)
shallow_alone f true x = refl
shallow_alone f false x = refl

word_scanned : (t : Lexeme) (d p : ℕ) → is_sign_kind t.kind ≡ false → scanned (limits d p true false) t ≡ (if not (nat_lt p most_primaries) then None else Some (limits d (p + 1) false false))
word_scanned t d p kind = simp kind refl

named_scanned : (t : Lexeme) (d p : ℕ) → is_sign_kind t.kind ≡ false → scanned (limits d p false false) t ≡ Some (limits d p false false)
named_scanned t d p kind = simp kind refl

-- In a place where a whole formula stands: the states before an operand, behind one, and in brackets.

abbrev pub due_in : (Limits → RuleTextPlace) → Counted → ℕ → ℕ → Counted
due_in place c d p = record c { place = place (limits d p true false) }

abbrev pub behind_in : (Limits → RuleTextPlace) → Counted → ℕ → ℕ → Counted
behind_in place c d p = record c { place = place (limits d p false false) }

abbrev pub bracketed_in : (Limits → RuleTextPlace) → Counted → ℕ → ℕ → Counted
bracketed_in place c d p = record c { place = place (limits d p false true) }

module _ (place : Limits → RuleTextPlace) (base : ℕ) (is : IsPlace place base) (c : Counted) where
  pub quiet_steps : (t : Lexeme) (d p : ℕ) (due : Bool) → IsQuiet t → step (record c { place = place (limits d p due false) }) t ≡ Some (due_in place c d p)
  quiet_steps t d p due q = steps_within place base is c (limits d p due false) t (quiet_not t (codes ";") q.kind q.semicolon)
      (inr (quiet_not t (codes ":") q.kind q.colon, inr (quiet_not t (codes ",") q.kind q.comma, quiet_not t (codes ")") q.kind q.closing)))
      (Some (limits d p true false)) (quiet_scanned t d p due q)

  -- a sign, by its bytes
  sign_steps : (s : List ℕ) (l : Limits) (t : Lexeme) (o : Option Limits) → is_sign s t ≡ true → is_sign (codes ";") (literal kinds.Sign s t) ≡ false → IsWithin base l (literal kinds.Sign s t) → scanned l (literal kinds.Sign s t) ≡ o
      → step (record c { place = place l }) t ≡ option_map (λ m. record c { place = place m }) o
  sign_steps s l t o is-t semicolon within e =
      ap (step (record c { place = place l })) (sign_literal s t is-t) ∙ steps_within place base is c l (literal kinds.Sign s t) semicolon within o e

  pub opens_step : (t : Lexeme) (d p : ℕ) → is_sign (codes "(") t ≡ true → step (due_in place c d p) t ≡ opened (due_in place c) d p
  opens_step t d p is-t = sign_steps (codes "(") (limits d p true false) t (if not (nat_lt p most_primaries) then None else (if nat_lt d most_open then Some (limits (d + 1) (p + 1) true false) else None)) is-t refl (inr (refl, inr (refl, refl))) refl
      ∙ room_first (λ m. record c { place = place m }) (nat_lt p most_primaries) (nat_lt d most_open) (limits (d + 1) (p + 1) true false)

  pub call_step : (t : Lexeme) (d p : ℕ) → is_sign (codes "(") t ≡ true → step (behind_in place c d p) t ≡ if_shallow d (due_in place c (d + 1) p)
  call_step t d p is-t = sign_steps (codes "(") (limits d p false false) t (if nat_lt d most_open then Some (limits (d + 1) p true false) else None) is-t refl (inr (refl, inr (refl, refl))) refl
      ∙ shallow_alone (λ m. record c { place = place m }) (nat_lt d most_open) (limits (d + 1) p true false)

  less_one : (d : ℕ) → (d + 1) - 1 ≡ d
  less_one d = omega arith

  pub closes_step : (t : Lexeme) (d p : ℕ) (due : Bool) → base ≤ d → is_sign (codes ")") t ≡ true → step (record c { place = place (limits (d + 1) p due false) }) t ≡ Some (behind_in place c d p)
  closes_step t d p true deep is-t = sign_steps (codes ")") (limits (d + 1) p true false) t (Some (limits ((d + 1) - 1) p false false)) is-t refl (inr (refl, inl (omega (arith, deep)))) refl ∙ ap (λ n. Some (behind_in place c n p)) (less_one d)
  closes_step t d p false deep is-t = sign_steps (codes ")") (limits (d + 1) p false false) t (Some (limits ((d + 1) - 1) p false false)) is-t refl (inr (refl, inl (omega (arith, deep)))) refl ∙ ap (λ n. Some (behind_in place c n p)) (less_one d)

  pub comma_step : (t : Lexeme) (d p : ℕ) → base + 1 ≤ d → is_sign (codes ",") t ≡ true → step (behind_in place c d p) t ≡ Some (due_in place c d p)
  comma_step t d p deep is-t = sign_steps (codes ",") (limits d p false false) t (Some (limits d p true false)) is-t refl (inr (refl, inl deep)) refl

  pub mark_step : (t : Lexeme) (d p : ℕ) → is_sign (codes "!") t ≡ true → step (due_in place c d p) t ≡ if_room p (behind_in place c d (p + 1))
  mark_step t d p is-t = sign_steps (codes "!") (limits d p true false) t (if not (nat_lt p most_primaries) then None else Some (limits d (p + 1) false false)) is-t refl (inr (refl, inr (refl, refl))) refl
      ∙ room_alone (λ m. record c { place = place m }) (nat_lt p most_primaries) (limits d (p + 1) false false)

  pub bracket_step : (t : Lexeme) (d p : ℕ) → is_sign (codes "[") t ≡ true → step (due_in place c d p) t ≡ if_room p (bracketed_in place c d (p + 1))
  bracket_step t d p is-t = sign_steps (codes "[") (limits d p true false) t (if not (nat_lt p most_primaries) then None else Some (limits d (p + 1) false true)) is-t refl (inr (refl, inr (refl, refl))) refl
      ∙ room_alone (λ m. record c { place = place m }) (nat_lt p most_primaries) (limits d (p + 1) false true)

  pub unbracket_step : (t : Lexeme) (d p : ℕ) → is_sign (codes "]") t ≡ true → step (bracketed_in place c d p) t ≡ Some (behind_in place c d p)
  unbracket_step t d p is-t = sign_steps (codes "]") (limits d p false true) t (Some (limits d p false false)) is-t refl (inl refl) refl

  -- in brackets nothing is counted
  pub inner_step : (t : Lexeme) (d p : ℕ) → is_sign (codes ";") t ≡ false → is_sign (codes "]") t ≡ false → step (bracketed_in place c d p) t ≡ Some (bracketed_in place c d p)
  inner_step t d p semicolon ends = steps_within place base is c (limits d p false true) t semicolon (inl refl) (Some (limits d p false true)) (ap (λ b. Some (limits d p false (not b))) ends)

  within_word : (l : Limits) (t : Lexeme) → is_sign_kind t.kind ≡ false → IsWithin base l t
  within_word l t kind = inr (no_sign t (codes ":") kind, inr (no_sign t (codes ",") kind, no_sign t (codes ")") kind))

  pub word_step : (t : Lexeme) (d p : ℕ) → is_sign_kind t.kind ≡ false → step (due_in place c d p) t ≡ if_room p (behind_in place c d (p + 1))
  word_step t d p kind = steps_within place base is c (limits d p true false) t (no_sign t (codes ";") kind) (within_word (limits d p true false) t kind) (if not (nat_lt p most_primaries) then None else Some (limits d (p + 1) false false)) (word_scanned t d p kind)
      ∙ room_alone (λ m. record c { place = place m }) (nat_lt p most_primaries) (limits d (p + 1) false false)

  pub named_step : (t : Lexeme) (d p : ℕ) → is_sign_kind t.kind ≡ false → step (behind_in place c d p) t ≡ Some (behind_in place c d p)
  named_step t d p kind = steps_within place base is c (limits d p false false) t (no_sign t (codes ";") kind) (within_word (limits d p false false) t kind) (Some (limits d p false false)) (named_scanned t d p kind)

  abbrev pub formula_counting : Counting
  formula_counting = record {
    State = Counted;
    step = step;
    base = base;
    due = due_in place c;
    behind = behind_in place c;
    Precedes = IsQuiet;
    Joins = IsQuiet;
    before_operand = λ t d p _ q. quiet_steps t d p true q;
    behind_operand = λ t d p _ q. quiet_steps t d p false q;
    opens = λ t d p _ is-t. opens_step t d p is-t;
    closes = λ t d p deep is-t. closes_step t d p false deep is-t;
  }
