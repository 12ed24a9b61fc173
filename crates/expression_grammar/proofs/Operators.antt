-- What tables of operators tell of a token.
use Rattle.std.proofs.Common.{◌≡◌, ℕ, List, [], ◌∷◌, Some, Bool, true, false, ◌&&◌, ◌||◌, not, if◌then◌else◌, refl, ◌∙◌, ap}
use Rattle.std.specs.List.{list_any}
use Rattle.std.specs.Str.{bytes_eq}
use Rattle.std.proofs.lemmas.Bool.{or_parts, or_right}
use Rattle.std.proofs.lemmas.Slice.Eq.{bytes_eq-Decides}
use Rattle.cube_lex.specs.Lexeme.{Lexeme}
use Rattle.cube_lex.specs.declared.token.Kind.TheVariants as kinds
use Rattle.grammar.specs.Grammar.{Grammar, one}
use Rattle.grammar.specs.Reading.{take_one}
use Rattle.grammar.specs.Tokens.{is_sign_kind, is_sign, sign}
use Rattle.grammar.specs.Watch.{each_token}
use Rattle.grammar.proofs.Exact.{Exact, Always, Not, exact_one}
use Rattle.grammar.proofs.Begins.{Begins, begins_one, begins_both}
use Rattle.grammar.proofs.Tokens.{when_picks, and_is, bytes_eq_self}
use Rattle.expression_grammar.specs.Language.{Table, operator, is_operator}
use Rattle.expression_grammar.specs.Expression.{operation}
use Rattle.expression_grammar.specs.Readers.Reading.{Scanner}
use Rattle.expression_grammar.proofs.Languages.{has_sign, is_sign_of, is_filled, is_apart}

-- of a sign it is told by its bytes
pub sign_tells : (signs : List ℕ → Bool) (a : List ℕ) → Begins (one (sign a)) (is_sign_of signs) (signs a)
sign_tells signs a = begins_one (sign a) (is_sign_of signs) (signs a) (λ t x e.
    let (is, _) = when_picks (is_sign a) (λ _. tt) t x e in
    let (kind, bytes) = and_is (is_sign_kind t.kind) (bytes_eq t.piece a) is in
    ap (λ b. b && signs t.piece) kind ∙ ap signs ((bytes_eq-Decides t.piece a).0 bytes))

-- the token is a sign, and this is a sign of the table
abbrev IsSignIn : {O : Type 0} → Table O → Lexeme → Type 0
IsSignIn table t = (is_sign_kind t.kind ≡ true) × (has_sign table t.piece ≡ true)

sign_in : {O : Type 0} (entry : List ℕ × O) (table : Table O) (t : Lexeme) (o : O) (b : Bool) → is_sign entry.0 t ≡ b → (operator table t ≡ Some o → IsSignIn table t) → (if b then Some entry.1 else operator table t) ≡ Some o → IsSignIn (entry ∷ table) t
sign_in entry table t o true is later e = let (kind, bytes) = and_is (is_sign_kind t.kind) (bytes_eq t.piece entry.0) is in (kind, ap (λ b. b || has_sign table t.piece) bytes)
sign_in entry table t o false is later e = let (kind, more) = later e in (kind, or_right (bytes_eq t.piece entry.0) (has_sign table t.piece) more)

operator_sign : {O : Type 0} (table : Table O) (t : Lexeme) (o : O) → operator table t ≡ Some o → IsSignIn table t
operator_sign [] t o e = cc
operator_sign (entry ∷ table) t o e = sign_in entry table t o (is_sign entry.0 t) refl (operator_sign table t o) e

is_operator_of : {O : Type 0} (table : Table O) (t : Lexeme) (b : Bool) → is_sign_kind t.kind ≡ b → is_operator table t ≡ (b && has_sign table t.piece)
is_operator_of [] t true kind = refl
is_operator_of [] t false kind = refl
is_operator_of (entry ∷ table) t true kind = ap (λ b. (b && bytes_eq t.piece entry.0) || is_operator table t) kind ∙ ap (λ b. bytes_eq t.piece entry.0 || b) (is_operator_of table t true kind)
is_operator_of (entry ∷ table) t false kind = ap (λ b. (b && bytes_eq t.piece entry.0) || is_operator table t) kind ∙ is_operator_of table t false kind

-- a table is told by its signs
pub operator_is : {O : Type 0} (table : Table O) (t : Lexeme) → is_operator table t ≡ is_sign_of (has_sign table) t
operator_is table t = is_operator_of table t (is_sign_kind t.kind) refl

picked_is_operator : {O : Type 0} (table : Table O) (t : Lexeme) (o : O) → operator table t ≡ Some o → is_operator table t ≡ true
picked_is_operator table t o e = let (kind, bytes) = operator_sign table t o e in operator_is table t ∙ ap (λ b. b && has_sign table t.piece) kind ∙ bytes

or_none : (a b : Bool) → not (a || b) ≡ true → (a ≡ false) × (not b ≡ true)
or_none true b e = cc
or_none false b e = (refl, e)

none_at : {O : Type 0} (signs : List ℕ → Bool) (entry : List ℕ × O) (table : Table O) (piece : List ℕ) (b : Bool) → bytes_eq piece entry.0 ≡ b → is_apart signs (entry ∷ table) ≡ true → (is_apart signs table ≡ true → has_sign table piece ≡ true → signs piece ≡ false) → (b || has_sign table piece) ≡ true → signs piece ≡ false
none_at signs entry table piece true is apart later e = ap signs ((bytes_eq-Decides piece entry.0).0 is) ∙ (or_none (signs entry.0) (list_any (λ other. signs other.0) table) apart).0
none_at signs entry table piece false is apart later e = later (or_none (signs entry.0) (list_any (λ other. signs other.0) table) apart).1 e

none_of : {O : Type 0} (signs : List ℕ → Bool) (table : Table O) (piece : List ℕ) → is_apart signs table ≡ true → has_sign table piece ≡ true → signs piece ≡ false
none_of signs [] piece apart e = cc
none_of signs (entry ∷ table) piece apart e = none_at signs entry table piece (bytes_eq piece entry.0) refl apart (none_of signs table piece) e

-- an operator of a table that is apart from these signs
apart_tells : {O : Type 0} (signs : List ℕ → Bool) (table : Table O) (t : Lexeme) (o : O) → is_apart signs table ≡ true → operator table t ≡ Some o → is_sign_of signs t ≡ false
apart_tells signs table t o apart e =
    let (kind, bytes) = operator_sign table t o e in
    ap (λ b. b && signs t.piece) kind ∙ none_of signs table t.piece apart bytes

pub operator_begins : {O : Type 0} (table : Table O) → Begins (one (operator table)) (is_operator table) true
operator_begins table = begins_one (operator table) (is_operator table) true (picked_is_operator table)

pub operation_begins : {O A : Type 0} (table : Table O) (G : Grammar Lexeme A) → Begins (operation table G) (is_operator table) true
operation_begins table G = begins_both (operator_begins table)

pub operator_apart : {O : Type 0} (signs : List ℕ → Bool) (table : Table O) → is_apart signs table ≡ true → Begins (one (operator table)) (is_sign_of signs) false
operator_apart signs table apart = begins_one (operator table) (is_sign_of signs) false (λ t o e. apart_tells signs table t o apart e)

pub operation_apart : {O A : Type 0} (signs : List ℕ → Bool) (table : Table O) (G : Grammar Lexeme A) → is_apart signs table ≡ true → Begins (operation table G) (is_sign_of signs) false
operation_apart signs table G apart = begins_both (operator_apart signs table apart)

-- a table with an operator
pub exact_operator : {O R C : Type 0} (scan : Scanner R C) (table : Table O) → is_filled table ≡ true → Exact (each_token scan) (one (operator table)) (one (operator table)) (take_one scan (operator table)) Always
exact_operator scan [] filled = cc
exact_operator scan (entry ∷ table) filled = exact_one scan (operator (entry ∷ table)) (record { kind = kinds.Sign; piece = entry.0; start = 0; line = 0 }) entry.1
    (ap (λ b. if b then Some entry.1 else operator table (record { kind = kinds.Sign; piece = entry.0; start = 0; line = 0 })) (bytes_eq_self entry.0))

and_fewer : (a b c : Bool) → (b ≡ false → c ≡ false) → (a && b) ≡ false → (a && c) ≡ false
and_fewer true b c fewer e = fewer e
and_fewer false b c fewer e = refl

-- Before what is neither one of these signs nor an operator.

abbrev pub more_signs : {O : Type 0} → (List ℕ → Bool) → Table O → List ℕ → Bool
more_signs signs table sign = signs sign || has_sign table sign

pub not_signs : {O : Type 0} (signs : List ℕ → Bool) (table : Table O) (rest : List Lexeme) → Not (is_sign_of (more_signs signs table)) rest → Not (is_sign_of signs) rest
not_signs signs table [] stops = refl
not_signs signs table (t ∷ rest) stops = and_fewer (is_sign_kind t.kind) (more_signs signs table t.piece) (signs t.piece) (λ none. (or_parts (signs t.piece) (has_sign table t.piece) none).0) stops

pub not_operator : {O : Type 0} (signs : List ℕ → Bool) (table : Table O) (rest : List Lexeme) → Not (is_sign_of (more_signs signs table)) rest → Not (is_operator table) rest
not_operator signs table [] stops = refl
not_operator signs table (t ∷ rest) stops = operator_is table t ∙ and_fewer (is_sign_kind t.kind) (more_signs signs table t.piece) (has_sign table t.piece) (λ none. (or_parts (signs t.piece) (has_sign table t.piece) none).1) stops
