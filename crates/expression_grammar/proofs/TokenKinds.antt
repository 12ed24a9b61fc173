-- The kinds of the tokens that texts begin with.
use Rattle.std.proofs.Common.{◌≡◌, ℕ, List, [], ◌∷◌, Option, Some, Bool, true, ◌&&◌, refl, ap}
use Rattle.std.specs.Result.{result_ok}
use Rattle.std.specs.Str.{bytes_eq}
use Rattle.cube_fixed.specs.Text.{number_of, reading_of}
use Rattle.cube_lex.specs.Lexeme.{Lexeme}
use Rattle.cube_lex.specs.Quoted.{unquoted}
use Rattle.cube_lex.specs.declared.token.Kind.{Kind}
use Rattle.cube_lex.specs.declared.token.Kind.TheVariants as kinds
use Rattle.dim_name.specs.Name.{is_name}
use Rattle.grammar.specs.Grammar.{Grammar, one}
use Rattle.grammar.specs.Tokens.{sign, capital_word, text, name, money, is_sign, is_sign_kind, is_word_kind, is_text_kind, is_number_kind, capitals}
use Rattle.grammar.proofs.Begins.{Begins}
use Rattle.grammar.proofs.Tokens.{when_picks, and_is, money_kind as if_kind}

-- each text of G begins with a token of this kind
pub record HasKind {A : Type 0} (G : Grammar Lexeme A) (k : Kind) : Type 0 where
  pub at : (u : List Lexeme) (a : A) → G u a → (t : Lexeme) × (v : List Lexeme) × (u ≡ t ∷ v) × (t.kind ≡ k)

pub kind_begins : {A : Type 0} {G : Grammar Lexeme A} {k : Kind} (q : Kind → Bool) → HasKind G k → Begins G (λ t. q t.kind) (q k)
kind_begins q e = record { at = λ u a h. (let (t, v, is, kind) = e.at u a h in (t, v, is, ap q kind)) }

pub sign_is : (k : Kind) → is_sign_kind k ≡ true → k ≡ kinds.Sign
sign_is kinds.Word e = cc
sign_is kinds.Number e = cc
sign_is kinds.Text e = cc
sign_is kinds.Sign e = refl

pub word_is : (k : Kind) → is_word_kind k ≡ true → k ≡ kinds.Word
word_is kinds.Word e = refl
word_is kinds.Number e = cc
word_is kinds.Text e = cc
word_is kinds.Sign e = cc

text_is : (k : Kind) → is_text_kind k ≡ true → k ≡ kinds.Text
text_is kinds.Word e = cc
text_is kinds.Number e = cc
text_is kinds.Text e = refl
text_is kinds.Sign e = cc

number_is : (k : Kind) → is_number_kind k ≡ true → k ≡ kinds.Number
number_is kinds.Word e = cc
number_is kinds.Number e = refl
number_is kinds.Text e = cc
number_is kinds.Sign e = cc

pub one_kind : {A : Type 0} (pick : Lexeme → Option A) (k : Kind) → ((t : Lexeme) (a : A) → pick t ≡ Some a → t.kind ≡ k) → HasKind (one pick) k
one_kind pick k tells = record { at = λ u a (t, is, picks). (t, [], is, tells t a picks) }

pub sign_kind : (b : List ℕ) → HasKind (one (sign b)) kinds.Sign
sign_kind b = one_kind (sign b) kinds.Sign (λ t a e. sign_is t.kind (and_is (is_sign_kind t.kind) (bytes_eq t.piece b) (when_picks (is_sign b) (λ _. tt) t a e).0).0)

pub word_kind : HasKind (one capital_word) kinds.Word
word_kind = one_kind capital_word kinds.Word (λ t a e. word_is t.kind (when_picks (λ t. is_word_kind t.kind) (λ t. capitals t.piece) t a e).0)

pub text_kind : HasKind (one text) kinds.Text
text_kind = one_kind text kinds.Text (λ t a e. text_is t.kind (when_picks (λ t. is_text_kind t.kind) (λ t. unquoted t.piece) t a e).0)

pub name_kind : HasKind (one name) kinds.Text
name_kind = one_kind name kinds.Text (λ t a e. text_is t.kind (and_is (is_text_kind t.kind) (is_name (unquoted t.piece)) (when_picks (λ t. is_text_kind t.kind && is_name (unquoted t.piece)) (λ t. unquoted t.piece) t a e).0).0)

pub money_kind : HasKind (one money) kinds.Number
money_kind = one_kind money kinds.Number (λ t a e. number_is t.kind (if_kind (is_number_kind t.kind) (result_ok (reading_of (number_of t.piece))) a e))
