-- Which token a rule asks for.
use Rattle.std.specs.Prelude.{ℕ, ◌^◌, nat_lt, List, Bool, true, false, Option, Some, None, option_map}
use Rattle.std.specs.Prelude.{◌&&◌, not, ◌==◌, if◌then◌else◌, length, map, ℤ}
use Rattle.std.specs.Str.{bytes_eq, str_eq_ignore_ascii_case, is_utf8}
use Rattle.std.specs.Result.{result_ok}
use Rattle.std.specs.Char.{is_ascii_digit, to_ascii_uppercase}
use Rattle.std.specs.List.{list_all}
use Rattle.std.specs.Str.Parse.{digits_value}
use Rattle.cube_lex.specs.Lexeme.{Lexeme}
use Rattle.cube_lex.specs.Positions.{position_of}
use Rattle.cube_lex.specs.Quoted.{unquoted}
use Rattle.cube_lex.specs.declared.position.Position.{Position}
use Rattle.cube_fixed.specs.Text.{number_of, reading_of}
use Rattle.dim_name.specs.Name.{is_name}
use Rattle.cube_lex.specs.declared.token.Kind.{Kind}
use Rattle.cube_lex.specs.declared.token.Kind.TheVariants as kinds

-- a sign, and whether it's this one
abbrev pub is_sign_kind : Kind → Bool
is_sign_kind kinds.Sign = true
is_sign_kind _ = false

abbrev pub is_word_kind : Kind → Bool
is_word_kind kinds.Word = true
is_word_kind _ = false

abbrev pub is_text_kind : Kind → Bool
is_text_kind kinds.Text = true
is_text_kind _ = false

abbrev pub is_number_kind : Kind → Bool
is_number_kind kinds.Number = true
is_number_kind _ = false

-- whether the token is this sign
abbrev pub is_sign : List ℕ → Lexeme → Bool
is_sign sign t = is_sign_kind t.kind && bytes_eq t.piece sign

-- whether the token is this word, in letters of either case
abbrev pub is_word : List ℕ → Lexeme → Bool
is_word word t = is_word_kind t.kind && str_eq_ignore_ascii_case t.piece word

-- the token, if it is one of these, gives this value
abbrev pub when : {T A : Type 0} → (T → Bool) → (T → A) → T → Option A
when p value t = if p t then Some (value t) else None

-- what pick takes, with its place
abbrev pub located : {A : Type 0} → (Lexeme → Option A) → Lexeme → Option (Position × A)
located pick t = option_map (λ a. (position_of t, a)) (pick t)

-- whether it's a word, a number, or a quoted text
abbrev pub is_any_word : Lexeme → Bool
is_any_word t = is_word_kind t.kind

abbrev pub is_number : Lexeme → Bool
is_number t = is_number_kind t.kind

abbrev pub is_text : Lexeme → Bool
is_text t = is_text_kind t.kind

-- this sign
abbrev pub sign : List ℕ → Lexeme → Option (Unit {0})
sign bytes = when (is_sign bytes) (λ _. tt)

-- this word, which gives its place
abbrev pub word : List ℕ → Lexeme → Option Position
word bytes = when (is_word bytes) position_of

-- a quoted text, which gives its bytes
abbrev pub text : Lexeme → Option (List ℕ)
text = when (λ t. is_text_kind t.kind) (λ t. unquoted t.piece)

-- a quoted text that is a name, which gives its bytes
abbrev pub name : Lexeme → Option (List ℕ)
name = when (λ t. is_text_kind t.kind && is_name (unquoted t.piece)) (λ t. unquoted t.piece)

-- whole numbers are below this
abbrev pub whole_end : ℕ
whole_end = 2 ^ 31

-- digits alone, which write a number below the limit
abbrev pub is_whole : List ℕ → Bool
is_whole piece = list_all is_ascii_digit piece && nat_lt (digits_value 10 piece) whole_end

-- a whole number, which gives its value
abbrev pub whole : Lexeme → Option ℕ
whole = when (λ t. is_number_kind t.kind && is_whole t.piece) (λ t. digits_value 10 t.piece)

-- a number that is in range once it is rounded, which gives its millionths
abbrev pub money : Lexeme → Option ℤ
money t = if is_number_kind t.kind then result_ok (reading_of (number_of t.piece)) else None

-- what may name a file: UTF-8, and not empty
abbrev pub is_file : List ℕ → Bool
is_file bytes = not (length bytes == 0) && is_utf8 bytes

-- a quoted text that names a file, which gives its bytes
abbrev pub file : Lexeme → Option (List ℕ)
file = when (λ t. is_text_kind t.kind && is_file (unquoted t.piece)) (λ t. unquoted t.piece)

-- any word, which gives its bytes as they are written
abbrev pub any_word : Lexeme → Option (List ℕ)
any_word = when (λ t. is_word_kind t.kind) (λ t. t.piece)

-- the bytes with a to z as A to Z
abbrev pub capitals : List ℕ → List ℕ
capitals bytes = map to_ascii_uppercase bytes

-- any word, which gives its bytes in capitals
abbrev pub capital_word : Lexeme → Option (List ℕ)
capital_word = when (λ t. is_word_kind t.kind) (λ t. capitals t.piece)
