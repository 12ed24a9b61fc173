-- Behind any parameters another may come: a word that is longer than all of theirs.
use Rattle.std.proofs.Common.{◌≡◌, ◌<◌, ℕ, ◌+◌, List, [], ◌∷◌, length, Bool, true, false, not, Some, None, if◌then◌else◌, refl, ap, arith, replicate}
use Rattle.std.specs.Char.{to_ascii_uppercase}
use Rattle.std.specs.Str.{bytes_eq}
use Rattle.std.proofs.lemmas.Bool.{false_from_ne_true, or_from as none_of_two}
use Rattle.std.proofs.lemmas.List.{length-map, length-replicate}
use Rattle.std.proofs.lemmas.Slice.Eq.{bytes_eq-Decides}
use Rattle.cube_lex.specs.Lexeme.{Lexeme}
use Rattle.cube_lex.specs.declared.token.Kind.TheVariants as kinds
use Rattle.grammar.specs.Grammar.{one}
use Rattle.grammar.specs.Tokens.{capitals}
use Rattle.grammar.specs.Reading.{take_one}
use Rattle.grammar.proofs.Exact.{Exact, Always, exact_one}
use Rattle.user_text.specs.Counting.{count, counting}
use Rattle.user_text.specs.UserText.{is_set, new_variable}
use Rattle.user_text.specs.declared.command.ParamText.{ParamText}

-- as many bytes as all words together
room : List (List ℕ × ParamText) → ℕ
room [] = 0
room (param ∷ params) = length param.0 + room params

other_length : (a b : List ℕ) → length a < length b → bytes_eq a b ≡ false
other_length a b h = false_from_ne_true (bytes_eq a b) (λ e. let same : a ≡ b = (bytes_eq-Decides a b).0 e in absurd (omega (arith, h, ap length same)))

longer_is_new : (before : List (List ℕ × ParamText)) (word : List ℕ) → room before < length word → is_set before word ≡ false
unfolding room
longer_is_new [] word h = refl
longer_is_new (param ∷ params) word h =
    none_of_two (bytes_eq param.0 word) (is_set params word) (other_length param.0 word (omega (arith, h))) (longer_is_new params word (omega (arith, h)))

-- so many _
long : ℕ → List ℕ
long n = 95 ∷ replicate n 95

long_length : (n : ℕ) → n < length (capitals (long n))
unfolding long
long_length n = omega (arith, length-map (95 ∷ replicate n 95) to_ascii_uppercase, length-replicate {A = ℕ} n 95)

taken : (b : Bool) (x : List ℕ) → b ≡ false → (if not b then Some x else None) ≡ Some x
taken true x e = cc
taken false x e = refl

sample : List (List ℕ × ParamText) → Lexeme
sample before = record { kind = kinds.Word; piece = long (room before); start = 0; line = 0 }

sample_comes : (before : List (List ℕ × ParamText)) → new_variable before (sample before) ≡ Some (capitals (long (room before)))
unfolding sample long
sample_comes before = taken (is_set before (capitals (long (room before)))) (capitals (long (room before))) (longer_is_new before (capitals (long (room before))) (long_length (room before)))

pub exact_new_variable : (before : List (List ℕ × ParamText)) → Exact counting (one (new_variable before)) (one (new_variable before)) (take_one count (new_variable before)) Always
exact_new_variable before = exact_one count (new_variable before) (sample before) (capitals (long (room before))) (sample_comes before)
