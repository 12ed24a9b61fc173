-- Tokens that are taken with their places.
use Rattle.std.proofs.Common.{◌≡◌, ℕ, List, [], ◌∷◌, Option, Some, None, option_map, Result, Ok, Err, ◌∙◌, ap, refl}
use Rattle.cube_lex.specs.Lexeme.{Lexeme}
use Rattle.cube_lex.specs.Positions.{position_of}
use Rattle.cube_lex.specs.declared.position.Position.{Position}
use Rattle.grammar.specs.Cursor.{Gives, next_position}
use Rattle.grammar.specs.Reading.{Stop as ReaderStop, Unexpected, Refused, Read, taken, take_one}
use Rattle.grammar.specs.Tokens.{located}
use Rattle.grammar.specs.declared.stop.Stop.{Stop}
use Rattle.grammar.specs.declared.stop.Stop.TheVariants as stops

-- what was read, with this place
with_place : {T R C A : Type 0} → Position → Read T R C A → Read T R C (Position × A)
with_place place (Ok x) = Ok ((place, x.0), x.1, x.2)
with_place place (Err halt) = Err halt

taken_with : {T R C A : Type 0} (o : Option A) (place : Position) (r : Result R C) (ts : List T) → taken (option_map (λ x. (place, x)) o) r ts ≡ with_place place (taken o r ts)
unfolding with_place
taken_with None place r ts = refl
taken_with (Some a) place (Ok s) ts = refl
taken_with (Some a) place (Err cause) ts = refl

one_with : {R C A : Type 0} (scan : R → Lexeme → Result R C) (pick : Lexeme → Option A) (s : R) (ts : List Lexeme) → take_one scan (located pick) s ts ≡ with_place (next_position ts) (take_one scan pick s ts)
unfolding with_place
one_with scan pick s [] = refl
one_with scan pick s (t ∷ ts) = taken_with (pick t) (position_of t) (scan s t) ts

pub located_taken : {R C A : Type 0} (scan : R → Lexeme → Result R C) (pick : Lexeme → Option A) (s : R) (ts rest : List Lexeme) (place : Position) (a : A) (m : R) → take_one scan pick s ts ≡ Ok (a, m, rest) → place ≡ next_position ts → take_one scan (located pick) s ts ≡ Ok ((place, a), m, rest)
unfolding with_place
located_taken scan pick s ts rest place a m e at = rw at (one_with scan pick s ts ∙ ap (with_place (next_position ts)) e)

located_halt : {R C A : Type 0} (scan : R → Lexeme → Result R C) (pick : Lexeme → Option A) (s : R) (ts : List Lexeme) (halt : ReaderStop C) → take_one scan pick s ts ≡ Err halt → take_one scan (located pick) s ts ≡ Err halt
unfolding with_place
located_halt scan pick s ts halt e = one_with scan pick s ts ∙ ap (with_place (next_position ts)) e

-- where a token isn't taken
pub located_stops : {X Y R C A : Type 0} (view : X → A) (other : Y → Position × A) (scan : R → Lexeme → Result R C) (pick : Lexeme → Option A) (s m n : R) (ts left rest : List Lexeme) (stop : Stop C) → Gives view (Err stop) m left (take_one scan pick s ts) → Gives other (Err stop) n rest (take_one scan (located pick) s ts)
located_stops view other scan pick s m n ts left rest stops.Memory e = tt
located_stops view other scan pick s m n ts left rest (stops.Unexpected k) e = located_halt scan pick s ts (Unexpected k) e
located_stops view other scan pick s m n ts left rest (stops.Refused fault) e = located_halt scan pick s ts (Refused fault) e
