-- A token that code looks at first, and then takes.
use Rattle.std.proofs.Common.{◌≡◌, List, [], ◌∷◌, length, Option, Some, None, Result, Ok, Err, refl, ◌∙◌, ap}
use Rattle.cube_lex.specs.Lexeme.{Lexeme}
use Rattle.grammar.specs.Cursor.{Gives, any_token}
use Rattle.grammar.specs.Reading.{Unexpected, Read, first, taken, take_one}
use Rattle.grammar.specs.declared.stop.Stop.{Stop}
use Rattle.grammar.specs.declared.stop.Stop.TheVariants as stops

-- what the scan of a token comes to, where a pick takes it
abbrev with_value : {R C A : Type 0} → A → Read Lexeme R C (Unit {0}) → Read Lexeme R C A
with_value a (Ok x) = Ok (a, x.1, x.2)
with_value a (Err halt) = Err halt

taken_with : {R C A : Type 0} (a : A) (r : Result R C) (ts : List Lexeme) → taken (Some a) r ts ≡ with_value a (taken (Some tt) r ts)
taken_with a (Ok s) ts = refl
taken_with a (Err cause) ts = refl

taken_as : {R C A : Type 0} (scan : R → Lexeme → Result R C) (pick : Lexeme → Option A) (s : R) (ts : List Lexeme) (t : Lexeme) (a : A) → Some t ≡ first ts → pick t ≡ Some a → take_one scan pick s ts ≡ with_value a (take_one scan any_token s ts)
taken_as scan pick s [] t a comes picks = cc
taken_as scan pick s (u ∷ ts) t a comes picks =
    let same : u ≡ t = cc comes in
    ap (λ o. taken o (scan s u) ts) (ap pick same ∙ picks) ∙ taken_with a (scan s u) ts

-- the pick takes the token
pub picked : {R C A : Type 0} (scan : R → Lexeme → Result R C) (pick : Lexeme → Option A) (s : R) (ts : List Lexeme) (t : Lexeme) (a : A) (m : R) (rest : List Lexeme) → Some t ≡ first ts → pick t ≡ Some a → take_one scan any_token s ts ≡ Ok (tt, m, rest) → take_one scan pick s ts ≡ Ok (a, m, rest)
picked scan pick s ts t a m rest comes picks read = taken_as scan pick s ts t a comes picks ∙ ap (with_value a) read

-- the pick takes the token, but the watch doesn't let it through
pub picked_stops : {X Y R C A : Type 0} (scan : R → Lexeme → Result R C) (pick : Lexeme → Option A) (view : X → A) (unit : Y → Unit {0}) (s : R) (ts : List Lexeme) (t : Lexeme) (a : A) (m : R) (rest : List Lexeme) (stop : Stop C) → Some t ≡ first ts → pick t ≡ Some a → Gives unit (Err stop) m rest (take_one scan any_token s ts) → Gives view (Err stop) m rest (take_one scan pick s ts)
picked_stops scan pick view unit s ts t a m rest stops.Memory comes picks read = tt
picked_stops scan pick view unit s ts t a m rest (stops.Unexpected left) comes picks read = taken_as scan pick s ts t a comes picks ∙ ap (with_value a) read
picked_stops scan pick view unit s ts t a m rest (stops.Refused cause) comes picks read = taken_as scan pick s ts t a comes picks ∙ ap (with_value a) read

-- the pick doesn't take the token
pub not_picked : {R C A : Type 0} (scan : R → Lexeme → Result R C) (pick : Lexeme → Option A) (s : R) (ts : List Lexeme) (t : Lexeme) → Some t ≡ first ts → pick t ≡ None → take_one scan pick s ts ≡ Err (Unexpected (length ts))
not_picked scan pick s [] t comes none = refl
not_picked scan pick s (u ∷ ts) t comes none =
    let same : u ≡ t = cc comes in
    ap (λ o. taken o (scan s u) ts) (ap pick same ∙ none)
