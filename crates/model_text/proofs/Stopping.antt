-- Where parts of a model text stop, the whole stops; and what is left of well-formed tokens is well-formed.
use Rattle.std.proofs.Common.{◌≡◌, ℕ, List, [], ◌∷◌, ◌++◌, true, codes, Bool, Result, Ok, Err, sym, ◌∙◌, ap, subst}
use Rattle.std.specs.List.{All}
use Rattle.cube_lex.specs.Lexeme.{Lexeme}
use Rattle.cube_lex.specs.Lexed.{IsWellFormed}
use Rattle.cube_lex.specs.declared.position.Position.{Position}
use Rattle.grammar.specs.Grammar.{Grammar}
use Rattle.grammar.specs.Watch.{Watch}
use Rattle.grammar.specs.Reading.{Read, Reader, unit_of, gives, bound, inside_result, all_of, starts}
use Rattle.grammar.specs.Cursor.{Gives}
use Rattle.grammar.specs.declared.cursor.Unwatched.{Unwatched}
use Rattle.grammar.specs.declared.stop.Stop.{Stop}
use Rattle.grammar.specs.declared.stop.Stop.TheVariants as stops
use Rattle.grammar.proofs.Exact.{Exact}
use Rattle.grammar.proofs.Loops.{Going, is_stopped}
use Rattle.grammar.proofs.Top.{read_told}
use Rattle.dim_text.specs.Building.{opened}
use Rattle.dim_text.specs.Progress.{Progress}
use Rattle.dim_text.specs.Readers.Reading.{read_body}
use Rattle.dim_text.specs.Readers.Views.{GivesText}
use Rattle.dim_text.specs.declared.fault.Refusal.{Refusal}
use Rattle.grammar.proofs.Kept.{last_tokens}
use Rattle.model_text.specs.Gathering.{Nothing, DimensionBody, Parts, Given, at, gathered}
use Rattle.model_text.specs.Statement.{Piece}
use Rattle.model_text.specs.Watching.{Seen, with_given, with_block, of_block}
use Rattle.model_text.specs.Readers.Reading.{Plain, gather, read_dimension_behind, gather_further_dimensions, read_cube_dimensions, read_dimension_head, read_dimension_body, read_dimension}
use Rattle.model_text.specs.Readers.Views.{Stops, Gathers, GivesPiece, stop_of, seen}
use Rattle.grammar.proofs.Checked.{checked_ok, checked_refused, checked_halt}
use Rattle.model_text.specs.declared.fault.ModelTextFault.{ModelTextFault}

-- what is left behind a text
pub rests : {R C A : Type 0} {W : Watch Lexeme R C} {G : Grammar Lexeme A} {P : Reader Lexeme R C A} {S : List Lexeme → Type 0} → Exact W G G P S → (n : R) (ts : List Lexeme) (a : A) (m : R) (rest : List Lexeme) → P n ts ≡ Ok (a, m, rest) → All IsWellFormed ts → All IsWellFormed rest
rests e n ts a m rest read tokens =
    let (text, parts, is) = read_told e n ts a m rest read in
    last_tokens text rest (subst (λ x. All IsWellFormed x) parts tokens)

pub stops_bound : {R A B : Type 0} (stop : Stop ModelTextFault) (r : Read Lexeme R ModelTextFault A) (K : A → Reader Lexeme R ModelTextFault B) → Stops stop r → Stops stop (bound r K)
stops_bound stops.Memory r K e = tt
stops_bound (stops.Unexpected left) r K e = ap (λ x. bound x K) e
stops_bound (stops.Refused fault) r K e = ap (λ x. bound x K) e

pub stops_outside : {A : Type 0} (s : Seen) (stop : Stop ModelTextFault) (r : Read Lexeme Given ModelTextFault A) → Stops stop r → Stops stop (inside_result (with_given s) (λ fault. fault) r)
stops_outside s stops.Memory r e = tt
stops_outside s (stops.Unexpected left) r e = ap (inside_result (with_given s) (λ fault. fault)) e
stops_outside s (stops.Refused fault) r e = ap (inside_result (with_given s) (λ fault. fault)) e

-- in a loop
pub loop_stops : {R A : Type 0} (p : Lexeme → Bool) (P : Reader Lexeme R ModelTextFault A) (front : List A) (n n0 : R) (ts ts0 : List Lexeme) (stop : Stop ModelTextFault) → Going p P front n ts (all_of p P n0 ts0) → true ≡ starts p ts → Stops stop (P n ts) → Stops stop (unit_of (all_of p P) n0 ts0)
loop_stops p P front n n0 ts ts0 stops.Memory going more e = tt
loop_stops p P front n n0 ts ts0 (stops.Unexpected left) going more e = ap (λ r. bound r (λ _. gives tt)) (is_stopped going (sym more) e)
loop_stops p P front n n0 ts ts0 (stops.Refused fault) going more e = ap (λ r. bound r (λ _. gives tt)) (is_stopped going (sym more) e)

-- The block of a dimension.

pub head_stops : (blocks : List Progress) (parts : Parts) (ts : List Lexeme) (stop : Stop ModelTextFault) → Stops stop (read_dimension_head (at parts Nothing) ts) → Stops stop (read_dimension (seen blocks parts) ts)
unfolding read_dimension
head_stops blocks parts ts stop e = stops_bound stop _ (λ _. read_dimension_body) (stops_outside (seen blocks parts) stop (read_dimension_head (at parts Nothing) ts) e)

behind_head : (blocks : List Progress) (parts : Parts) (ts rest : List Lexeme) (place : Position) (name : List ℕ) → read_dimension_head (at parts Nothing) ts ≡ Ok (tt, at parts (DimensionBody place name), rest) → read_dimension (seen blocks parts) ts ≡ inside_result (with_block (with_given (seen blocks parts) (at parts (DimensionBody place name)))) of_block (read_body (opened place name) rest)
unfolding read_dimension read_dimension_body
behind_head blocks parts ts rest place name head = ap (λ r. bound (inside_result (with_given (seen blocks parts)) (λ fault. fault) r) (λ _. read_dimension_body)) head

body_stop : (s : Seen) (stop : Stop Refusal) (left : List Lexeme) (r : Read Lexeme Progress Refusal (Unit {0})) → GivesText (Err stop) left r → Stops (stop_of stop) (inside_result (with_block s) of_block r)
body_stop s stops.Memory left r e = tt
body_stop s (stops.Unexpected n) left r e = ap (inside_result (with_block s) of_block) e
body_stop s (stops.Refused refusal) left r e = ap (inside_result (with_block s) of_block) e

pub body_stops : (blocks : List Progress) (parts : Parts) (ts rest left : List Lexeme) (place : Position) (name : List ℕ) (stop : Stop Refusal) → read_dimension_head (at parts Nothing) ts ≡ Ok (tt, at parts (DimensionBody place name), rest) → GivesText (Err stop) left (read_body (opened place name) rest) → Stops (stop_of stop) (read_dimension (seen blocks parts) ts)
body_stops blocks parts ts rest left place name stop head e = subst (Stops (stop_of stop)) (sym (behind_head blocks parts ts rest place name head)) (body_stop (with_given (seen blocks parts) (at parts (DimensionBody place name))) stop left (read_body (opened place name) rest) e)

pub block_read : (blocks : List Progress) (parts new : Parts) (ts rest left : List Lexeme) (place : Position) (name : List ℕ) (block : Progress) → read_dimension_head (at parts Nothing) ts ≡ Ok (tt, at parts (DimensionBody place name), rest) → read_body (opened place name) rest ≡ Ok (tt, block, left) → new ≡ record parts { names = parts.names ++ name ∷ [] } → read_dimension (seen blocks parts) ts ≡ Ok (tt, seen (blocks ++ block ∷ []) new, left)
block_read blocks parts new ts rest left place name block head body is = behind_head blocks parts ts rest place name head ∙ ap (inside_result (with_block (with_given (seen blocks parts) (at parts (DimensionBody place name)))) of_block) body ∙ ap (λ x. Ok (tt, seen (blocks ++ block ∷ []) x, left)) (sym is)

-- The dimensions of a cube.

pub dimensions_behind_first : (g h : Given) (ts rest : List Lexeme) (piece : Piece) → gather (read_dimension_behind (codes "(")) g ts ≡ Ok (piece, h, rest) → read_cube_dimensions g ts ≡ gather_further_dimensions h rest
unfolding read_cube_dimensions
dimensions_behind_first g h ts rest piece e = ap (λ r. bound (bound r (λ _. gives tt)) (λ _. gather_further_dimensions)) e

pub first_stops : (g : Given) (ts : List Lexeme) (stop : Stop ModelTextFault) → Stops stop (gather (read_dimension_behind (codes "(")) g ts) → Stops stop (read_cube_dimensions g ts)
unfolding read_cube_dimensions
first_stops g ts stop e = stops_bound stop _ (λ _. gather_further_dimensions) (stops_bound stop (gather (read_dimension_behind (codes "(")) g ts) (λ _. gives tt) e)

-- what was read of a piece is gathered
pub piece_gathers : {X : Type 0} (state : X → Given) (P : Plain Piece) (g : Given) (ts rest : List Lexeme) (x : Piece) (u : Unwatched) (result : Result X (Stop ModelTextFault)) → P (record {}) ts ≡ Ok (x, u, rest) → Gathers state result (gathered g x) → GivesPiece state result rest (gather P g ts)
piece_gathers state P g ts rest x u (Ok y) read e = (x, checked_ok {U = Unwatched} (record {}) gathered P g read e)
piece_gathers state P g ts rest x u (Err stops.Memory) read e = tt
piece_gathers state P g ts rest x u (Err (stops.Unexpected left)) read e = absurd e
piece_gathers state P g ts rest x u (Err (stops.Refused fault)) read e = checked_refused {U = Unwatched} (record {}) gathered P g read e

pub piece_stops : {X : Type 0} (view : X → Piece) (P : Plain Piece) (g : Given) (ts left : List Lexeme) (m : Unwatched) (stop : Stop ModelTextFault) → Gives view (Err stop) m left (P (record {}) ts) → Stops stop (gather P g ts)
piece_stops view P g ts left m stops.Memory e = tt
piece_stops view P g ts left m (stops.Unexpected n) e = checked_halt {U = Unwatched} (record {}) gathered P g e
piece_stops view P g ts left m (stops.Refused fault) e = checked_halt {U = Unwatched} (record {}) gathered P g e
