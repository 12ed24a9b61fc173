-- The reader of a model text never uses up its turns.
use Rattle.std.proofs.Common.{◌≡◌, ℕ, List, Some, Bool, true, false, Result, Ok, Err, codes, refl, sym, subst}
use Rattle.cube_lex.specs.Lexeme.{Lexeme}
use Rattle.cube_lex.specs.declared.position.Position.{Position}
use Rattle.grammar.specs.Watch.{unscanned}
use Rattle.grammar.specs.Reading.{Unexpected, Refused, OutOfTurns, Read, Reader, unit_of, gives, bound, take_one, let_through, checked_result, inside_result}
use Rattle.grammar.specs.Tokens.{sign, word, name, located, is_sign, is_word}
use Rattle.grammar.specs.declared.cursor.Unwatched.{Unwatched}
use Rattle.grammar.proofs.Many.{IsSettled}
use Rattle.grammar.proofs.Settles.{Settles, settles_gives, settles_both, settles_all, settles_checked, settles_inside}
use Rattle.dim_text.specs.Progress.{Progress}
use Rattle.dim_text.specs.Building.{opened, add}
use Rattle.dim_text.specs.Readers.Reading.{read_elements, read_ending, read_closing, read_body, is_element_word}
use Rattle.dim_text.specs.declared.fault.Refusal.{Refusal}
use Rattle.dim_text.proofs.OneReading.{element_settles, end_settles, close_settles}
use Rattle.model_text.specs.Statement.{Piece, DimensionWord, QuotedText, Closing, has_totals, number_of}
use Rattle.model_text.specs.Gathering.{Current, DimensionDue, DimensionOpen, Parts, Given, at, unless, has_dimension, dimensions_are_full, with_text, closed, gathered}
use Rattle.model_text.specs.Watching.{Seen, with_given, head_of, with_block, of_block}
use Rattle.model_text.specs.Readers.Reading as model
use Rattle.model_text.specs.Readers.Reading.{Plain, gather, outside, body_from, read_dimension_word, read_naming, gather_version, gather_closing, gather_dimension_word, gather_cube_word, gather_script_word, gather_naming, gather_further_dimensions, gather_cube_end, read_opening, read_dimension_head, read_cube_head, read_cube_dimensions, read_cube, read_script, read_cubes, read_scripts, read_dimension_body, read_dimension, read_dimensions, read_model}
use Rattle.model_text.specs.declared.fault.ModelTextFault.{ModelTextFault}
use Rattle.model_text.specs.declared.fault.ModelTextCause.{ModelTextCause}
use Rattle.model_text.specs.declared.fault.ModelTextCause.TheVariants as causes
use Rattle.text_laws.proofs.ModelPieces.{version_settles, closing_settles, dimension_word_settles, cube_word_settles, script_word_settles, naming_settles, script_file_settles, dimension_behind_settles, cube_end_settles}

-- Outside of bodies.

gathers : {P : Plain Piece} → Settles P → Settles (gather P)
gathers e = settles_checked (record {}) gathered e

units : {R A : Type 0} {P : Reader Lexeme R ModelTextFault A} → Settles P → Settles (unit_of P)
units e = settles_both e (λ _. settles_gives tt)

opening_settles : Settles read_opening
unfolding read_opening gather_version
opening_settles = settles_both (settles_both (gathers version_settles) (λ p. settles_gives (number_of p))) (λ number. settles_both (units (gathers closing_settles)) (λ _. settles_gives number))

head_settles : Settles read_dimension_head
unfolding read_dimension_head gather_dimension_word gather_naming
head_settles = settles_both (units (gathers dimension_word_settles)) (λ _. settles_both (units (gathers naming_settles)) (λ _. units (gathers closing_settles)))

cube_head_settles : Settles read_cube_head
unfolding read_cube_head gather_cube_word gather_naming
cube_head_settles = settles_both (units (gathers cube_word_settles)) (λ _. units (gathers naming_settles))

cube_dimensions_settles : Settles read_cube_dimensions
unfolding read_cube_dimensions gather_further_dimensions
cube_dimensions_settles = settles_both (units (gathers (dimension_behind_settles (codes "(")))) (λ _. units (settles_all (is_sign (codes ",")) (gathers (dimension_behind_settles (codes ",")))))

cube_settles : (totals : Bool) → Settles (read_cube totals)
unfolding read_cube gather_cube_end
cube_settles totals = settles_both cube_head_settles (λ _. settles_both cube_dimensions_settles (λ _. units (gathers (cube_end_settles totals))))

script_settles : Settles read_script
unfolding read_script gather_script_word gather_naming
script_settles = settles_both (units (gathers script_word_settles)) (λ _. settles_both (units (gathers naming_settles)) (λ _. settles_both (units (gathers script_file_settles)) (λ _. units (gathers closing_settles))))

cubes_settle : (totals : Bool) → Settles (read_cubes totals)
unfolding read_cubes
cubes_settle totals = units (settles_all (is_word (codes "CUBE")) (cube_settles totals))

scripts_settle : Settles read_scripts
unfolding read_scripts
scripts_settle = units (settles_all (is_word (codes "SCRIPT")) script_settles)

outside_settles : {A : Type 0} {P : Reader Lexeme Given ModelTextFault A} → Settles P → Settles (outside P)
outside_settles e = settles_inside (λ s. s.given) with_given (λ s fault. fault) e

-- A body.

elements_settle : Settles read_elements
unfolding read_elements
elements_settle = settles_both (settles_all is_element_word (settles_checked (record {}) add element_settles)) (λ _. settles_gives tt)

body_settles : Settles read_body
unfolding read_body read_ending read_closing
body_settles = settles_both elements_settle (λ _. settles_both (settles_both (settles_checked (record {}) add end_settles) (λ _. settles_gives tt)) (λ _. settles_both (settles_checked (record {}) add close_settles) (λ _. settles_gives tt)))

inside_settled : (s : Seen) (r : Read Lexeme Progress Refusal (Unit {0})) → IsSettled r → IsSettled (inside_result (with_block s) of_block r)
inside_settled s (Ok x) h = tt
inside_settled s (Err (Unexpected left)) h = tt
inside_settled s (Err (Refused cause)) h = tt
inside_settled s (Err OutOfTurns) h = h

-- behind the head of a dimension
IsBody : Given → Type 0
IsBody g = (start : Progress) × (head_of g.current ≡ Some start)

IsOpen : Given → Type 0
IsOpen g = (place : Position) × (shown : List ℕ) × (g.current ≡ DimensionOpen place shown)

IsDue : Given → Type 0
IsDue g = (place : Position) × (g.current ≡ DimensionDue place)

body_from_settles : (s : Seen) (ts : List Lexeme) → IsBody s.given → IsSettled (read_dimension_body s ts)
unfolding read_dimension_body IsBody
body_from_settles s ts (start, is) = subst (λ o. IsSettled (body_from o s ts)) (sym is) (inside_settled s (read_body start ts) (body_settles.at start ts))

-- The state that the head leaves.

abbrev Leaves : {A : Type 0} → (Given → Type 0) → Read Lexeme Given ModelTextFault A → Type 0
Leaves Q (Ok x) = Q x.1
Leaves Q (Err halt) = Unit {0}

abbrev Then : (Given → Type 0) → Result Given ModelTextFault → Type 0
Then Q (Ok g) = Q g
Then Q (Err fault) = Unit {0}

through_leaves : (Q : Given → Type 0) (x : Piece) (ts : List Lexeme) (r : Result Given ModelTextFault) → Then Q r → Leaves Q (bound (let_through x ts r) (λ _. gives (tt {0})))
through_leaves Q x ts (Ok g) h = h
through_leaves Q x ts (Err fault) h = tt

made_leaves : {A : Type 0} (Q : Given → Type 0) (g : Given) (f : A → Piece) → ((a : A) → Then Q (gathered g (f a))) → (r : Read Lexeme Unwatched ModelTextFault A) → Leaves Q (bound (checked_result (gathered g) (bound r (λ a. gives (f a)))) (λ _. gives (tt {0})))
made_leaves Q g f h (Ok x) = through_leaves Q (f x.0) x.2 (gathered g (f x.0)) (h x.0)
made_leaves Q g f h (Err halt) = tt

bound_leaves : {A B : Type 0} (P Q : Given → Type 0) (r : Read Lexeme Given ModelTextFault A) (K : A → Reader Lexeme Given ModelTextFault B) → Leaves P r → ((a : A) (g : Given) (ts : List Lexeme) → P g → Leaves Q (K a g ts)) → Leaves Q (bound r K)
bound_leaves P Q (Ok x) K h k = k x.0 x.1 x.2 h
bound_leaves P Q (Err halt) K h k = tt

unless_then : (Q : Given → Type 0) (b : Bool) (place : Position) (cause : ModelTextCause) (parts : Parts) (current : Current) → Q (at parts current) → Then Q (unless b place cause parts current)
unless_then Q true place cause parts current h = tt
unless_then Q false place cause parts current h = h

word_leaves : (g : Given) (ts : List Lexeme) → Leaves IsDue (gather_dimension_word g ts)
unfolding gather_dimension_word read_dimension_word IsDue
word_leaves g ts = made_leaves IsDue g DimensionWord (λ place. unless_then IsDue (dimensions_are_full g.parts) place causes.TooMany g.parts (DimensionDue place) (place, refl)) (take_one unscanned (word (codes "DIM")) (record {}) ts)

naming_leaves : (g : Given) (ts : List Lexeme) → IsDue g → Leaves IsOpen (gather_naming g ts)
unfolding gather_naming read_naming IsDue IsOpen
naming_leaves g ts (l, is) = made_leaves IsOpen g (λ n. QuotedText n.0 n.1) (λ n. subst (λ c. Then IsOpen (with_text g.parts n.0 n.1 c)) (sym is)
    (unless_then IsOpen (has_dimension g.parts n.1) n.0 causes.Duplicate g.parts (DimensionOpen l n.1) (l, n.1, refl))) (take_one unscanned (located name) (record {}) ts)

closing_leaves : (g : Given) (ts : List Lexeme) → IsOpen g → Leaves IsBody (gather_closing g ts)
unfolding model.read_closing IsOpen IsBody
closing_leaves g ts (l, shown, is) = made_leaves IsBody g (λ _. Closing) (λ _. subst (λ c. IsBody (closed g.parts c)) (sym is) (opened l shown, refl)) (take_one unscanned (sign (codes ";")) (record {}) ts)

head_leaves : (g : Given) (ts : List Lexeme) → Leaves IsBody (read_dimension_head g ts)
unfolding read_dimension_head
head_leaves g ts = bound_leaves IsDue IsBody (gather_dimension_word g ts) _ (word_leaves g ts) (λ _ h rest due. bound_leaves IsOpen IsBody (gather_naming h rest) _ (naming_leaves h rest due) (λ _ k left named. closing_leaves k left named))

-- The whole text.

dimension_settled : (s : Seen) (r : Read Lexeme Given ModelTextFault (Unit {0})) → IsSettled r → Leaves IsBody r → IsSettled (bound (inside_result (with_given s) (λ fault. fault) r) (λ _. read_dimension_body))
dimension_settled s (Ok x) h body = body_from_settles (with_given s x.1) x.2 body
dimension_settled s (Err (Unexpected left)) h body = tt
dimension_settled s (Err (Refused cause)) h body = tt
dimension_settled s (Err OutOfTurns) h body = h

dimension_settles : Settles read_dimension
unfolding read_dimension
dimension_settles = record { at = λ s ts. dimension_settled s (read_dimension_head s.given ts) (head_settles.at s.given ts) (head_leaves s.given ts) }

dimensions_settle : Settles read_dimensions
unfolding read_dimensions
dimensions_settle = units (settles_all (is_word (codes "DIM")) dimension_settles)

pub model_settles : Settles read_model
unfolding read_model
model_settles = settles_both (outside_settles opening_settles) (λ number. settles_both dimensions_settle (λ _. settles_both (outside_settles (cubes_settle (has_totals number))) (λ _. outside_settles scripts_settle)))
