-- From what the parts of a model text give to what is answered of its bytes.
use Rattle.std.proofs.Common.{IsTrue, ◌≡◌, ℕ, ◌≤◌, if◌then◌else◌, List, [], ◌∷◌, length, Option, Some, None, Bool, true, false, Result, Ok, Err, refl, sym, ◌∙◌, ap, subst, inl, inr}
use Rattle.std.specs.List.{All, AllZip, IsDistinct, list_any}
use Rattle.std.proofs.lemmas.List.{length-map}
use Rattle.std.specs.Prelude.{nat_eq, IfOk}
use Rattle.cube_lex.specs.Lexed.{Lexed}
use Rattle.cube_lex.specs.Lexeme.{Lexeme}
use Rattle.cube_lex.specs.Reading.{IsReading}
use Rattle.cube_lex.specs.declared.fault.LexFault.{LexFault}
use Rattle.cube_lex.specs.declared.position.Position.{Position}
use Rattle.grammar.specs.Reading.{Reader, bound, both_of, inside_result}
use Rattle.grammar.specs.Whole.{IsWholeText, IsWholeRefused, answer_of_text}
use Rattle.grammar.specs.declared.stop.Stop.{Stop}
use Rattle.grammar.specs.declared.stop.Stop.TheVariants as stops
use Rattle.grammar.specs.declared.answer.TextFault.{TextFault}
use Rattle.grammar.proofs.WholeTexts.{whole_read_told, whole_left_told, whole_stuck_told, whole_refused_told}
use Rattle.dim_text.specs.Progress.{Progress, Text, IsBuilt}
use Rattle.dim_name.specs.Name.{is_same_name, place_of}
use Rattle.model_text.specs.Answers.{IsModelText, IsFault}
use Rattle.model_text.specs.Contents.{Contents, IsContents, is_version, AreDimensions, IsOrderedIn, dimension_names}
use Rattle.model_text.specs.Gathering.{Current, Nothing, DimensionDue, CubeDue, ScriptDue, DimensionOpen, CubeOpen, ScriptOpen, DimensionBody, ScriptWhole, Parts, Given, at, refused, unless, dimensions_are_full, cubes_are_full, scripts_are_full, has_dimension, has_cube, has_script, with_text, with_dimension, gathered}
use Rattle.model_text.specs.Statement.{Piece, Version, Closing, DimensionWord, CubeWord, ScriptWord, QuotedText, CubeDimension, CubeEnd, has_totals, model}
use Rattle.model_text.specs.Watching.{Seen, with_given, no_parts, nothing_seen, added, watching}
use Rattle.model_text.specs.Readers.Reading.{outside, read_opening, read_dimensions, read_cubes, read_scripts, read_model}
use Rattle.model_text.specs.Readers.Views.{Stops, GivesBlocks, seen, fault_from}
use Rattle.model_text.specs.Writable.{IsWritableCube, IsWritableScript}
use Rattle.model_text.specs.declared.parts.CubeText.{CubeText}
use Rattle.model_text.specs.declared.fault.ModelTextFault.{ModelTextFault}
use Rattle.model_text.specs.declared.fault.ModelTextCause.{ModelTextCause}
use Rattle.model_text.specs.declared.fault.ModelTextCause.TheVariants as causes
use Rattle.model_text.proofs.ModelExact.{Ends, model_exact}
use Rattle.model_text.proofs.Sound.{IsSound, passes_sound}
use Rattle.model_text.proofs.Stopping.{stops_bound, stops_outside}

-- The parts, one after the other.

-- behind the opening, in a text of this version
abbrev behind_opening : ℕ → Reader Lexeme Seen ModelTextFault (Unit {0})
behind_opening number = both_of read_dimensions (λ _. both_of (outside (read_cubes (has_totals number))) (λ _. outside read_scripts))

-- behind the dimensions
abbrev behind_dimensions : ℕ → Reader Lexeme Seen ModelTextFault (Unit {0})
behind_dimensions number = both_of (outside (read_cubes (has_totals number))) (λ _. outside read_scripts)

pub opening_read : (ts rest : List Lexeme) (w : Parts) → read_opening (at no_parts Nothing) ts ≡ Ok (w.version, at w Nothing, rest) → read_model nothing_seen ts ≡ bound (read_dimensions (seen [] w) rest) (λ _. behind_dimensions w.version)
unfolding read_model
opening_read ts rest w e = ap (λ r. bound (inside_result (with_given nothing_seen) (λ fault. fault) r) behind_opening) e

pub opening_stops : (ts : List Lexeme) (stop : Stop ModelTextFault) → Stops stop (read_opening (at no_parts Nothing) ts) → Stops stop (read_model nothing_seen ts)
unfolding read_model
opening_stops ts stop e = stops_bound stop _ behind_opening (stops_outside nothing_seen stop (read_opening (at no_parts Nothing) ts) e)

pub dimensions_stop : (ts rest : List Lexeme) (w : Parts) (stop : Stop ModelTextFault) → read_opening (at no_parts Nothing) ts ≡ Ok (w.version, at w Nothing, rest) → Stops stop (read_dimensions (seen [] w) rest) → Stops stop (read_model nothing_seen ts)
dimensions_stop ts rest w stop opened e = subst (Stops stop) (sym (opening_read ts rest w opened)) (stops_bound stop (read_dimensions (seen [] w) rest) (λ _. behind_dimensions w.version) e)

-- The version stays the same.
module _ (ts rest left : List Lexeme) (w v : Parts) (blocks : List Progress) (opened : read_opening (at no_parts Nothing) ts ≡ Ok (w.version, at w Nothing, rest)) (dims : read_dimensions (seen [] w) rest ≡ Ok (tt, seen blocks v, left)) (same : v.version ≡ w.version) where
  pub dimensions_read : read_model nothing_seen ts ≡ bound (inside_result (with_given (seen blocks v)) (λ fault. fault) (read_cubes (has_totals v.version) (at v Nothing) left)) (λ _. outside read_scripts)
  dimensions_read = opening_read ts rest w opened ∙ ap (λ r. bound r (λ _. behind_dimensions w.version)) dims ∙ ap (λ n. behind_dimensions n (seen blocks v) left) (sym same)

  pub cubes_stop : (stop : Stop ModelTextFault) → Stops stop (read_cubes (has_totals v.version) (at v Nothing) left) → Stops stop (read_model nothing_seen ts)
  cubes_stop stop e = subst (Stops stop) (sym dimensions_read) (stops_bound stop _ (λ _. outside read_scripts) (stops_outside (seen blocks v) stop (read_cubes (has_totals v.version) (at v Nothing) left) e))

  pub cubes_read : (more : List Lexeme) (u : Parts) → read_cubes (has_totals v.version) (at v Nothing) left ≡ Ok (tt, at u Nothing, more) → read_model nothing_seen ts ≡ inside_result (with_given (seen blocks u)) (λ fault. fault) (read_scripts (at u Nothing) more)
  cubes_read more u e = dimensions_read ∙ ap (λ r. bound (inside_result (with_given (seen blocks v)) (λ fault. fault) r) (λ _. outside read_scripts)) e

  pub scripts_stop : (more : List Lexeme) (u : Parts) (stop : Stop ModelTextFault) → read_cubes (has_totals v.version) (at v Nothing) left ≡ Ok (tt, at u Nothing, more) → Stops stop (read_scripts (at u Nothing) more) → Stops stop (read_model nothing_seen ts)
  scripts_stop more u stop cubes e = subst (Stops stop) (sym (cubes_read more u cubes)) (stops_outside (seen blocks u) stop (read_scripts (at u Nothing) more) e)

  pub scripts_read : (more last : List Lexeme) (u x : Parts) → read_cubes (has_totals v.version) (at v Nothing) left ≡ Ok (tt, at u Nothing, more) → read_scripts (at u Nothing) more ≡ Ok (tt, at x Nothing, last) → read_model nothing_seen ts ≡ Ok (tt, seen blocks x, last)
  scripts_read more last u x cubes e = cubes_read more u cubes ∙ ap (inside_result (with_given (seen blocks u)) (λ fault. fault)) e

-- What the watch refuses is neither Syntax nor Memory.

abbrev IsCause : ModelTextCause → Type 0
IsCause causes.Syntax = ⊥
IsCause causes.Memory = ⊥
IsCause cause = Unit {0}

abbrev HasCause : Result Given ModelTextFault → Type 0
HasCause (Ok g) = Unit {0}
HasCause (Err fault) = IsCause fault.cause

unless_cause : (b : Bool) (place : Position) (cause : ModelTextCause) (parts : Parts) (current : Current) → IsCause cause → HasCause (unless b place cause parts current)
unless_cause true place cause parts current is = is
unless_cause false place cause parts current is = tt

shown_cause : (parts : Parts) (place : Position) (shown : List ℕ) (current : Current) → HasCause (with_text parts place shown current)
shown_cause parts place shown (DimensionDue l) = unless_cause (has_dimension parts shown) place causes.Duplicate parts (DimensionOpen l shown) tt
shown_cause parts place shown (CubeDue l) = unless_cause (has_cube parts shown) place causes.Duplicate parts (CubeOpen l shown []) tt
shown_cause parts place shown (ScriptDue l) = unless_cause (has_script parts shown) place causes.Duplicate parts (ScriptOpen l shown) tt
shown_cause parts place shown (ScriptOpen l n) = tt
shown_cause parts place shown Nothing = tt
shown_cause parts place shown (DimensionOpen l n) = tt
shown_cause parts place shown (DimensionBody l n) = tt
shown_cause parts place shown (CubeOpen l n dims) = tt
shown_cause parts place shown (ScriptWhole l n file) = tt

dimension_cause : (parts : Parts) (place : Position) (o : Option ℕ) (current : Current) → HasCause (with_dimension parts place o current)
dimension_cause parts place None (CubeOpen l n dims) = tt
dimension_cause parts place (Some k) (CubeOpen l n dims) = unless_cause (list_any (nat_eq k) dims) place causes.Duplicate parts _ tt
dimension_cause parts place None Nothing = tt
dimension_cause parts place (Some k) Nothing = tt
dimension_cause parts place None (DimensionDue l) = tt
dimension_cause parts place (Some k) (DimensionDue l) = tt
dimension_cause parts place None (CubeDue l) = tt
dimension_cause parts place (Some k) (CubeDue l) = tt
dimension_cause parts place None (ScriptDue l) = tt
dimension_cause parts place (Some k) (ScriptDue l) = tt
dimension_cause parts place None (DimensionOpen l n) = tt
dimension_cause parts place (Some k) (DimensionOpen l n) = tt
dimension_cause parts place None (DimensionBody l n) = tt
dimension_cause parts place (Some k) (DimensionBody l n) = tt
dimension_cause parts place None (ScriptOpen l n) = tt
dimension_cause parts place (Some k) (ScriptOpen l n) = tt
dimension_cause parts place None (ScriptWhole l n file) = tt
dimension_cause parts place (Some k) (ScriptWhole l n file) = tt

version_cause : (g : Given) (place : Position) (number : ℕ) (b : Bool) → HasCause (if b then Ok (at (record g.parts { version = number }) g.current) else refused place causes.WrongVersion)
version_cause g place number true = tt
version_cause g place number false = tt

gathered_cause : (g : Given) (x : Piece) → HasCause (gathered g x)
gathered_cause g (Version place number) = version_cause g place number (is_version number)
gathered_cause g Closing = tt
gathered_cause g (DimensionWord place) = unless_cause (dimensions_are_full g.parts) place causes.TooMany g.parts (DimensionDue place) tt
gathered_cause g (CubeWord place) = unless_cause (cubes_are_full g.parts) place causes.TooMany g.parts (CubeDue place) tt
gathered_cause g (ScriptWord place) = unless_cause (scripts_are_full g.parts) place causes.TooMany g.parts (ScriptDue place) tt
gathered_cause g (QuotedText place shown) = shown_cause g.parts place shown g.current
gathered_cause g (CubeDimension place shown) = dimension_cause g.parts place (place_of g.parts.names shown) g.current
gathered_cause g (CubeEnd rules order) = tt

added_cause : (s : Seen) (r : Result Given ModelTextFault) (fault : ModelTextFault) → HasCause r → added s r ≡ Err fault → IsCause fault.cause
added_cause s (Ok g) fault h e = cc
added_cause s (Err f) fault h e = let same : f ≡ fault = cc in subst (λ (x : ModelTextFault). IsCause x.cause) same h

refused_cause : (s : Seen) (u : List Lexeme) (fault : ModelTextFault) → watching.refuses s u fault → IsCause fault.cause
refused_cause s u fault (inl (x, is, e)) = added_cause s (gathered s.given x) fault (gathered_cause s.given x) e
refused_cause s u fault (inr body) = subst (λ (x : ModelTextFault). IsCause x.cause) (sym body.is) tt

fault_by : (bytes : List ℕ) (place : Position) (cause : ModelTextCause) → IsCause cause → IsWholeRefused model watching nothing_seen bytes (record { at = place; cause = cause }) → IsFault bytes place cause
fault_by bytes place causes.Syntax is h = absurd is
fault_by bytes place causes.Memory is h = absurd is
fault_by bytes place causes.WrongVersion is h = h
fault_by bytes place causes.Duplicate is h = h
fault_by bytes place causes.UnknownName is h = h
fault_by bytes place causes.TooMany is h = h
fault_by bytes place (causes.Dim fault) is h = h

-- The whole text.

-- what the parser has, and the text behind it
abbrev pub Told : {X : Type 0} → (X → List Text) → (X → Parts) → List ℕ → Result X (TextFault ModelTextFault) → Type 0
Told dims parts bytes (Ok x) = (blocks : List Progress) × IsWholeText model watching nothing_seen bytes tt (seen blocks (parts x)) × AllZip IsBuilt (dims x) blocks
Told dims parts bytes (Err fault) = IsFault bytes (fault_from fault).at (fault_from fault).cause

ends : Ends []
ends = record { dimension = refl; cube = refl; script = refl }

pub told : {X : Type 0} (dims : X → List Text) (parts : X → Parts) (bytes : List ℕ) (lexed : Lexed) (fault : Option LexFault) (read : Result X (Stop ModelTextFault)) (left : List Lexeme) → IsReading bytes lexed fault → GivesBlocks dims parts read left (read_model nothing_seen lexed.lexemes) → Told dims parts bytes (answer_of_text lexed fault read left)
told dims parts bytes lexed None (Ok x) [] reading (blocks, read, built) = (blocks, whole_read_told model_exact nothing_seen bytes lexed tt (seen blocks (parts x)) reading read, built)
told dims parts bytes lexed (Some f) (Ok x) [] reading (blocks, read, built) = whole_left_told model_exact ends nothing_seen bytes lexed (Some f) tt (seen blocks (parts x)) [] reading read (λ _. (f, refl))
told dims parts bytes lexed None (Ok x) (t ∷ rest) reading (blocks, read, built) = whole_left_told model_exact ends nothing_seen bytes lexed None tt (seen blocks (parts x)) (t ∷ rest) reading read (λ is. cc)
told dims parts bytes lexed (Some f) (Ok x) (t ∷ rest) reading (blocks, read, built) = whole_left_told model_exact ends nothing_seen bytes lexed (Some f) tt (seen blocks (parts x)) (t ∷ rest) reading read (λ is. cc)
told dims parts bytes lexed fault (Err stops.Memory) left reading e = refl
told dims parts bytes lexed fault (Err (stops.Unexpected n)) left reading e = whole_stuck_told model_exact ends nothing_seen bytes lexed fault n reading e
told dims parts bytes lexed fault (Err (stops.Refused f)) left reading e =
    let is : IsWholeRefused model watching nothing_seen bytes f = whole_refused_told model_exact nothing_seen bytes lexed fault f reading e in
    fault_by bytes f.at f.cause (refused_cause is.refused.refused.state is.refused.refused.piece f is.refused.refused.refused) is

-- what a text is that was read
pub contents_of : (bytes : List ℕ) (dims : List Text) (blocks : List Progress) (parts : Parts) → IsWholeText model watching nothing_seen bytes tt (seen blocks parts) → AllZip IsBuilt dims blocks → IsModelText bytes (record { version = parts.version; dims = dims; cubes = parts.cubes; scripts = parts.scripts })
contents_of bytes dims blocks parts is built = record { seen = seen blocks parts; text = is; gathered = record { version = refl; dims = built; cubes = refl; scripts = refl } }

names_count : (dims : List Text) (names : List (List ℕ)) → names ≡ dimension_names dims → length names ≡ length dims
names_count dims names e = ap length e ∙ length-map dims (λ d. d.dimension.name)

-- the order lines stand in a text of this version, and the cubes and the scripts can be written
abbrev pub IsKept : Parts → Type 0
IsKept parts = All (IsOrderedIn parts.version) parts.cubes × All IsWritableCube parts.cubes × All IsWritableScript parts.scripts

pub contents_sound : (bytes : List ℕ) (dims : List Text) (blocks : List Progress) (parts : Parts) → IsWholeText model watching nothing_seen bytes tt (seen blocks parts) → IsTrue (is_version parts.version) → parts.names ≡ dimension_names dims → IsKept parts → IsContents (record { version = parts.version; dims = dims; cubes = parts.cubes; scripts = parts.scripts })
contents_sound bytes dims blocks parts is known names kept =
    let sound : IsSound parts = passes_sound is.lexed.lexemes (seen blocks parts) is.text.passes in
    let count : length parts.names ≡ length dims = names_count dims parts.names names in
    record {
      known_version = known;
      few_dims = subst (λ n. n ≤ 256) count sound.few_names;
      few_cubes = sound.few_cubes;
      few_scripts = sound.few_scripts;
      dims = subst (IsDistinct is_same_name) names sound.names;
      cubes = sound.cubes;
      scripts = sound.scripts;
      cube_dims = subst (λ n. All (λ (cube : CubeText). AreDimensions n cube.dims) parts.cubes) count sound.cube_dims;
      cube_orders = kept.0;
      writable_cubes = kept.1;
      writable_scripts = kept.2;
    }

settled_ok : {X : Type 0} (lexed : Lexed) (fault : Option LexFault) (read : Result X (Stop ModelTextFault)) (left : List Lexeme) (x : X) → ◌≡◌ {A = Result X (TextFault ModelTextFault)} (answer_of_text lexed fault read left) (Ok x) → ◌≡◌ {A = Result X (Stop ModelTextFault)} read (Ok x)
settled_ok lexed None (Ok y) [] x e = let same : y ≡ x = cc in ap (λ z. Ok z) same
settled_ok lexed (Some f) (Ok y) [] x e = cc
settled_ok lexed None (Ok y) (t ∷ left) x e = cc
settled_ok lexed (Some f) (Ok y) (t ∷ left) x e = cc
settled_ok lexed fault (Err stops.Memory) left x e = cc
settled_ok lexed fault (Err (stops.Unexpected n)) left x e = cc
settled_ok lexed fault (Err (stops.Refused f)) left x e = cc

abbrev contents : Parts → List Text → Contents
contents parts dims = record { version = parts.version; dims = dims; cubes = parts.cubes; scripts = parts.scripts }

told_contents : (bytes : List ℕ) (dims : List Text) (parts : Parts) → (blocks : List Progress) × IsWholeText model watching nothing_seen bytes tt (seen blocks parts) × AllZip IsBuilt dims blocks → IsTrue (is_version parts.version) → parts.names ≡ dimension_names dims → IsKept parts → IsModelText bytes (contents parts dims) × IsContents (contents parts dims)
told_contents bytes dims parts (blocks, is, built) known names kept = (contents_of bytes dims blocks parts is built, contents_sound bytes dims blocks parts is known names kept)

-- a text was read
pub answer_ok : {X : Type 0} (dims : X → List Text) (parts : X → Parts) (bytes : List ℕ) (lexed : Lexed) (fault : Option LexFault) (read : Result X (Stop ModelTextFault)) (left : List Lexeme) (x : X) → IsReading bytes lexed fault → GivesBlocks dims parts read left (read_model nothing_seen lexed.lexemes) → IfOk read (λ y. IsTrue (is_version (parts y).version)) → IfOk read (λ y. (parts y).names ≡ dimension_names (dims y)) → IsKept (parts x) → ◌≡◌ {A = Result X (TextFault ModelTextFault)} (Ok x) (answer_of_text lexed fault read left) → IsModelText bytes (contents (parts x) (dims x)) × IsContents (contents (parts x) (dims x))
answer_ok {X = X} dims parts bytes lexed fault read left x reading given known names kept e =
    let same : ◌≡◌ {A = Result X (Stop ModelTextFault)} read (Ok x) = settled_ok lexed fault read left x (sym e) in
    told_contents bytes (dims x) (parts x) (subst (Told dims parts bytes) (sym e) (told dims parts bytes lexed fault read left reading given)) (subst (λ r. IfOk r (λ y. IsTrue (is_version (parts y).version))) same known) (subst (λ r. IfOk r (λ y. (parts y).names ≡ dimension_names (dims y))) same names) kept

-- a text was refused
pub answer_err : {X : Type 0} (dims : X → List Text) (parts : X → Parts) (bytes : List ℕ) (lexed : Lexed) (fault : Option LexFault) (read : Result X (Stop ModelTextFault)) (left : List Lexeme) (f : TextFault ModelTextFault) → IsReading bytes lexed fault → GivesBlocks dims parts read left (read_model nothing_seen lexed.lexemes) → ◌≡◌ {A = Result X (TextFault ModelTextFault)} (Err f) (answer_of_text lexed fault read left) → IsFault bytes (fault_from f).at (fault_from f).cause
answer_err dims parts bytes lexed fault read left f reading given e = subst (Told dims parts bytes) (sym e) (told dims parts bytes lexed fault read left reading given)
