-- What the word and the name of a statement add, whatever its section.
use Rattle.std.proofs.Common.{◌≡◌, ℕ, List, Ok, Err, refl, sym, ◌∙◌, ap, subst}
use Rattle.cube_lex.specs.Lexeme.{Lexeme}
use Rattle.cube_lex.specs.declared.position.Position.{Position}
use Rattle.grammar.specs.Cursor.{Gives}
use Rattle.grammar.specs.Reading.{unit_of, gives, bound, ◌>>◌}
use Rattle.grammar.specs.declared.cursor.Unwatched.{Unwatched}
use Rattle.grammar.specs.declared.stop.Stop.{Stop}
use Rattle.model_text.specs.Statement.{Closing, QuotedText}
use Rattle.model_text.specs.Gathering.{Nothing, ScriptDue, ScriptOpen, ScriptWhole, Parts, at, unless, with_text, gathered}
use Rattle.model_text.specs.Readers.Reading.{Gatherer, gather, read_closing, read_script_file, read_script, gather_closing, gather_naming, gather_script_file, read_dimension_word, read_cube_word, read_script_word, gather_dimension_word, gather_cube_word, gather_script_word}
use Rattle.model_text.specs.Readers.Sections.{read_word, gather_word, word_piece, is_full, has, due, named}
use Rattle.model_text.specs.Readers.Views.{Stops}
use Rattle.model_text.specs.declared.fault.ModelTextFault.{ModelTextFault}
use Rattle.model_text.specs.declared.fault.ModelTextCause.TheVariants as causes
use Rattle.model_text.specs.declared.section.Section.{Section}
use Rattle.model_text.specs.declared.section.Section.TheVariants as sections
use Rattle.model_text.proofs.Gathered.{gather_ok}
use Rattle.model_text.proofs.Stopping.{stops_bound, piece_stops}

pub word_reader : (section : Section) → gather_word section ≡ unit_of (gather (read_word section))
unfolding read_word read_dimension_word read_cube_word read_script_word gather_dimension_word gather_cube_word gather_script_word
word_reader sections.Dimension = refl
word_reader sections.Cube = refl
word_reader sections.Script = refl

pub word_gathered : (section : Section) (parts : Parts) (place : Position) → gathered (at parts Nothing) (word_piece section place) ≡ unless (is_full section parts) place causes.TooMany parts (due section place)
word_gathered sections.Dimension parts place = refl
word_gathered sections.Cube parts place = refl
word_gathered sections.Script parts place = refl

pub name_gathered : (section : Section) (parts : Parts) (place word_place : Position) (shown : List ℕ) → with_text parts place shown (due section word_place) ≡ unless (has section parts shown) place causes.Duplicate parts (named section word_place shown)
name_gathered sections.Dimension parts place word_place shown = refl
name_gathered sections.Cube parts place word_place shown = refl
name_gathered sections.Script parts place word_place shown = refl

-- A script that stops at its `;`.

abbrev behind_name : Gatherer
behind_name = do
  gather_script_file
  gather_closing

abbrev behind_word : Gatherer
behind_word = do
  gather_naming
  behind_name

pub script_stops : (parts : Parts) (place l : Position) (name file : List ℕ) (ts ts1 ts2 ts3 left : List Lexeme) (v m : Unwatched) (stop : Stop ModelTextFault) → gather_script_word (at parts Nothing) ts ≡ Ok (tt, at parts (ScriptDue place), ts1) → gather_naming (at parts (ScriptDue place)) ts1 ≡ Ok (tt, at parts (ScriptOpen place name), ts2) → read_script_file (record {}) ts2 ≡ Ok (QuotedText l file, v, ts3) → Gives {X = Unit {0}} (λ _. Closing) (Err stop) m left (read_closing (record {}) ts3) → Stops stop (read_script (at parts Nothing) ts)
unfolding read_script
script_stops parts place l name file ts ts1 ts2 ts3 left v m stop word naming read closing =
    let e1 : read_script (at parts Nothing) ts ≡ behind_word (at parts (ScriptDue place)) ts1 = ap (λ r. bound r (λ _. behind_word)) word in
    let e2 : behind_word (at parts (ScriptDue place)) ts1 ≡ behind_name (at parts (ScriptOpen place name)) ts2 = ap (λ r. bound r (λ _. behind_name)) naming in
    let e3 : behind_name (at parts (ScriptOpen place name)) ts2 ≡ gather_closing (at parts (ScriptWhole place name file)) ts3 = ap (λ r. bound r (λ _. gather_closing)) (gather_ok read_script_file (at parts (ScriptOpen place name)) read refl) in
    subst (Stops stop) (sym (e1 ∙ e2 ∙ e3)) (stops_bound stop (gather read_closing (at parts (ScriptWhole place name file)) ts3) (λ _. gives tt) (piece_stops {X = Unit {0}} (λ _. Closing) read_closing (at parts (ScriptWhole place name file)) ts3 left m stop closing))
