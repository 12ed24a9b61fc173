-- From what the reader of a load script gives to what is answered of its bytes.
use Rattle.std.proofs.Common.{◌≡◌, ℕ, List, Option, Result, refl}
use Rattle.cube_lex.specs.Lexed.{Lexed}
use Rattle.cube_lex.specs.Reading.{IsReading}
use Rattle.cube_lex.specs.declared.fault.LexFault.{LexFault}
use Rattle.grammar.specs.Cursor.{Reads}
use Rattle.grammar.specs.Whole.{AnswersWhole, answer_of_text}
use Rattle.grammar.specs.declared.answer.TextFault.{TextFault}
use Rattle.grammar.specs.declared.cursor.Cursor.{Cursor}
use Rattle.grammar.specs.declared.stop.Stop.{Stop}
use Rattle.grammar.proofs.WholeTexts.{whole_answered}
use Rattle.script_tree.specs.Counting.{counting, start}
use Rattle.script_reader.specs.Answers.{FromStart}
use Rattle.script_tree.specs.ScriptText.{script}
use Rattle.script_reader.specs.Readers.TextReading.{read_script}
use Rattle.script_tree.specs.declared.counted.Counted.{Counted}
use Rattle.script_tree.specs.declared.excess.Excess.{Excess}
use Rattle.script_tree.specs.declared.script.Script.{Script}
use Rattle.script_reader.proofs.ScriptExact.{script_exact}

-- the watch begins with what it knows of the tokens
pub from_start : {X : Type 0} (view : X → Script) (bytes : List ℕ) (lexed : Lexed) (fault : Option LexFault) (read : Result X (Stop Excess)) (old new : Cursor Counted) (answer : Result X (TextFault Excess))
    → IsReading bytes lexed fault → old.tokens ≡ lexed.lexemes → old.state ≡ start lexed.lexemes → Reads view read_script old read new → answer ≡ answer_of_text lexed fault read new.tokens
    → FromStart bytes (λ s. AnswersWhole view script counting s bytes answer)
from_start view bytes lexed fault read old new answer reading tokens begins reads is =
    (lexed, fault, reading, whole_answered script_exact refl view bytes (start lexed.lexemes) lexed fault read old new answer reading tokens begins reads is)
