-- What is answered of a load script's text: the script, or the first fault.
use Rattle.std.specs.Prelude.{ℕ, List, Option, Result, Ok, Err}
use Rattle.cube_lex.specs.Lexed.{Lexed}
use Rattle.cube_lex.specs.Reading.{IsReading}
use Rattle.cube_lex.specs.declared.fault.LexFault.{LexFault}
use Rattle.grammar.specs.Whole.{IsWholeText, IsWholeSyntax, IsWholeRefused}
use Rattle.script_tree.specs.Counting.{counting, start}
use Rattle.script_tree.specs.ScriptText.{script}
use Rattle.script_tree.specs.declared.counted.Counted.{Counted}
use Rattle.script_tree.specs.declared.excess.Excess.TheVariants as excesses
use Rattle.script_tree.specs.declared.script.Script.{Script}
use Rattle.script_reader.specs.declared.fault.ScriptFault.{ScriptFault}
use Rattle.script_reader.specs.declared.fault.ScriptFault.TheVariants as faults

-- What is said of where the watch begins, which knows the tokens of the bytes.
abbrev pub FromStart : List ℕ → (Counted → Type 0) → Type 0
FromStart bytes P = (lexed : Lexed) × (fault : Option LexFault) × IsReading bytes lexed fault × P (start lexed.lexemes)

-- The bytes are a text of this script within the limits; or they have this first fault. Out of memory, nothing is
-- said.
abbrev pub Answers : List ℕ → Result Script ScriptFault → Type 0
Answers bytes (Ok tree) = FromStart bytes (λ s. (c : Counted) × IsWholeText script counting s bytes tree c)
Answers bytes (Err (faults.Syntax at)) = FromStart bytes (λ s. IsWholeSyntax script counting s bytes at)
Answers bytes (Err (faults.UnknownFunction at)) =
    FromStart bytes (λ s. IsWholeRefused script counting s bytes (excesses.UnknownFunction at))
Answers bytes (Err (faults.TooDeep at)) =
    FromStart bytes (λ s. IsWholeRefused script counting s bytes (excesses.TooDeep at))
Answers bytes (Err faults.Memory) = Unit {0}
