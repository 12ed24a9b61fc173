-- A rule text, and what is known of it while the places of its notes are found.
use Rattle.std.specs.Prelude.{◌≡◌, ℕ, List, Option}
use Rattle.cube_lex.specs.Lexed.{Lexed}
use Rattle.cube_lex.specs.Reading.{IsReading}
use Rattle.cube_lex.specs.declared.fault.LexFault.{LexFault}
use Rattle.explanation.specs.Cursor.{IsAt}
use Rattle.explanation.specs.Statements.{tokens_from}
use Rattle.explanation.specs.Tables.{AreLeft, IsStatementTable}
use Rattle.file_passes.specs.declared.refusal.FilePlace.TheVariants.{Statement}
use Rattle.note_lines.specs.declared.rule_text.RuleText.{RuleText}

pub record IsKnown (rules : RuleText) : Type 0 where
  pub statements : IsStatementTable rules.tokens rules.statements.items
  pub references : AreLeft (tokens_from (Statement rules.statement) rules.tokens) rules.references
  pub cursor : IsAt rules.text.now rules.cursor

-- the same of this text
pub record IsTextOf (text : List ℕ) (rules : RuleText) : Type 0 where
  pub known : IsKnown rules
  pub is : rules.text.now ≡ text
  pub lexed : Lexed
  pub fault : Option LexFault
  pub reading : IsReading text lexed fault
  pub tokens : rules.tokens ≡ lexed.lexemes
