-- The grammar of a load script.
use Rattle.std.specs.Prelude.{ℕ, List, [], codes}
use Rattle.cube_lex.specs.Lexeme.{Lexeme}
use Rattle.grammar.specs.Grammar.{Grammar, done, one, either, many, ◌>>=◌, ◌>>◌}
use Rattle.grammar.specs.Tokens.{sign, word}
use Rattle.script_tree.specs.Statement.{statement}
use Rattle.script_tree.specs.declared.line.Line.{Line}
use Rattle.script_tree.specs.declared.script.Script.{Script}
use Rattle.script_tree.specs.declared.script.Section.{Section}
use Rattle.script_tree.specs.declared.script.Section.TheVariants as sections

-- word ":"
abbrev pub heading : List ℕ → Grammar Lexeme (Unit {0})
heading mark = do one (word mark); one (sign (codes ":"))

-- [ word ":" { statement } ]
abbrev pub block : List ℕ → Section → Grammar Lexeme (List Line)
block mark section = either (do heading mark; many (statement section)) (done [])

abbrev pub script_of : List Line → List Line → List Line → Script
script_of prolog body epilog = record {
  prolog = record { lines = prolog };
  body = record { lines = body };
  epilog = record { lines = epilog };
}

-- [ "PROLOG" ":" { statement } ] [ "DATA" ":" { statement } ] [ "EPILOG" ":" { statement } ]
abbrev pub script : Grammar Lexeme Script
script = do
  prolog ← block (codes "PROLOG") sections.Prolog
  body ← block (codes "DATA") sections.Body
  epilog ← block (codes "EPILOG") sections.Epilog
  done (script_of prolog body epilog)
