-- The grammar of statements in load scripts.
use Rattle.std.specs.Prelude.{ℕ, zero, suc, Bool, true, false, ◌&&◌, List, [], ◌∷◌, ◌++◌, Option, Some, None, codes}
use Rattle.std.specs.Prelude.{if◌then◌else◌}
use Rattle.cube_lex.specs.Lexeme.{Lexeme}
use Rattle.grammar.specs.Grammar.{Grammar, done, one, either, many, ◌>>=◌, ◌>>◌}
use Rattle.grammar.specs.Tokens.{sign, word, when, is_word, is_word_kind, capitals}
use Rattle.grammar.specs.Variables.{is_variable}
use Rattle.expression_grammar.specs.Expression.{nothing}
use Rattle.script_tree.specs.Expression.{value, truth, two_or_more, three_or_more}
use Rattle.script_tree.specs.declared.expr.Expr.{Expr}
use Rattle.script_tree.specs.declared.line.Arm.{Arm}
use Rattle.script_tree.specs.declared.line.Arm.TheVariants as arms
use Rattle.script_tree.specs.declared.line.Line.{Line}
use Rattle.script_tree.specs.declared.line.Line.TheVariants as lines
use Rattle.script_tree.specs.declared.script.Section.{Section}
use Rattle.script_tree.specs.declared.script.Section.TheVariants as sections

-- a word that may name a variable, in capitals
abbrev pub variable : Lexeme → Option (List ℕ)
variable = when (λ t. is_word_kind t.kind && is_variable (capitals t.piece)) (λ t. capitals t.piece)

-- Word "=" value ";"
abbrev pub assignment : Grammar Lexeme Line
assignment = do
  name ← one variable
  one (sign (codes "="))
  given ← value
  one (sign (codes ";"))
  done (lines.Assign name given)

-- word "(" value "," value "," value { "," value } ")" ";"
abbrev pub written : List ℕ → Grammar Lexeme (List Expr)
written function = do
  one (word function)
  one (sign (codes "("))
  given ← three_or_more value
  one (sign (codes ")"))
  one (sign (codes ";"))
  done given

abbrev pub put : Grammar Lexeme Line
put = do given ← written (codes "CELLPUTN"); done (lines.Put given)

abbrev pub increment : Grammar Lexeme Line
increment = do given ← written (codes "CELLINCREMENTN"); done (lines.Increment given)

-- "ZEROOUT" "(" value "," value { "," value } ")" ";" where the word isn't reserved: before a "=" it names a variable
abbrev pub zeroing : Grammar Lexeme Line
zeroing = do
  one (word (codes "ZEROOUT"))
  one (sign (codes "("))
  given ← two_or_more value
  one (sign (codes ")"))
  one (sign (codes ";"))
  done (lines.ZeroOut given)

-- `ITEMSKIP` stands in Data alone, `PROCESSBREAK` in Prolog and Data.
abbrev pub may_skip : Section → Bool
may_skip sections.Prolog = false
may_skip sections.Body = true
may_skip sections.Epilog = false

abbrev pub may_break : Section → Bool
may_break sections.Prolog = true
may_break sections.Body = true
may_break sections.Epilog = false

-- the statement that is one word
abbrev pub leap : Section → Lexeme → Option Line
leap section t =
    if may_skip section && is_word (codes "ITEMSKIP") t then Some lines.Skip
    else if may_break section && is_word (codes "PROCESSBREAK") t then Some lines.Break
    else if is_word (codes "PROCESSERROR") t then Some lines.Error
    else None

abbrev pub leaping : Section → Grammar Lexeme Line
leaping section = do
  line ← one (leap section)
  one (sign (codes ";"))
  done line

-- "(" truth ")" ";"
abbrev pub condition : Grammar Lexeme Expr
condition = do
  one (sign (codes "("))
  test ← truth
  one (sign (codes ")"))
  one (sign (codes ";"))
  done test

-- word "(" truth ")" ";" block
abbrev pub arm : List ℕ → Grammar Lexeme (List Line) → Grammar Lexeme Arm
arm mark block = do
  one (word mark)
  test ← condition
  inside ← block
  done (arms.When test inside)

-- "IF" "(" truth ")" ";" block { "ELSEIF" "(" truth ")" ";" block }
abbrev pub conditional : Grammar Lexeme (List Line) → Grammar Lexeme (List Arm)
conditional block = do
  first ← arm (codes "IF") block
  others ← many (arm (codes "ELSEIF") block)
  done (first ∷ others)

-- [ "ELSE" ";" block ], behind these arms
abbrev pub otherwise : Grammar Lexeme (List Line) → List Arm → Grammar Lexeme (List Arm)
otherwise block before = either
    (do one (word (codes "ELSE")); one (sign (codes ";")); inside ← block; done (before ++ arms.Otherwise inside ∷ []))
    (done before)

-- "IF" .. { "ELSEIF" .. } [ "ELSE" .. ] "ENDIF" ";"
abbrev pub branching : Grammar Lexeme (List Line) → Grammar Lexeme Line
branching block = do
  before ← conditional block
  all ← otherwise block before
  one (word (codes "ENDIF"))
  one (sign (codes ";"))
  done (lines.If all)

-- "WHILE" "(" truth ")" ";" block "END" ";"
abbrev pub looping : Grammar Lexeme (List Line) → Grammar Lexeme Line
looping block = do
  one (word (codes "WHILE"))
  test ← condition
  inside ← block
  one (word (codes "END"))
  one (sign (codes ";"))
  done (lines.While test inside)

-- a statement of a section that is no block
abbrev pub plain : Section → Grammar Lexeme Line
plain section = either put (either increment (either (leaping section) (either zeroing assignment)))

-- a statement of a section, by the blocks inside it
abbrev pub statement_of : Section → Grammar Lexeme (List Line) → Grammar Lexeme Line
statement_of section block = either (branching block) (either (looping block) (plain section))

-- a statement that has fewer than so many blocks one inside the other
abbrev pub statement_within : Section → ℕ → Grammar Lexeme Line
statement_within section zero = nothing
statement_within section (suc h) = statement_of section (many (statement_within section h))

abbrev pub statement : Section → Grammar Lexeme Line
statement section ts line = (h : ℕ) × statement_within section h ts line
