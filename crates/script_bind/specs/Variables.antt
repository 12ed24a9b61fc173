-- Which variables a script has: their words, each once, in the order in which they are first named.
use Rattle.std.specs.Prelude.{ℕ, Bool, List, [], ◌∷◌, ◌++◌, map, if◌then◌else◌, bytes_eq}
use Rattle.std.specs.List.{list_any}
use Rattle.grammar.specs.Variables.{is_column}
use Rattle.script_tree.specs.declared.expr.Expr.{Expr}
use Rattle.script_tree.specs.declared.expr.Expr.TheFolds.{fold-Expr}
use Rattle.script_tree.specs.declared.expr.Expr.TheOpen.{Expr-F}
use Rattle.script_tree.specs.declared.line.Arm.{Arm}
use Rattle.script_tree.specs.declared.line.Arm.TheFolds.{fold-Arm, fold-Line}
use Rattle.script_tree.specs.declared.line.Arm.TheOpen.{Arm-F, Line-F}
use Rattle.script_tree.specs.declared.line.Line.{Line}
use Rattle.script_tree.specs.declared.script.Script.{Script}

-- the words so far, and then with those of a part of the script
abbrev pub Words : Type 0
Words = List (List ℕ)

abbrev pub More : Type 0
More = Words → Words

-- whether a word is among these
abbrev pub is_named : Words → List ℕ → Bool
is_named words word = list_any (λ other. bytes_eq other word) words

-- the words with one more, where it is new
abbrev pub with_word : List ℕ → More
with_word word words = if is_named words word then words else words ++ word ∷ []

-- a column is no variable
abbrev pub with_variable : List ℕ → More
with_variable word words = if is_column word then words else with_word word words

-- parts, one behind the other
abbrev pub in_turn : List More → More
in_turn [] words = words
in_turn (part ∷ parts) words = in_turn parts (part words)

abbrev pub expression_words : Expr-F More → More
expression_words (Expr-F.Number millionths) words = words
expression_words (Expr-F.Text bytes) words = words
expression_words (Expr-F.Variable word) words = with_variable word words
expression_words (Expr-F.Call function arguments) words = in_turn arguments words
expression_words (Expr-F.Minus a) words = a words
expression_words (Expr-F.Not a) words = a words
expression_words (Expr-F.Binary op a b) words = b (a words)

-- with the variables of an expression
abbrev pub words_in : Expr → More
words_in = fold-Expr More expression_words

abbrev pub words_in_all : List Expr → More
words_in_all expressions = in_turn (map words_in expressions)

abbrev pub arm_words : Arm-F More More → More
arm_words (Arm-F.When test lines) words = in_turn lines (words_in test words)
arm_words (Arm-F.Otherwise lines) words = in_turn lines words

abbrev pub line_words : Line-F More More → More
line_words (Line-F.Assign word given) words = words_in given (with_word word words)
line_words (Line-F.Put arguments) words = words_in_all arguments words
line_words (Line-F.Increment arguments) words = words_in_all arguments words
line_words (Line-F.ZeroOut arguments) words = words_in_all arguments words
line_words Line-F.Skip words = words
line_words Line-F.Break words = words
line_words Line-F.Error words = words
line_words (Line-F.If arms) words = in_turn arms words
line_words (Line-F.While test lines) words = in_turn lines (words_in test words)

-- with the variables of a statement and of those in it
abbrev pub words_at : Line → More
words_at = fold-Line More More arm_words line_words

-- with the variables of a block of an IF
abbrev pub words_of_arm : Arm → More
words_of_arm = fold-Arm More More arm_words line_words

abbrev pub words_of_lines : List Line → More
words_of_lines lines = in_turn (map words_at lines)

abbrev pub words_of_arms : List Arm → More
words_of_arms arms = in_turn (map words_of_arm arms)

-- the variables of a script
unfoldable pub variables : Script → Words
variables script =
    words_of_lines script.epilog.lines (words_of_lines script.body.lines (words_of_lines script.prolog.lines []))
