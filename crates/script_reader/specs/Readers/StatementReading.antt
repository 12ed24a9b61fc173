-- The readers of statements, in the shape of the code.
use Rattle.std.specs.Prelude.{ℕ, zero, suc, Bool, not, ◌&&◌, ◌||◌, List, [], ◌∷◌, ◌++◌, codes}
use Rattle.cube_lex.specs.Lexeme.{Lexeme}
use Rattle.grammar.specs.Reading.{gives, take_one, choose, all_of, ◌>>=◌, ◌>>◌}
use Rattle.grammar.specs.Lists.{read_behind}
use Rattle.grammar.specs.Tokens.{is_sign, is_word, is_any_word}
use Rattle.expression_grammar.specs.Readers.Lookahead.{choose_pair}
use Rattle.expression_grammar.specs.Readers.Reading.{out_of_turns}
use Rattle.script_tree.specs.Counting.{count}
use Rattle.script_tree.specs.Statement.{variable, leap}
use Rattle.script_reader.specs.Readers.Reading.{Plan, take_sign, take_word, read_value, read_truth}
use Rattle.script_reader.specs.Readers.Reading.{read_two_or_more, read_three_or_more}
use Rattle.script_tree.specs.declared.expr.Expr.{Expr}
use Rattle.script_tree.specs.declared.line.Arm.{Arm}
use Rattle.script_tree.specs.declared.line.Arm.TheVariants as arms
use Rattle.script_tree.specs.declared.line.Line.{Line}
use Rattle.script_tree.specs.declared.line.Line.TheVariants as lines
use Rattle.script_tree.specs.declared.script.Section.{Section}

unfoldable pub read_assignment : Plan Line
read_assignment = do
  name ← take_one count variable
  take_sign (codes "=")
  given ← read_value
  take_sign (codes ";")
  gives (lines.Assign name given)

unfoldable pub read_written : List ℕ → Plan (List Expr)
read_written function = do
  take_word function
  take_sign (codes "(")
  given ← read_three_or_more read_value
  take_sign (codes ")")
  take_sign (codes ";")
  gives given

unfoldable pub read_zeroing : Plan Line
read_zeroing = do
  take_word (codes "ZEROOUT")
  take_sign (codes "(")
  given ← read_two_or_more read_value
  take_sign (codes ")")
  take_sign (codes ";")
  gives (lines.ZeroOut given)

unfoldable pub read_leaping : Section → Plan Line
read_leaping section = do
  line ← take_one count (leap section)
  take_sign (codes ";")
  gives line

unfoldable pub read_condition : Plan Expr
read_condition = do
  take_sign (codes "(")
  test ← read_truth
  take_sign (codes ")")
  take_sign (codes ";")
  gives test

unfoldable pub read_arm : List ℕ → Plan (List Line) → Plan Arm
read_arm mark block = do
  take_word mark
  test ← read_condition
  inside ← block
  gives (arms.When test inside)

unfoldable pub read_arms : Plan (List Line) → Plan (List Arm)
read_arms block = do
  first ← read_arm (codes "IF") block
  read_behind (first ∷ []) (all_of (is_word (codes "ELSEIF")) (read_arm (codes "ELSEIF") block))

unfoldable pub read_otherwise : Plan (List Line) → List Arm → Plan (List Arm)
read_otherwise block before = choose (is_word (codes "ELSE"))
    (do
      take_word (codes "ELSE")
      take_sign (codes ";")
      inside ← block
      gives (before ++ arms.Otherwise inside ∷ []))
    (gives before)

unfoldable pub read_branching : Plan (List Line) → Plan Line
read_branching block = do
  before ← read_arms block
  all ← read_otherwise block before
  take_word (codes "ENDIF")
  take_sign (codes ";")
  gives (lines.If all)

unfoldable pub read_looping : Plan (List Line) → Plan Line
read_looping block = do
  take_word (codes "WHILE")
  test ← read_condition
  inside ← block
  take_word (codes "END")
  take_sign (codes ";")
  gives (lines.While test inside)

-- whether it is the word of a statement of one word, in whatever section
abbrev pub is_leap : Lexeme → Bool
is_leap t = is_word (codes "ITEMSKIP") t || is_word (codes "PROCESSBREAK") t || is_word (codes "PROCESSERROR") t

unfoldable pub read_plain : Section → Plan Line
read_plain section =
    choose (is_word (codes "CELLPUTN")) (do given ← read_written (codes "CELLPUTN"); gives (lines.Put given))
    (choose (is_word (codes "CELLINCREMENTN"))
    (do given ← read_written (codes "CELLINCREMENTN"); gives (lines.Increment given))
    (choose is_leap (read_leaping section)
    (choose_pair (is_word (codes "ZEROOUT")) (is_sign (codes "(")) read_zeroing read_assignment)))

-- a statement, by the blocks inside it
unfoldable pub read_statement : Section → Plan (List Line) → Plan Line
read_statement section block =
    choose (is_word (codes "IF")) (read_branching block)
    (choose (is_word (codes "WHILE")) (read_looping block) (read_plain section))

-- whether a statement comes in a block: any word but those that go on behind the block
abbrev pub begins_statement : Lexeme → Bool
begins_statement t = is_any_word t && not (is_word (codes "ELSEIF") t || is_word (codes "ELSE") t
    || is_word (codes "ENDIF") t || is_word (codes "END") t)

-- a statement with fewer than so many blocks one inside the other
unfoldable pub read_within : Section → ℕ → Plan Line
read_within section zero = out_of_turns
read_within section (suc k) = read_statement section (all_of begins_statement (read_within section k))
