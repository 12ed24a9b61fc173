-- How deep a script may be, how long each whole expression, and which words are called that are no functions.
use Rattle.std.specs.Prelude.{ℕ, ◌+◌, ◌-◌, ◌==◌, nat_lt, Bool, not, ◌&&◌, ◌||◌, if◌then◌else◌, codes}
use Rattle.std.specs.Prelude.{List, drop, Option, Some, None, Result, Ok, Err}
use Rattle.std.specs.List.{list_any}
use Rattle.cube_lex.specs.Lexeme.{Lexeme}
use Rattle.cube_lex.specs.Positions.{position_of}
use Rattle.grammar.specs.Reading.{starts}
use Rattle.grammar.specs.Tokens.{is_sign, is_word, is_any_word}
use Rattle.grammar.specs.Variables.{function_words}
use Rattle.grammar.specs.Watch.{Watch, each_token}
use Rattle.expression_grammar.specs.Limits.{most_open, begun_within, scanned}
use Rattle.expression_grammar.specs.declared.limits.Limits.{Limits}
use Rattle.script_tree.specs.Expression.{functions_before_parenthesis}
use Rattle.script_tree.specs.declared.counted.Counted.{Counted}
use Rattle.script_tree.specs.declared.counted.ScriptTextPlace.{ScriptTextPlace}
use Rattle.script_tree.specs.declared.counted.ScriptTextPlace.TheVariants as places
use Rattle.script_tree.specs.declared.counted.Stage.{Stage}
use Rattle.script_tree.specs.declared.excess.Excess.{Excess}
use Rattle.script_tree.specs.declared.excess.Excess.TheVariants as excesses

-- before the first of these tokens, which are those of the text
abbrev pub start : List Lexeme → Counted
start ts = record { left = ts; stage = record { blocks = 0; next = 0; place = places.Between } }

-- One more `(`, `IF` or `WHILE`, inside so many parentheses and blocks that are open
abbrev pub one_more : ℕ → Lexeme → Result ℕ Excess
one_more open_ones t = if nat_lt open_ones most_open then Ok (open_ones + 1) else Err (excesses.TooDeep (position_of t))

-- the word is that of a function, before a `(`
abbrev pub is_function : Lexeme → Bool
is_function t = list_any (λ word. is_word word t) function_words
    || list_any (λ entry. is_word entry.0 t) functions_before_parenthesis

-- the word is no function
abbrev pub is_unknown : Lexeme → Bool
is_unknown t = is_any_word t && not (is_function t)

-- a whole expression with one more token, which has a `(` behind it or not
abbrev pub with_token : Bool → Limits → Lexeme → Result Limits Excess
with_token calls l t =
    if calls && (l.due && is_unknown t) then Err (excesses.UnknownFunction (position_of t))
    else told (scanned l t) where
      told : Option Limits → Result Limits Excess
      told (Some more) = Ok more
      told None = Err (excesses.TooDeep (position_of t))

abbrev pub at_place : Stage → (Limits → ScriptTextPlace) → Result Limits Excess → Result Stage Excess
at_place s place (Ok l) = Ok (record s { place = place l })
at_place s place (Err excess) = Err excess

abbrev pub opening : Stage → Result ℕ Excess → Result Stage Excess
opening s (Ok next) = Ok (record { blocks = s.blocks; next = next; place = places.Head })
opening s (Err excess) = Err excess

-- Behind the first word of a statement, or of a part of one. The `;` behind the condition of `IF` and `WHILE` opens a
-- block, which `ENDIF` and `END` close.
abbrev pub behind_word : Stage → Lexeme → Result Stage Excess
behind_word s t =
    if is_word (codes "IF") t || is_word (codes "WHILE") t then opening s (one_more s.blocks t)
    else if is_word (codes "ENDIF") t || is_word (codes "END") t
    then Ok (record { blocks = s.blocks - 1; next = s.blocks - 1; place = places.Head })
    else Ok (record { blocks = s.blocks; next = s.blocks; place = places.Head })

abbrev pub enclosed : Stage → Result ℕ Excess → Result Stage Excess
enclosed s (Ok depth) = Ok (record s { place = places.Argument (begun_within depth) })
enclosed s (Err excess) = Err excess

-- A whole expression begins behind `=`, and behind the `(` of a statement, which is open inside it.
abbrev pub behind_head : Stage → Lexeme → Result Stage Excess
behind_head s t =
    if is_sign (codes "=") t then Ok (record s { place = places.Formula (begun_within s.blocks) })
    else if is_sign (codes "(") t then enclosed s (one_more s.blocks t)
    else Ok (record { blocks = s.next; next = s.next; place = places.Between })

abbrev pub behind_formula : Bool → Stage → Limits → Lexeme → Result Stage Excess
behind_formula calls s l t =
    if is_sign (codes ";") t then Ok (record s { place = places.Between })
    else at_place s (λ more. places.Formula more) (with_token calls l t)

-- whether the next token stands directly in the parentheses of a statement
abbrev pub is_outermost : Stage → Limits → Bool
is_outermost s l = l.depth - s.blocks == 1

-- Behind a `,` that stands directly in the parentheses of a statement another whole expression begins.
abbrev pub behind_argument : Bool → Stage → Limits → Lexeme → Result Stage Excess
behind_argument calls s l t =
    if is_outermost s l && is_sign (codes ",") t
    then Ok (record s { place = places.Argument (begun_within l.depth) })
    else if is_outermost s l && is_sign (codes ")") t then Ok (record s { place = places.Head })
    else at_place s (λ more. places.Argument more) (with_token calls l t)

abbrev pub behind_place : Bool → Stage → ScriptTextPlace → Lexeme → Result Stage Excess
behind_place calls s places.Between t = behind_word s t
behind_place calls s places.Head t = behind_head s t
behind_place calls s (places.Formula l) t = behind_formula calls s l t
behind_place calls s (places.Argument l) t = behind_argument calls s l t

-- whether a `(` stands behind the next token
abbrev pub is_called : Counted → Bool
is_called c = starts (is_sign (codes "(")) (drop 1 c.left)

abbrev pub moved : Counted → Result Stage Excess → Result Counted Excess
moved c (Ok stage) = Ok (record { left = drop 1 c.left; stage = stage })
moved c (Err excess) = Err excess

-- one more token
unfoldable pub count : Counted → Lexeme → Result Counted Excess
count c t = moved c (behind_place (is_called c) c.stage c.stage.place t)

abbrev pub counting : Watch Lexeme Counted Excess
counting = each_token count
