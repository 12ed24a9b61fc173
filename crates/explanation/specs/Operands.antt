-- The operands of a statement's part for leaf cells, in the tokens of its text.
use Rattle.std.specs.Prelude.{ℕ, ◌+◌, ◌-◌, ◌==◌, nat_le, Bool, false, not, ◌&&◌, ◌||◌, List, [], ◌∷◌}
use Rattle.std.specs.Prelude.{codes, slice_index_or, if◌then◌else◌}
use Rattle.cube_lex.specs.Lexeme.{Lexeme}
use Rattle.grammar.specs.Reading.{starts}
use Rattle.grammar.specs.Tokens.{is_sign, is_word, is_number, is_text}
use Rattle.explanation.specs.Statements.{is_called, behind}
use Rattle.explanation.specs.declared.operands.Within.{Within}

-- a function of the cell's own elements: it is one operand, whatever its arguments are
abbrev pub is_own_function : Lexeme → List Lexeme → Bool
is_own_function token next =
    is_called (codes "DIMIX") token next || is_called (codes "ELLEV") token next
    || is_called (codes "ELISPAR") token next || is_called (codes "ELISANC") token next
    || is_called (codes "ELISCOMP") token next || is_called (codes "ATTRN") token next
    || is_called (codes "ELCOMPN") token next || is_called (codes "ELPARN") token next

-- the same of a cell, of a dimension's size and of a text
abbrev pub is_operand_function : Lexeme → List Lexeme → Bool
is_operand_function token next =
    is_called (codes "DB") token next || is_called (codes "DIMSIZ") token next || is_called (codes "DTYPE") token next
    || is_called (codes "ATTRS") token next || is_own_function token next

-- a token with which an operand begins
abbrev pub is_operand : Lexeme → List Lexeme → Bool
is_operand token next =
    is_number token || is_text token || is_sign (codes "[") token || is_sign (codes "!") token
    || is_word (codes "STET") token || is_operand_function token next

abbrev pub closed : ℕ → ℕ
closed depth = if nat_le depth 2 then 0 else depth - 1

abbrev pub opened : ℕ → Lexeme → List Lexeme → ℕ
opened depth token next =
    if depth == 0 then (if is_sign (codes "[") token || is_operand_function token next then 1 else 0)
    else if is_sign (codes "(") token then depth + 1
    else if is_sign (codes ")") token || is_sign (codes "]") token then closed depth
    else depth

-- behind one more token
abbrev pub passed : Within → Lexeme → List Lexeme → Within
passed within token next =
    record { named = is_sign (codes "!") token; depth = opened within.depth token next }

abbrev pub begins_operand : Within → Lexeme → List Lexeme → Bool
begins_operand within token next = not within.named && within.depth == 0 && is_operand token next

-- of each operand, the tokens from its first one on
abbrev pub operands : Within → List Lexeme → List (List Lexeme)
operands within [] = []
operands within (token ∷ tokens) = if begins_operand within token tokens
    then (token ∷ tokens) ∷ operands (passed within token tokens) tokens
    else operands (passed within token tokens) tokens

-- outside of every operand
abbrev pub outside : Within
outside = record { named = false; depth = 0 }

-- the part for leaf cells: behind `N:`, which may stand behind a part `C: .. ;`; or the whole formula
abbrev pub behind_mark : List ℕ → List Lexeme → List Lexeme
behind_mark mark tokens = if starts (is_word mark) tokens then behind (codes ":") tokens else tokens

abbrev pub leaf_part : List Lexeme → List Lexeme
leaf_part tokens = behind_mark (codes "N")
    (if starts (is_word (codes "C")) tokens then behind (codes ";") tokens else tokens)

-- the tokens from the operand of this number on, from 1, of the statement that begins these tokens
abbrev pub operand_tokens : ℕ → List Lexeme → List Lexeme
operand_tokens number tokens =
    slice_index_or (operands outside (leaf_part (behind (codes "=") tokens))) (number - 1) []
