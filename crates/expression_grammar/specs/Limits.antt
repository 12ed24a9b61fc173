-- How deep and how long one whole expression may be, token by token.
use Rattle.std.specs.Prelude.{ℕ, ◌+◌, ◌-◌, nat_lt, Bool, true, false, not}
use Rattle.std.specs.Prelude.{◌&&◌, ◌||◌, if◌then◌else◌, codes, Option, Some, None}
use Rattle.cube_lex.specs.Lexeme.{Lexeme}
use Rattle.grammar.specs.Tokens.{is_sign, is_sign_kind}
use Rattle.expression_grammar.specs.declared.limits.Limits.{Limits}

-- parentheses that may be open at once
abbrev pub most_open : ℕ
most_open = 32

-- primaries of one whole expression, those inside others counted
abbrev pub most_primaries : ℕ
most_primaries = 1000

-- more expressions than may be one inside the other: each stands in parentheses of its own; and so with blocks
abbrev pub most_inside : ℕ
most_inside = 64

-- before an expression inside so many open parentheses
abbrev pub begun_within : ℕ → Limits
begun_within depth = record { depth = depth; primaries = 0; due = true; bracketed = false }

-- a word, a number, a text, `!`, `[` and `(` begin a primary where an operand is due
abbrev pub may_begin_primary : Lexeme → Bool
may_begin_primary t = not (is_sign_kind t.kind) || is_sign (codes "!") t || is_sign (codes "[") t
    || is_sign (codes "(") t

-- whether there is room for one more primary
abbrev pub begins_primary : Limits → Lexeme → Bool
begins_primary l t = l.due && may_begin_primary t

abbrev pub has_room : Limits → Lexeme → Bool
has_room l t = not (begins_primary l t) || nat_lt l.primaries most_primaries

abbrev pub counted : Limits → Lexeme → ℕ
counted l t = if begins_primary l t then l.primaries + 1 else l.primaries

-- behind a `(`, if one more may be open
abbrev pub opened : Limits → ℕ → Option Limits
opened l primaries =
    if nat_lt l.depth most_open
    then Some (record { depth = l.depth + 1; primaries = primaries; due = true; bracketed = false })
    else None

-- behind a `)`
abbrev pub closed : Limits → Limits
closed l = record { depth = l.depth - 1; primaries = l.primaries; due = false; bracketed = false }

-- behind any other token
abbrev pub passed : Limits → ℕ → Lexeme → Limits
passed l primaries t = record {
  depth = l.depth;
  primaries = primaries;
  due = is_sign_kind t.kind && not (is_sign (codes "!") t || is_sign (codes "[") t);
  bracketed = is_sign (codes "[") t;
}

-- one more token, or none if the expression becomes too deep or too long by it
abbrev pub scanned : Limits → Lexeme → Option Limits
scanned l t =
    if l.bracketed then Some (record l { bracketed = not (is_sign (codes "]") t) })
    else if not (has_room l t) then None
    else if is_sign (codes "(") t then opened l (counted l t)
    else if is_sign (codes ")") t then Some (closed l)
    else Some (passed l (counted l t) t)
