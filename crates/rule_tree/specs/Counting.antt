-- How many statements and feeders there may be, and how deep and how long each whole formula.
use Rattle.std.specs.Prelude.{ℕ, ◌+◌, ◌==◌, nat_lt, false, not, ◌&&◌, ◌||◌}
use Rattle.std.specs.Prelude.{if◌then◌else◌, codes, Option, Some, None, Result, Ok, Err}
use Rattle.cube_lex.specs.Lexeme.{Lexeme}
use Rattle.cube_lex.specs.Positions.{position_of}
use Rattle.grammar.specs.Tokens.{is_sign, is_word}
use Rattle.grammar.specs.Watch.{Watch, each_token}
use Rattle.expression_grammar.specs.Limits.{begun_within, scanned}
use Rattle.expression_grammar.specs.declared.limits.Limits.{Limits}
use Rattle.rule_tree.specs.declared.counted.Counted.{Counted}
use Rattle.rule_tree.specs.declared.counted.RuleTextPlace.{RuleTextPlace}
use Rattle.rule_tree.specs.declared.counted.RuleTextPlace.TheVariants as places
use Rattle.rule_tree.specs.declared.excess.Excess.{Excess}
use Rattle.rule_tree.specs.declared.excess.Excess.TheVariants as excesses

-- of statements, and of feeders
abbrev pub most_statements : ℕ
most_statements = 1000

-- before the text's first token
abbrev pub start : Counted
start = record { statements = 0; feeders = 0; feeding = false; place = places.Between }

-- a whole formula with one more token
abbrev pub with_token : Limits → Lexeme → Result Limits Excess
with_token l t = told (scanned l t) where
  told : Option Limits → Result Limits Excess
  told (Some more) = Ok more
  told None = Err (excesses.TooDeep (position_of t))

abbrev pub in_place : (Limits → RuleTextPlace) → Result Limits Excess → Result RuleTextPlace Excess
in_place place (Ok l) = Ok (place l)
in_place place (Err excess) = Err excess

abbrev pub behind_area : Lexeme → RuleTextPlace
behind_area t =
    if is_sign (codes "=") t then places.Formula (begun_within 0)
    else if is_sign (codes "=>") t then places.Targets
    else places.Area

-- In a statement a whole formula begins behind `=`, and again behind the `:` of each mark.
abbrev pub behind_formula : Limits → Lexeme → Result RuleTextPlace Excess
behind_formula l t =
    if is_sign (codes ";") t then Ok places.Between
    else if not l.bracketed && is_sign (codes ":") t then Ok (places.Formula (begun_within 0))
    else in_place places.Formula (with_token l t)

-- In a feeder a whole formula begins behind the `(` of a `DB`, which is open inside it,
abbrev pub behind_targets : Lexeme → RuleTextPlace
behind_targets t =
    if is_sign (codes ";") t then places.Between
    else if is_sign (codes "(") t then places.Argument (begun_within 1)
    else places.Targets

-- and behind each `,` that stands directly in those parentheses. A `;` ends every formula, and stands in none.
abbrev pub behind_argument : Limits → Lexeme → Result RuleTextPlace Excess
behind_argument l t =
    if is_sign (codes ";") t then Ok places.Between
    else if (l.depth == 1 && not l.bracketed) && is_sign (codes ",") t then Ok (places.Argument (begun_within 1))
    else if (l.depth == 1 && not l.bracketed) && is_sign (codes ")") t then Ok places.Targets
    else in_place places.Argument (with_token l t)

-- a `[` that begins a statement or a feeder is refused where there are enough
abbrev pub one_more : Counted → Lexeme → Result Counted Excess
one_more c t =
    if c.feeding && nat_lt c.feeders most_statements then Ok (record c { feeders = c.feeders + 1; place = places.Area })
    else if not c.feeding && nat_lt c.statements most_statements
    then Ok (record c { statements = c.statements + 1; place = places.Area })
    else Err (excesses.TooMany (position_of t))

-- Behind the `;` of a part a second part may come, whose formula begins behind its `:`.
abbrev pub behind_all : Counted → Lexeme → Result Counted Excess
behind_all c t =
    if is_sign (codes "[") t then one_more c t
    else if is_sign (codes ":") t then Ok (record c { place = places.Formula (begun_within 0) })
    else Ok (record c { feeding = c.feeding || is_word (codes "FEEDERS") t })

abbrev pub moved : Counted → Result RuleTextPlace Excess → Result Counted Excess
moved c (Ok place) = Ok (record c { place = place })
moved c (Err excess) = Err excess

abbrev pub count_at : Counted → RuleTextPlace → Lexeme → Result Counted Excess
count_at c places.Between t = behind_all c t
count_at c places.Area t = moved c (Ok (behind_area t))
count_at c (places.Formula l) t = moved c (behind_formula l t)
count_at c places.Targets t = moved c (Ok (behind_targets t))
count_at c (places.Argument l) t = moved c (behind_argument l t)

-- one more token
unfoldable pub count : Counted → Lexeme → Result Counted Excess
count c t = count_at c c.place t

abbrev pub counting : Watch Lexeme Counted Excess
counting = each_token count
