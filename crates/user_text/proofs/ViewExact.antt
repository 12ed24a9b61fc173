-- The readers of a view are exact.
use Rattle.std.proofs.Common.{ℕ, List, [], ◌∷◌, ◌++◌, Option, Some, None, true, false, codes, ◌∙◌, ap}
use Rattle.cube_lex.specs.Lexeme.{Lexeme}
use Rattle.cube_lex.specs.declared.position.Position.{Position}
use Rattle.grammar.specs.Grammar.{Grammar, one, both, many, done}
use Rattle.grammar.specs.Reading.{starts, both_of, gives}
use Rattle.grammar.specs.Tokens.{sign, word, is_sign, is_word}
use Rattle.grammar.proofs.Exact.{Exact, Always, Not, exact_gives, exact_then, exact_both, exact_made, exact_choose}
use Rattle.grammar.proofs.Begins.{Begins, begins_both, begins_optional, exact_option, starts_text, starts_many, made_is}
use Rattle.grammar.specs.Lists.{names, listed}
use Rattle.grammar.proofs.Lists.{names_exact, listed_whole_exact}
use Rattle.grammar.proofs.Many.{exact_all}
use Rattle.grammar.proofs.Tokens.{exact_sign, exact_word, exact_name, sign_begins, word_begins, word_no_sign}
use Rattle.user_text.specs.Counting.{count, counting}
use Rattle.user_text.specs.UserText.{elements, set, axis, point, points, nozeros, view, viewing}
use Rattle.user_text.specs.Readers.Reading.{read_elements, read_set, read_next_set, read_axis, read_point, read_points, read_nozeros, read_view, take_sign}
use Rattle.user_text.specs.declared.command.SetText.{SetText}
use Rattle.user_text.specs.declared.command.UserCommand.{UserCommand}
use Rattle.user_text.proofs.CellExact.{closed, closed_sign, closed_word}

-- what may stand behind a set
record BehindSet (rest : List Lexeme) : Type 0 where
  colon : Not (is_sign (codes ":")) rest
  comma : Not (is_sign (codes ",")) rest

-- `: name { , name }`
abbrev given_elements : Grammar Lexeme (Option (List (List ℕ)))
given_elements = both (one (sign (codes ":"))) (λ _. both names (λ elements. done (Some elements)))

given_elements_begin : Begins given_elements (is_sign (codes ":")) true
given_elements_begin = begins_both (sign_begins (codes ":") (codes ":"))

elements_exact : Exact counting elements elements read_elements BehindSet
unfolding read_elements
elements_exact = exact_choose {S = Not (is_sign (codes ","))} {S' = Always} {S'' = BehindSet} (is_sign (codes ":"))
    (exact_then (exact_sign count (codes ":")) (λ _. exact_made (λ elements. Some elements) (names_exact count)))
    (exact_gives counting None)
    (λ u a rest h stops. (starts_text given_elements_begin u a rest h, stops.comma))
    (λ u a rest nothing stops. (ap (λ x. starts (is_sign (codes ":")) (x ++ rest)) nothing.0 ∙ stops.colon, tt))

set_exact : Exact counting set set read_set BehindSet
unfolding read_set
set_exact = exact_then (exact_name count) (λ dim. exact_made (λ elements. record { dim = dim; elements = elements }) elements_exact)

-- `BY set`
abbrev next_set : Grammar Lexeme SetText
next_set = both (one (word (codes "BY"))) (λ _. set)

next_set_exact : Exact counting next_set next_set read_next_set BehindSet
unfolding read_next_set
next_set_exact = exact_then (exact_word count (codes "BY")) (λ _. set_exact)

next_set_begins : Begins next_set (is_word (codes "BY")) true
next_set_begins = begins_both (word_begins (codes "BY") (codes "BY"))

next_set_no_sign : (b : List ℕ) → Begins next_set (is_sign b) false
next_set_no_sign b = begins_both (word_no_sign (codes "BY") b)

-- what may stand behind an axis
record BehindAxis (rest : List Lexeme) : Type 0 where
  behind : BehindSet rest
  by : Not (is_word (codes "BY")) rest

behind_sets : (list : List SetText) (v rest : List Lexeme) → many next_set v list → BehindAxis rest → BehindSet (v ++ rest)
behind_sets list v rest h stops = record {
  colon = starts_many (next_set_no_sign (codes ":")) list v rest h stops.behind.colon;
  comma = starts_many (next_set_no_sign (codes ",")) list v rest h stops.behind.comma;
}

axis_exact : Exact counting axis axis read_axis BehindAxis
unfolding read_axis
axis_exact = exact_both set_exact
    (λ first. exact_made (λ rest. first ∷ rest) (exact_all (is_word (codes "BY")) true next_set_begins next_set_begins (λ rest stops. stops.by) behind_sets next_set_exact))
    (λ first v list rest h stops. (let (others, more) = made_is (many next_set) (λ rest. first ∷ rest) v list h in behind_sets others v rest more stops))

point_exact : Exact counting point point read_point Always
unfolding read_point
point_exact = exact_then (exact_name count) (λ dim. exact_then (exact_sign count (codes ":")) (λ _. exact_then (exact_name count) (λ element. exact_gives counting (dim, element))))

-- what may stand behind the points
record BehindPoints (rest : List Lexeme) : Type 0 where
  at_word : Not (is_word (codes "AT")) rest
  comma : Not (is_sign (codes ",")) rest

-- `AT point { , point }`
abbrev given_points : Grammar Lexeme (List (List ℕ × List ℕ))
given_points = both (one (word (codes "AT"))) (λ _. listed point point)

given_points_begin : Begins given_points (is_word (codes "AT")) true
given_points_begin = begins_both (word_begins (codes "AT") (codes "AT"))

points_exact : Exact counting points points read_points BehindPoints
unfolding read_points
points_exact = exact_choose {S = Not (is_sign (codes ","))} {S' = Always} {S'' = BehindPoints} (is_word (codes "AT"))
    (exact_then (exact_word count (codes "AT")) (λ _. listed_whole_exact point_exact))
    (exact_gives counting [])
    (λ u a rest h stops. (starts_text given_points_begin u a rest h, stops.comma))
    (λ u a rest nothing stops. (ap (λ x. starts (is_word (codes "AT")) (x ++ rest)) nothing.0 ∙ stops.at_word, tt))

nozeros_exact : Exact counting nozeros nozeros read_nozeros (Not (is_word (codes "NOZEROS")))
unfolding read_nozeros
nozeros_exact = exact_option (is_word (codes "NOZEROS")) false (begins_both (word_begins (codes "NOZEROS") (codes "NOZEROS"))) (exact_then (exact_word count (codes "NOZEROS")) (λ _. exact_gives counting true))

-- What stands behind the axes.

module _ (place : Position) (cube : List ℕ) (rows columns : List SetText) where
  abbrev last : List (List ℕ × List ℕ) → Grammar Lexeme UserCommand
  last at = both nozeros (λ without_zeros. closed (viewing place cube rows columns at without_zeros))

  last_sign : (at : List (List ℕ × List ℕ)) → Begins (last at) (is_sign (codes ",")) false
  last_sign at = begins_optional (begins_both (word_no_sign (codes "NOZEROS") (codes ","))) (λ z. closed_sign (viewing place cube rows columns at z) (codes ","))

  last_colon : (at : List (List ℕ × List ℕ)) → Begins (last at) (is_sign (codes ":")) false
  last_colon at = begins_optional (begins_both (word_no_sign (codes "NOZEROS") (codes ":"))) (λ z. closed_sign (viewing place cube rows columns at z) (codes ":"))

  last_at : (at : List (List ℕ × List ℕ)) → Begins (last at) (is_word (codes "AT")) false
  last_at at = begins_optional (begins_both (word_begins (codes "NOZEROS") (codes "AT"))) (λ z. closed_word (viewing place cube rows columns at z) (codes "AT"))

  last_by : (at : List (List ℕ × List ℕ)) → Begins (last at) (is_word (codes "BY")) false
  last_by at = begins_optional (begins_both (word_begins (codes "NOZEROS") (codes "BY"))) (λ z. closed_word (viewing place cube rows columns at z) (codes "BY"))

  abbrev tail : Grammar Lexeme UserCommand
  tail = both points last

  tail_comma : Begins tail (is_sign (codes ",")) false
  tail_comma = begins_optional (begins_both (word_no_sign (codes "AT") (codes ","))) last_sign

  tail_colon : Begins tail (is_sign (codes ":")) false
  tail_colon = begins_optional (begins_both (word_no_sign (codes "AT") (codes ":"))) last_colon

  tail_by : Begins tail (is_word (codes "BY")) false
  tail_by = begins_optional (begins_both (word_begins (codes "AT") (codes "BY"))) last_by

  tail_exact : Exact counting tail tail (both_of read_points (λ at. both_of read_nozeros (λ without_zeros. both_of (take_sign (codes ";")) (λ _. gives (viewing place cube rows columns at without_zeros))))) Always
  tail_exact = exact_both points_exact
      (λ at. exact_both nozeros_exact
      (λ without_zeros. exact_then (exact_sign count (codes ";")) (λ _. exact_gives counting (viewing place cube rows columns at without_zeros)))
      (λ without_zeros v b rest l stops. starts_text (closed_word (viewing place cube rows columns at without_zeros) (codes "NOZEROS")) v b rest l))
      (λ at v b rest l stops. record { at_word = starts_text (last_at at) v b rest l; comma = starts_text (last_sign at) v b rest l })

-- `COLUMNS axis ..`
abbrev columns_on : Position → List ℕ → List SetText → Grammar Lexeme UserCommand
columns_on place cube rows = both (one (word (codes "COLUMNS"))) (λ _. both axis (λ columns. tail place cube rows columns))

on_sign : (place : Position) (cube : List ℕ) (rows : List SetText) (b : List ℕ) → Begins (columns_on place cube rows) (is_sign b) false
on_sign place cube rows b = begins_both (word_no_sign (codes "COLUMNS") b)

on_by : (place : Position) (cube : List ℕ) (rows : List SetText) → Begins (columns_on place cube rows) (is_word (codes "BY")) false
on_by place cube rows = begins_both (word_begins (codes "COLUMNS") (codes "BY"))

pub view_exact : Exact counting view view read_view Always
unfolding read_view
view_exact = exact_then (exact_word count (codes "VIEW")) (λ place. exact_then (exact_name count) (λ cube. exact_then (exact_word count (codes "ROWS")) (λ _. exact_both axis_exact
    (λ rows. exact_then (exact_word count (codes "COLUMNS")) (λ _. exact_both axis_exact
    (λ columns. tail_exact place cube rows columns)
    (λ columns v b rest l stops. record {
      behind = record { colon = starts_text (tail_colon place cube rows columns) v b rest l; comma = starts_text (tail_comma place cube rows columns) v b rest l };
      by = starts_text (tail_by place cube rows columns) v b rest l;
    })))
    (λ rows v b rest l stops. record {
      behind = record { colon = starts_text (on_sign place cube rows (codes ":")) v b rest l; comma = starts_text (on_sign place cube rows (codes ",")) v b rest l };
      by = starts_text (on_by place cube rows) v b rest l;
    }))))
