-- The readers of statements are exact.
use Rattle.std.proofs.Common.{ℕ, ℤ, pos, List, [], ◌∷◌, ◌++◌, true, false, ◌||◌, codes, refl, ◌∙◌, ap}
use Rattle.std.specs.Str.{bytes_eq, str_eq_ignore_ascii_case}
use Rattle.cube_lex.specs.Lexeme.{Lexeme}
use Rattle.grammar.specs.Grammar.{Grammar, one, both, many, done}
use Rattle.grammar.specs.Watch.{Watch, unwatched, unscanned}
use Rattle.grammar.specs.Reading.{starts}
use Rattle.grammar.specs.Tokens.{sign, word, is_sign, is_word}
use Rattle.grammar.specs.declared.cursor.Unwatched.{Unwatched}
use Rattle.grammar.proofs.Exact.{Exact, Always, Not, exact_gives, exact_then, exact_both, exact_made, exact_choose}
use Rattle.grammar.proofs.Begins.{Begins, begins_both, begins_either, exact_or, exact_option, exact_before_next, starts_text}
use Rattle.grammar.specs.Lists.{listed}
use Rattle.grammar.proofs.Lists.{BehindList, minus_exact, listed_exact, behind_list}
use Rattle.grammar.proofs.Tokens.{exact_sign, exact_word, exact_name, exact_text, exact_whole_number, sign_begins, word_begins, value_no_sign, whole_is_value, begins_any}
use Rattle.dim_text.specs.declared.fault.Refusal.{Refusal}
use Rattle.dim_text.specs.Statement.{Statement, Head, Leaf, Consolidated, Attribute, End, Close, signed, head, weight, part, parts, leaf, consolidated, attribute, element, ending, closing}
use Rattle.dim_text.specs.Readers.Reading.{read_head, read_weight, read_part, read_parts, read_leaf, read_consolidated, read_attribute, read_element, read_end, read_close, is_element_word}

-- nothing watches the parts of a statement
abbrev pub free : Watch Lexeme Unwatched Refusal
free = unwatched

pub head_exact : Exact free head head read_head Always
unfolding read_head
head_exact = exact_then (exact_word unscanned (codes "DIM")) (λ at. exact_then (exact_name unscanned) (λ shown. exact_then (exact_sign unscanned (codes ";")) (λ _. exact_gives free (Head at shown))))

weight_exact : Exact free weight weight read_weight (Not (is_sign (codes "*")))
unfolding read_weight
weight_exact = exact_option (is_sign (codes "*")) (pos 1) (begins_both (sign_begins (codes "*") (codes "*")))
    (exact_then (exact_sign unscanned (codes "*")) (λ _. exact_before_next (minus_exact unscanned)
    (λ negative. exact_then (exact_whole_number unscanned) (λ n. exact_gives free (signed negative n)))
    (λ negative. begins_both (value_no_sign whole_is_value (codes "-")))))

part_exact : Exact free part part read_part (Not (is_sign (codes "*")))
unfolding read_part
part_exact = exact_then (exact_name unscanned) (λ shown. exact_made (λ n. (shown, n)) weight_exact)

-- what may stand behind the components
record Behind (rest : List Lexeme) : Type 0 where
  colon : Not (is_sign (codes ":")) rest
  parts : BehindList (is_sign (codes "*")) rest

-- `: part { , part }`
abbrev given_parts : Grammar Lexeme (List (List ℕ × ℤ))
given_parts = both (one (sign (codes ":"))) (λ _. listed part part)

given_begins : Begins given_parts (is_sign (codes ":")) true
given_begins = begins_both (sign_begins (codes ":") (codes ":"))

parts_exact : Exact free parts parts read_parts Behind
unfolding read_parts
parts_exact = exact_choose {S = BehindList (is_sign (codes "*"))} {S' = Always} {S'' = Behind} (is_sign (codes ":"))
    (exact_then (exact_sign unscanned (codes ":")) (λ _. listed_exact (is_sign (codes "*")) (sign_begins (codes ",") (codes "*")) part_exact))
    (exact_gives free [])
    (λ u a rest h stops. (starts_text given_begins u a rest h, stops.parts))
    (λ u a rest nothing stops. (ap (λ x. starts (is_sign (codes ":")) (x ++ rest)) nothing.0 ∙ stops.colon, tt))

leaf_exact : Exact free leaf leaf read_leaf Always
unfolding read_leaf
leaf_exact = exact_then (exact_word unscanned (codes "N")) (λ at. exact_then (exact_name unscanned) (λ shown. exact_then (exact_sign unscanned (codes ";")) (λ _. exact_gives free (Leaf at shown))))

-- `;` at the end of a statement
abbrev closed : Statement → Grammar Lexeme Statement
closed x = both (one (sign (codes ";"))) (λ _. done x)

closed_begins : (x : Statement) (b : List ℕ) → Begins (closed x) (is_sign b) (bytes_eq (codes ";") b)
closed_begins x b = begins_both (sign_begins (codes ";") b)

consolidated_exact : Exact free consolidated consolidated read_consolidated Always
unfolding read_consolidated
consolidated_exact = exact_then (exact_word unscanned (codes "C")) (λ at. exact_then (exact_name unscanned) (λ shown. exact_both parts_exact
    (λ components. exact_then (exact_sign unscanned (codes ";")) (λ _. exact_gives free (Consolidated at shown components)))
    (λ components v b rest l _. record {
      colon = starts_text (closed_begins (Consolidated at shown components) (codes ":")) v b rest l;
      parts = behind_list (codes ";") (done (Consolidated at shown components)) (is_sign (codes "*")) (sign_begins (codes ";") (codes "*")) refl v b rest l;
    })))

attribute_exact : Exact free attribute attribute read_attribute Always
unfolding read_attribute
attribute_exact = exact_then (exact_word unscanned (codes "A")) (λ at. exact_then (exact_name unscanned) (λ shown. exact_then (exact_name unscanned)
    (λ called. exact_then (exact_sign unscanned (codes "=")) (λ _. exact_then (exact_text unscanned)
    (λ value. exact_then (exact_sign unscanned (codes ";")) (λ _. exact_gives free (Attribute at shown called value)))))))

pub element_exact : Exact free element element read_element Always
unfolding read_element
element_exact = exact_or (is_word (codes "N")) (begins_both (word_begins (codes "N") (codes "N")))
    (begins_either (begins_both (word_begins (codes "C") (codes "N"))) (begins_both (word_begins (codes "A") (codes "N"))))
    leaf_exact (exact_or (is_word (codes "C")) (begins_both (word_begins (codes "C") (codes "C"))) (begins_both (word_begins (codes "A") (codes "C"))) consolidated_exact attribute_exact)

pub end_exact : Exact free ending ending read_end Always
unfolding read_end
end_exact = exact_then (exact_word unscanned (codes "END")) (λ at. exact_gives free (End at))

pub close_exact : Exact free closing closing read_close Always
unfolding read_close
close_exact = exact_then (exact_sign unscanned (codes ";")) (λ _. exact_gives free Close)

-- whether a word begins an element's statement
pub begins_statement : (w : List ℕ) → Begins (one (word w)) is_element_word ((str_eq_ignore_ascii_case w (codes "N") || str_eq_ignore_ascii_case w (codes "C")) || str_eq_ignore_ascii_case w (codes "A"))
begins_statement w = begins_any (begins_any (word_begins w (codes "N")) (word_begins w (codes "C"))) (word_begins w (codes "A"))

pub element_begins : Begins element is_element_word true
element_begins = begins_either (begins_both (begins_statement (codes "N"))) (begins_either (begins_both (begins_statement (codes "C"))) (begins_both (begins_statement (codes "A"))))

pub end_begins : Begins ending is_element_word false
end_begins = begins_both (begins_statement (codes "END"))
