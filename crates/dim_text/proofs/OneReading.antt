-- Tokens are statements in one way only, so they build one thing only, and a block ends by itself.
use Rattle.std.proofs.Common.{true, false, codes}
use Rattle.grammar.specs.Grammar.{one}
use Rattle.grammar.specs.Reading.{choose, both_of, unit_of, all_of}
use Rattle.grammar.specs.Tokens.{sign, is_word}
use Rattle.grammar.specs.declared.cursor.Unwatched.{Unwatched}
use Rattle.grammar.proofs.Begins.{Begins, HasToken, begins_both, begins_either, exact_or, has_token, has_token_either, exact_before_next}
use Rattle.grammar.proofs.Cuts.{Cuts}
use Rattle.grammar.proofs.Exact.{Exact, Always, exact_then, exact_made}
use Rattle.grammar.proofs.Many.{exact_rest}
use Rattle.grammar.proofs.Lists.{minus_settles, listed_settles}
use Rattle.grammar.specs.Watch.{unscanned}
use Rattle.grammar.proofs.Settles.{Settles, settles_gives, settles_one, settles_both, settles_choose, settles_all, EndsItself, ends_itself, text_cuts}
use Rattle.grammar.proofs.Tokens.{word_begins, sign_no_word, begins_any}
use Rattle.dim_text.specs.Building.{add, building}
use Rattle.dim_text.specs.Readers.Reading.{Plain, read_head, read_weight, read_part, read_parts, read_leaf, read_consolidated, read_attribute, read_element, read_end, read_close, is_element_word}
use Rattle.dim_text.specs.Statement.{Statement, head, element, closing, statement, body, dimension}
use Rattle.dim_text.proofs.ElementExact.{free, head_exact, element_exact, end_exact, close_exact, element_begins, end_begins}

-- The readers of statements never use up their turns.

pub head_settles : Settles read_head
unfolding read_head
head_settles = settles_both (settles_one _ _) (λ at. settles_both (settles_one _ _) (λ shown. settles_both (settles_one _ _) (λ _. settles_gives _)))

weight_settles : Settles read_weight
unfolding read_weight
weight_settles = settles_choose _ (settles_both (settles_one _ _) (λ _. settles_both (minus_settles unscanned) (λ negative. settles_both (settles_one _ _) (λ n. settles_gives _)))) (settles_gives _)

part_settles : Settles read_part
unfolding read_part
part_settles = settles_both (settles_one _ _) (λ shown. settles_both weight_settles (λ n. settles_gives _))

parts_settles : Settles read_parts
unfolding read_parts
parts_settles = settles_choose _ (settles_both (settles_one _ _) (λ _. listed_settles unscanned part_settles)) (settles_gives _)

leaf_settles : Settles read_leaf
unfolding read_leaf
leaf_settles = settles_both (settles_one _ _) (λ at. settles_both (settles_one _ _) (λ shown. settles_both (settles_one _ _) (λ _. settles_gives _)))

consolidated_settles : Settles read_consolidated
unfolding read_consolidated
consolidated_settles = settles_both (settles_one _ _) (λ at. settles_both (settles_one _ _) (λ shown. settles_both parts_settles (λ components. settles_both (settles_one _ _) (λ _. settles_gives _))))

attribute_settles : Settles read_attribute
unfolding read_attribute
attribute_settles = settles_both (settles_one _ _) (λ at. settles_both (settles_one _ _) (λ shown. settles_both (settles_one _ _) (λ called. settles_both (settles_one _ _) (λ _. settles_both (settles_one _ _) (λ value. settles_both (settles_one _ _) (λ _. settles_gives _))))))

pub element_settles : Settles read_element
unfolding read_element
element_settles = settles_choose _ leaf_settles (settles_choose _ consolidated_settles attribute_settles)

pub end_settles : Settles read_end
unfolding read_end
end_settles = settles_both (settles_one _ _) (λ at. settles_gives _)

pub close_settles : Settles read_close
unfolding read_close
close_settles = settles_both (settles_one _ _) (λ _. settles_gives _)

-- The reader of any statement.

abbrev read_statement : Plain Statement
read_statement = choose (is_word (codes "DIM")) read_head (choose is_element_word read_element (choose (is_word (codes "END")) read_end read_close))

element_no_head : Begins element (is_word (codes "DIM")) false
element_no_head = begins_either (begins_both (word_begins (codes "N") (codes "DIM"))) (begins_either (begins_both (word_begins (codes "C") (codes "DIM"))) (begins_both (word_begins (codes "A") (codes "DIM"))))

sign_no_element : Begins (one (sign (codes ";"))) is_element_word false
sign_no_element = begins_any (begins_any (sign_no_word (codes ";") (codes "N")) (sign_no_word (codes ";") (codes "C"))) (sign_no_word (codes ";") (codes "A"))

statement_exact : Exact free statement statement read_statement Always
statement_exact = exact_or (is_word (codes "DIM")) (begins_both (word_begins (codes "DIM") (codes "DIM")))
    (begins_either element_no_head (begins_either (begins_both (word_begins (codes "END") (codes "DIM"))) (begins_both (sign_no_word (codes ";") (codes "DIM")))))
    head_exact
    (exact_or is_element_word element_begins (begins_either end_begins (begins_both sign_no_element))
    element_exact
    (exact_or (is_word (codes "END")) (begins_both (word_begins (codes "END") (codes "END"))) (begins_both (sign_no_word (codes ";") (codes "END"))) end_exact close_exact))

statement_settles : Settles read_statement
statement_settles = settles_choose _ head_settles (settles_choose _ element_settles (settles_choose _ end_settles close_settles))

start : Unwatched
start = record {}

statement_ends_itself : EndsItself statement
statement_ends_itself = ends_itself statement_exact statement_settles start

-- Statements one after another.

head_begins : Begins head (is_word (codes "DIM")) true
head_begins = begins_both (word_begins (codes "DIM") (codes "DIM"))

close_begins : Begins closing (is_word (codes "DIM")) false
close_begins = begins_both (sign_no_word (codes ";") (codes "DIM"))

statement_has_token : HasToken statement
statement_has_token = has_token_either (has_token head_begins) (has_token_either (has_token element_begins) (has_token_either (has_token end_begins) (has_token close_begins)))

pub building_cuts : Cuts building
building_cuts = text_cuts statement add statement_ends_itself statement_has_token

-- The body, and the whole block.

abbrev plain_body : Plain (Unit {0})
plain_body = both_of (unit_of (all_of is_element_word read_element)) (λ _. both_of (unit_of read_end) (λ _. unit_of read_close))

plain_body_exact : Exact free body body plain_body Always
plain_body_exact = exact_before_next (exact_made (λ _. tt) (exact_rest is_element_word element_begins element_begins element_exact)) (λ _. exact_then (exact_made (λ _. tt) end_exact) (λ _. exact_made (λ _. tt) close_exact)) (λ _. begins_both (begins_both end_begins))

plain_body_settles : Settles plain_body
plain_body_settles = settles_both (settles_both (settles_all is_element_word element_settles) (λ _. settles_gives tt))
    (λ _. settles_both (settles_both end_settles (λ _. settles_gives tt)) (λ _. settles_both close_settles (λ _. settles_gives tt)))

pub body_ends_itself : EndsItself body
body_ends_itself = ends_itself plain_body_exact plain_body_settles start

plain_block_exact : Exact free dimension dimension (both_of (unit_of read_head) (λ _. plain_body)) Always
plain_block_exact = exact_then (exact_made (λ _. tt) head_exact) (λ _. plain_body_exact)

pub dimension_ends_itself : EndsItself dimension
dimension_ends_itself = ends_itself plain_block_exact (settles_both (settles_both head_settles (λ _. settles_gives tt)) (λ _. plain_body_settles)) start
