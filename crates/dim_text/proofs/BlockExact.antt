-- The reader of a block is exact.
use Rattle.std.proofs.Common.{List, inl, inr, true, codes}
use Rattle.cube_lex.specs.Lexeme.{Lexeme}
use Rattle.grammar.specs.Grammar.{Grammar, many}
use Rattle.grammar.proofs.Exact.{Exact, Always, Not, exact_then, exact_made}
use Rattle.grammar.proofs.Begins.{HasToken, begins_both, exact_before_next, has_token}
use Rattle.grammar.proofs.Many.{exact_rest, Shortens, shortens}
use Rattle.grammar.proofs.Checked.{exact_checked}
use Rattle.grammar.proofs.Tokens.{sign_begins}
use Rattle.dim_text.specs.Statement.{Statement, unit, head, element, ending, closing, statement, body, dimension}
use Rattle.dim_text.specs.Building.{add, building}
use Rattle.dim_text.specs.Readers.Reading.{Plain, built, read_head, read_element, read_elements, read_end, read_close, read_opening, read_ending, read_closing, read_body, read_block, is_element_word}
use Rattle.dim_text.proofs.ElementExact.{free, head_exact, element_exact, end_exact, close_exact, element_begins, end_begins, begins_statement}

-- a statement that is built in
built_exact : {G : Grammar Lexeme Statement} {P : Plain Statement} → ((u : List Lexeme) (x : Statement) → G u x → statement u x) → HasToken G → Exact free G G P Always → Exact building G G (built P) Always
built_exact into some e = exact_checked (record {}) add into some e

head_built : Exact building head head (built read_head) Always
head_built = built_exact (λ u x h. inl h) (has_token (begins_both (begins_statement (codes "DIM")))) head_exact

pub element_built : Exact building element element (built read_element) Always
element_built = built_exact (λ u x h. inr (inl h)) (has_token element_begins) element_exact

end_built : Exact building ending ending (built read_end) Always
end_built = built_exact (λ u x h. inr (inr (inl h))) (has_token end_begins) end_exact

close_built : Exact building closing closing (built read_close) Always
close_built = built_exact (λ u x h. inr (inr (inr h))) (has_token (begins_both (sign_begins (codes ";") (codes ";")))) close_exact

pub opening_exact : Exact building (unit head) (unit head) read_opening Always
unfolding read_opening
opening_exact = exact_made (λ _. tt) head_built

elements_exact : Exact building (unit (many element)) (unit (many element)) read_elements (Not is_element_word)
unfolding read_elements
elements_exact = exact_made (λ _. tt) (exact_rest is_element_word element_begins element_begins element_built)

ending_exact : Exact building (unit ending) (unit ending) read_ending Always
unfolding read_ending
ending_exact = exact_made (λ _. tt) end_built

closing_exact : Exact building (unit closing) (unit closing) read_closing Always
unfolding read_closing
closing_exact = exact_made (λ _. tt) close_built

-- what stands behind the head
pub body_exact : Exact building body body read_body Always
unfolding read_body
body_exact = exact_before_next elements_exact (λ _. exact_then ending_exact (λ _. closing_exact)) (λ _. begins_both (begins_both end_begins))

pub block_exact : Exact building dimension dimension read_block Always
unfolding read_block
block_exact = exact_then opening_exact (λ _. body_exact)

-- an element's statement has a token
pub element_shortens : Shortens read_element
element_shortens = shortens is_element_word true element_begins element_exact
