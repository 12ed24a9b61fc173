-- The readers of names, cells and numbers are exact, and so are those of PUT, GET and TRACE.
use Rattle.std.proofs.Common.{ℕ, List, false, codes}
use Rattle.std.specs.Str.{bytes_eq}
use Rattle.cube_lex.specs.Lexeme.{Lexeme}
use Rattle.grammar.specs.Grammar.{Grammar, one, both, done}
use Rattle.grammar.specs.Tokens.{sign, is_sign, is_word}
use Rattle.grammar.proofs.Exact.{Exact, Always, exact_gives, exact_then}
use Rattle.grammar.proofs.Begins.{Begins, begins_both, exact_before_next}
use Rattle.grammar.proofs.Lists.{names_exact, minus_exact}
use Rattle.grammar.proofs.Tokens.{exact_sign, exact_word, exact_name, exact_money, sign_begins, sign_no_word, value_no_sign, money_is_value}
use Rattle.user_text.specs.Counting.{count, counting}
use Rattle.user_text.specs.UserText.{cell, signed, amount, put, get, trace}
use Rattle.user_text.specs.Readers.Reading.{read_cell, read_amount, read_put, read_get, read_trace}
use Rattle.user_text.specs.declared.command.UserBody.TheVariants as bodies
use Rattle.user_text.specs.declared.command.UserCommand.{UserCommand}

pub cell_exact : Exact counting cell cell read_cell Always
unfolding read_cell
cell_exact = exact_then (exact_name count) (λ cube. exact_then (exact_sign count (codes "(")) (λ _. exact_before_next (names_exact count)
    (λ elements. exact_then (exact_sign count (codes ")")) (λ _. exact_gives counting (record { cube = cube; elements = elements })))
    (λ elements. begins_both (sign_begins (codes ")") (codes ",")))))

pub amount_exact : Exact counting amount amount read_amount Always
unfolding read_amount
amount_exact = exact_before_next (minus_exact count)
    (λ negative. exact_then (exact_money count) (λ number. exact_gives counting (signed negative number)))
    (λ negative. begins_both (value_no_sign money_is_value (codes "-")))

pub put_exact : Exact counting put put read_put Always
unfolding read_put
put_exact = exact_then (exact_word count (codes "PUT")) (λ place. exact_then cell_exact (λ target. exact_then (exact_sign count (codes "=")) (λ _. exact_then amount_exact
    (λ value. exact_then (exact_sign count (codes ";")) (λ _. exact_gives counting (record { at = place; body = bodies.Put target value }))))))

pub get_exact : Exact counting get get read_get Always
unfolding read_get
get_exact = exact_then (exact_word count (codes "GET")) (λ place. exact_then cell_exact (λ target. exact_then (exact_sign count (codes ";"))
    (λ _. exact_gives counting (record { at = place; body = bodies.Get target }))))

pub trace_exact : Exact counting trace trace read_trace Always
unfolding read_trace
trace_exact = exact_then (exact_word count (codes "TRACE")) (λ place. exact_then cell_exact (λ target. exact_then (exact_sign count (codes ";"))
    (λ _. exact_gives counting (record { at = place; body = bodies.Trace target }))))

-- `;` at a command's end
abbrev pub closed : UserCommand → Grammar Lexeme UserCommand
closed x = both (one (sign (codes ";"))) (λ _. done x)

pub closed_sign : (x : UserCommand) (b : List ℕ) → Begins (closed x) (is_sign b) (bytes_eq (codes ";") b)
closed_sign x b = begins_both (sign_begins (codes ";") b)

pub closed_word : (x : UserCommand) (b : List ℕ) → Begins (closed x) (is_word b) false
closed_word x b = begins_both (sign_no_word (codes ";") b)
