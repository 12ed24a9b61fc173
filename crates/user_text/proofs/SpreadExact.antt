-- The readers of SPREAD are exact.
use Rattle.std.proofs.Common.{codes}
use Rattle.grammar.specs.Tokens.{is_word}
use Rattle.grammar.proofs.Exact.{Exact, Always, exact_gives, exact_then}
use Rattle.grammar.proofs.Begins.{begins_both, exact_or}
use Rattle.grammar.proofs.Tokens.{exact_sign, exact_word, word_begins}
use Rattle.user_text.specs.Counting.{count, counting}
use Rattle.user_text.specs.UserText.{spread_word, spread}
use Rattle.user_text.specs.Readers.Reading.{read_spread_word, read_spread}
use Rattle.user_text.specs.declared.command.SpreadWord.TheVariants as spread_words
use Rattle.user_text.specs.declared.command.UserBody.TheVariants as bodies
use Rattle.user_text.proofs.CellExact.{cell_exact, amount_exact}

spread_word_exact : Exact counting spread_word spread_word read_spread_word Always
unfolding read_spread_word
spread_word_exact = exact_or (is_word (codes "EQUAL")) (begins_both (word_begins (codes "EQUAL") (codes "EQUAL"))) (begins_both (word_begins (codes "PROPORTIONAL") (codes "EQUAL")))
    (exact_then (exact_word count (codes "EQUAL")) (λ _. exact_gives counting spread_words.Equal))
    (exact_then (exact_word count (codes "PROPORTIONAL")) (λ _. exact_gives counting spread_words.Proportional))

pub spread_exact : Exact counting spread spread read_spread Always
unfolding read_spread
spread_exact = exact_then (exact_word count (codes "SPREAD")) (λ place. exact_then cell_exact (λ target. exact_then (exact_sign count (codes "=")) (λ _. exact_then amount_exact
    (λ value. exact_then spread_word_exact (λ how. exact_then (exact_sign count (codes ";")) (λ _. exact_gives counting (record { at = place; body = bodies.Spread target value how })))))))
