use Rattle.std.proofs.Common.{◌≡◌, ◌==◌, true, length, ◌&&◌, get_or, refl, sym, ap, ◌∙◌}
use Rattle.std.specs.List.{list_all}
use Rattle.cube_lex.specs.Bytes.{starts_word, is_word_byte}
use Rattle.rule_printer.proofs.WritableTrees.{word_parts}
use Rattle.rule_printer.specs.Spelled.{is_word_text}
use Rattle.rule_printer.proofs.parts.is_word_text.Goals as goal

pub returns-then-starts_word : goal.returns-then-starts_word
returns-then-starts_word c =
    let begins : starts_word (get_or c.args.bytes.now 0 0) ≡ true = sym c.starts_word.ensures ∙ c.if-starts_word.true in
    let parts : is_word_text c.args.bytes.now ≡ (starts_word (get_or c.args.bytes.now 0 0) && list_all is_word_byte c.split_at.result.1.now) =
    word_parts c.args.bytes.now c.split_at.result.1.now (get_or c.args.bytes.now 0 0) (λ none. (let empty : c.is_empty.result ≡ true = c.is_empty.ensures ∙ ap (λ l. length l == 0) none in cc (empty, c.if-is_empty.false))) refl c.split_at.ensures.back in
    c.are_word_bytes.ensures ∙ sym (parts ∙ ap (λ b. b && list_all is_word_byte c.split_at.result.1.now) begins)
