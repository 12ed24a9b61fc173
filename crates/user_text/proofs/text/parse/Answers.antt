use Rattle.std.proofs.Common.{Err, refl, ◌∙◌, ap, subst}
use Rattle.grammar.specs.Whole.{AnswersWhole}
use Rattle.user_text.specs.Counting.{counting, counted_from}
use Rattle.user_text.specs.UserText.{user}
use Rattle.grammar.proofs.WholeTexts.{whole_answered}
use Rattle.user_text.proofs.UserExact.{user_exact}
use Rattle.user_text.proofs.text.parse.Goals as goal

pub returns-in-Ok : goal.returns-in-Ok
returns-in-Ok c =
    subst (AnswersWhole (λ commands. commands.items) user counting (counted_from c.args.before) c.args.text.now) c.in-Ok.is
    (whole_answered user_exact refl (λ commands. commands.items) c.args.text.now (counted_from c.args.before) _ c.text_tokens-tokens.result.fault c.commands_at-read.result c.new-cursor.result c.commands_at-read.new.cursor c.answer_of_text.result
    c.text_tokens-tokens.ensures.found (c.new-cursor.ensures.tokens ∙ c.again.ensures) c.new-cursor.ensures.state c.commands_at-read.ensures c.answer_of_text.ensures)

pub returns-in-Err-Syntax : goal.returns-in-Err-Syntax
returns-in-Err-Syntax c =
    subst (AnswersWhole (λ commands. commands.items) user counting (counted_from c.args.before) c.args.text.now) (c.in-Err-Syntax.is ∙ ap (λ fault. Err fault) c.in-Err-Syntax.field-0-is)
    (whole_answered user_exact refl (λ commands. commands.items) c.args.text.now (counted_from c.args.before) _ c.text_tokens-tokens.result.fault c.commands_at-read.result c.new-cursor.result c.commands_at-read.new.cursor c.answer_of_text.result
    c.text_tokens-tokens.ensures.found (c.new-cursor.ensures.tokens ∙ c.again.ensures) c.new-cursor.ensures.state c.commands_at-read.ensures c.answer_of_text.ensures)

pub returns-in-Err-Refused : goal.returns-in-Err-Refused
returns-in-Err-Refused c =
    subst (AnswersWhole (λ commands. commands.items) user counting (counted_from c.args.before) c.args.text.now) (c.in-Err-Refused.is ∙ ap (λ fault. Err fault) c.in-Err-Refused.field-0-is)
    (whole_answered user_exact refl (λ commands. commands.items) c.args.text.now (counted_from c.args.before) _ c.text_tokens-tokens.result.fault c.commands_at-read.result c.new-cursor.result c.commands_at-read.new.cursor c.answer_of_text.result
    c.text_tokens-tokens.ensures.found (c.new-cursor.ensures.tokens ∙ c.again.ensures) c.new-cursor.ensures.state c.commands_at-read.ensures c.answer_of_text.ensures)
