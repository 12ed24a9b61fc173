use Rattle.std.proofs.Common.{Err, ◌∙◌, ap, subst}
use Rattle.grammar.specs.Whole.{AnswersWhole}
use Rattle.grammar.specs.declared.answer.TextFault.TheVariants.{Refused}
use Rattle.script_tree.specs.Counting.{counting, start}
use Rattle.script_tree.specs.ScriptText.{script}
use Rattle.script_reader.specs.Answers.{FromStart}
use Rattle.script_reader.proofs.Answering.{from_start}
use Rattle.script_reader.proofs.text.parse.Goals as goal

pub returns-in-Ok : goal.returns-in-Ok
returns-in-Ok c =
    subst (λ r. FromStart c.args.text.now (λ s. AnswersWhole (λ tree. tree) script counting s c.args.text.now r)) c.in-Ok.is
    (from_start (λ tree. tree) c.args.text.now (record { lexemes = c.text_tokens-tokens.result.left; end = c.text_tokens-tokens.result.end }) c.text_tokens-tokens.result.fault c.script_at-read.result c.new-cursor.result c.script_at-read.new.cursor c.answer_of_text.result
    c.text_tokens-tokens.ensures.found (c.new-cursor.ensures.tokens ∙ c.again-2.ensures) (c.new-cursor.ensures.state ∙ c.begun-start.ensures ∙ ap start c.again.ensures) c.script_at-read.ensures c.answer_of_text.ensures)

pub returns-in-Err-Syntax : goal.returns-in-Err-Syntax
returns-in-Err-Syntax c =
    subst (λ r. FromStart c.args.text.now (λ s. AnswersWhole (λ tree. tree) script counting s c.args.text.now r)) (c.in-Err-Syntax.is ∙ ap (λ fault. Err fault) c.in-Err-Syntax.field-0-is)
    (from_start (λ tree. tree) c.args.text.now (record { lexemes = c.text_tokens-tokens.result.left; end = c.text_tokens-tokens.result.end }) c.text_tokens-tokens.result.fault c.script_at-read.result c.new-cursor.result c.script_at-read.new.cursor c.answer_of_text.result
    c.text_tokens-tokens.ensures.found (c.new-cursor.ensures.tokens ∙ c.again-2.ensures) (c.new-cursor.ensures.state ∙ c.begun-start.ensures ∙ ap start c.again.ensures) c.script_at-read.ensures c.answer_of_text.ensures)

pub returns-in-Err-Refused-UnknownFunction : goal.returns-in-Err-Refused-UnknownFunction
returns-in-Err-Refused-UnknownFunction c =
    subst (λ r. FromStart c.args.text.now (λ s. AnswersWhole (λ tree. tree) script counting s c.args.text.now r)) (c.in-Err-Refused-UnknownFunction.is ∙ ap (λ fault. Err fault) (c.in-Err-Refused-UnknownFunction.field-0-is ∙ ap (λ cause. Refused cause) c.in-Err-Refused-UnknownFunction.field-0-0-is))
    (from_start (λ tree. tree) c.args.text.now (record { lexemes = c.text_tokens-tokens.result.left; end = c.text_tokens-tokens.result.end }) c.text_tokens-tokens.result.fault c.script_at-read.result c.new-cursor.result c.script_at-read.new.cursor c.answer_of_text.result
    c.text_tokens-tokens.ensures.found (c.new-cursor.ensures.tokens ∙ c.again-2.ensures) (c.new-cursor.ensures.state ∙ c.begun-start.ensures ∙ ap start c.again.ensures) c.script_at-read.ensures c.answer_of_text.ensures)

pub returns-in-Err-Refused-TooDeep : goal.returns-in-Err-Refused-TooDeep
returns-in-Err-Refused-TooDeep c =
    subst (λ r. FromStart c.args.text.now (λ s. AnswersWhole (λ tree. tree) script counting s c.args.text.now r)) (c.in-Err-Refused-TooDeep.is ∙ ap (λ fault. Err fault) (c.in-Err-Refused-TooDeep.field-0-is ∙ ap (λ cause. Refused cause) c.in-Err-Refused-TooDeep.field-0-0-is))
    (from_start (λ tree. tree) c.args.text.now (record { lexemes = c.text_tokens-tokens.result.left; end = c.text_tokens-tokens.result.end }) c.text_tokens-tokens.result.fault c.script_at-read.result c.new-cursor.result c.script_at-read.new.cursor c.answer_of_text.result
    c.text_tokens-tokens.ensures.found (c.new-cursor.ensures.tokens ∙ c.again-2.ensures) (c.new-cursor.ensures.state ∙ c.begun-start.ensures ∙ ap start c.again.ensures) c.script_at-read.ensures c.answer_of_text.ensures)
