use Rattle.std.proofs.Common.{Err, refl, ◌∙◌, ap, subst}
use Rattle.grammar.specs.Whole.{AnswersWhole}
use Rattle.grammar.specs.declared.answer.TextFault.TheVariants.{Refused}
use Rattle.rule_tree.specs.Counting.{counting, start}
use Rattle.rule_tree.specs.RuleText.{rules}
use Rattle.grammar.proofs.WholeTexts.{whole_answered}
use Rattle.rule_reader.proofs.RulesExact.{rules_exact}
use Rattle.rule_reader.proofs.TextLimits.{within_limits}
use Rattle.rule_reader.proofs.text.parse.Goals as goal

pub returns-in-Ok-clause-answered : goal.returns-in-Ok-clause-answered
returns-in-Ok-clause-answered c =
    subst (AnswersWhole (λ text. text) rules counting start c.args.text.now) c.in-Ok.is
    (whole_answered rules_exact refl (λ text. text) c.args.text.now start (record { lexemes = c.text_tokens-tokens.result.left; end = c.text_tokens-tokens.result.end }) c.text_tokens-tokens.result.fault c.rules_at-read.result c.new-cursor.result c.rules_at-read.new.cursor c.answer_of_text.result
    c.text_tokens-tokens.ensures.found (c.new-cursor.ensures.tokens ∙ c.again.ensures) c.new-cursor.ensures.state c.rules_at-read.ensures c.answer_of_text.ensures)

pub returns-in-Ok-clause-within : goal.returns-in-Ok-clause-within
returns-in-Ok-clause-within c = let (state, whole) = returns-in-Ok-clause-answered c in within_limits c.args.text.now _ state whole

pub returns-in-Err-Syntax-clause-answered : goal.returns-in-Err-Syntax-clause-answered
returns-in-Err-Syntax-clause-answered c =
    subst (AnswersWhole (λ text. text) rules counting start c.args.text.now) (c.in-Err-Syntax.is ∙ ap (λ fault. Err fault) c.in-Err-Syntax.field-0-is)
    (whole_answered rules_exact refl (λ text. text) c.args.text.now start (record { lexemes = c.text_tokens-tokens.result.left; end = c.text_tokens-tokens.result.end }) c.text_tokens-tokens.result.fault c.rules_at-read.result c.new-cursor.result c.rules_at-read.new.cursor c.answer_of_text.result
    c.text_tokens-tokens.ensures.found (c.new-cursor.ensures.tokens ∙ c.again.ensures) c.new-cursor.ensures.state c.rules_at-read.ensures c.answer_of_text.ensures)

pub returns-in-Err-Refused-TooDeep-clause-answered : goal.returns-in-Err-Refused-TooDeep-clause-answered
returns-in-Err-Refused-TooDeep-clause-answered c =
    subst (AnswersWhole (λ text. text) rules counting start c.args.text.now) (c.in-Err-Refused-TooDeep.is ∙ ap (λ fault. Err fault) (c.in-Err-Refused-TooDeep.field-0-is ∙ ap (λ cause. Refused cause) c.in-Err-Refused-TooDeep.field-0-0-is))
    (whole_answered rules_exact refl (λ text. text) c.args.text.now start (record { lexemes = c.text_tokens-tokens.result.left; end = c.text_tokens-tokens.result.end }) c.text_tokens-tokens.result.fault c.rules_at-read.result c.new-cursor.result c.rules_at-read.new.cursor c.answer_of_text.result
    c.text_tokens-tokens.ensures.found (c.new-cursor.ensures.tokens ∙ c.again.ensures) c.new-cursor.ensures.state c.rules_at-read.ensures c.answer_of_text.ensures)

pub returns-in-Err-Refused-TooMany-clause-answered : goal.returns-in-Err-Refused-TooMany-clause-answered
returns-in-Err-Refused-TooMany-clause-answered c =
    subst (AnswersWhole (λ text. text) rules counting start c.args.text.now) (c.in-Err-Refused-TooMany.is ∙ ap (λ fault. Err fault) (c.in-Err-Refused-TooMany.field-0-is ∙ ap (λ cause. Refused cause) c.in-Err-Refused-TooMany.field-0-0-is))
    (whole_answered rules_exact refl (λ text. text) c.args.text.now start (record { lexemes = c.text_tokens-tokens.result.left; end = c.text_tokens-tokens.result.end }) c.text_tokens-tokens.result.fault c.rules_at-read.result c.new-cursor.result c.rules_at-read.new.cursor c.answer_of_text.result
    c.text_tokens-tokens.ensures.found (c.new-cursor.ensures.tokens ∙ c.again.ensures) c.new-cursor.ensures.state c.rules_at-read.ensures c.answer_of_text.ensures)
