use Rattle.rule_text_laws.proofs.RuleTexts.{rule_texts}
use Rattle.rule_text_laws.proofs.rule_texts_have_one_answer.Goals as goal

pub returns : goal.returns
returns g = rule_texts
