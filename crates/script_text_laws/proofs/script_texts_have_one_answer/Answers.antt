use Rattle.script_text_laws.proofs.ScriptTexts.{script_texts}
use Rattle.script_text_laws.proofs.script_texts_have_one_answer.Goals as goal

pub returns : goal.returns
returns g bytes = script_texts bytes
