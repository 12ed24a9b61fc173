use Rattle.text_laws.proofs.ModelTexts.{model_texts}
use Rattle.text_laws.proofs.model_texts_have_one_answer.Goals as goal

pub returns : goal.returns
returns g bytes = model_texts bytes
