use Rattle.text_laws.proofs.UserTexts.{user_texts}
use Rattle.text_laws.proofs.user_texts_have_one_answer.Goals as goal

pub returns : goal.returns
returns g bytes before = user_texts bytes before
