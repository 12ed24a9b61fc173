use Rattle.model_text.proofs.ModelExact.{gathers_dimension_word}
use Rattle.model_text.proofs.Stopping.{rests}
use Rattle.model_text.proofs.dimensions.head_at.Goals as goal

pub returns-clause-quotable : goal.returns-clause-quotable
returns-clause-quotable c tokens = (c.in_ok-name.ensures.writable (rests gathers_dimension_word _ _ _ _ _ c.in_ok-position.ensures.read tokens)).1
