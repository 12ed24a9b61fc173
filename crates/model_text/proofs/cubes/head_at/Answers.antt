use Rattle.model_text.proofs.ModelExact.{gathers_cube_word}
use Rattle.model_text.proofs.Stopping.{rests}
use Rattle.model_text.proofs.cubes.head_at.Goals as goal

pub returns-clause-writable : goal.returns-clause-writable
returns-clause-writable c tokens = c.in_ok-name.ensures.writable (rests gathers_cube_word _ _ _ _ _ c.in_ok-position.ensures.read tokens)
