use Rattle.cube_words.specs.Words.{texts_of}
use Rattle.cube_words.proofs.Outcomes.{plan_passes}
use Rattle.cube_words.proofs.reading.words.Goals as goal

pub returns-in-Err : goal.returns-in-Err
returns-in-Err c = λ usage plan is. c.in-Err.ensures usage (plan_passes (texts_of c.args.words.now) plan is).1
