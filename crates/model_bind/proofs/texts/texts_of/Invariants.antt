use Rattle.model_bind.proofs.RuleTexts.{AreTexts}
use Rattle.model_bind.proofs.texts.texts_of.Given as goal

-- the cubes so far have these texts
abbrev pub invariant-loop-cube : goal.invariant-loop-cube
invariant-loop-cube l = AreTexts l.files l.cube l.texts
