use Rattle.std.proofs.Common.{◌≡◌, take}
use Rattle.model_bind.specs.Rules.{asking}
use Rattle.model_bind.proofs.rule_texts.RuleTexts.asking.Given as goal

abbrev pub invariant-loop-cube : goal.invariant-loop-cube
invariant-loop-cube l = l.all.items ≡ asking (take l.cube l.self)
