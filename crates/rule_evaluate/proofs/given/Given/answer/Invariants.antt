use Rattle.std.proofs.Common.{◌≡◌, drop}
use Rattle.rule_evaluate.specs.Known.{listed}
use Rattle.rule_evaluate.proofs.given.Given.answer.Given as goal

abbrev pub invariant-loop-asked : goal.invariant-loop-asked
invariant-loop-asked l = listed (drop l.asked-index l.asked-items) l.question ≡ listed l.asked-items l.question
