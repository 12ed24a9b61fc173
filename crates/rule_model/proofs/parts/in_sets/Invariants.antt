use Rattle.std.proofs.Common.{◌≡◌, drop}
use Rattle.rule_model.specs.Areas.{in_sets}
use Rattle.rule_model.proofs.parts.in_sets.Given as goal

-- those so far are in their sets
abbrev pub invariant-loop-place : goal.invariant-loop-place
invariant-loop-place l = in_sets l.sets l.elements ≡ in_sets (drop l.place l.sets) (drop l.place l.elements)
