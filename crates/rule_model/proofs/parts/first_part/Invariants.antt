use Rattle.std.proofs.Common.{◌≡◌}
use Rattle.rule_model.specs.Inside.Parts.{first_part}
use Rattle.rule_model.proofs.parts.first_part.Given as goal

-- none so far has a part
abbrev pub invariant-loop-place : goal.invariant-loop-place
invariant-loop-place l = first_part l.statements l.elements l.is_leaf l.from ≡ first_part l.statements l.elements l.is_leaf l.place
