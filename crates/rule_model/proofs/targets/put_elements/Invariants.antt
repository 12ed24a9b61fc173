use Rattle.std.proofs.Common.{◌≡◌, drop, take}
use Rattle.rule_model.specs.Targets.{elements_by}
use Rattle.rule_model.proofs.Named.{with_front}
use Rattle.rule_model.proofs.targets.put_elements.Given as goal

-- the elements so far, and those of the arguments that are left
abbrev pub invariant-each : goal.invariant-each
invariant-each l =
    elements_by l.elements l.args ≡ with_front (take l.place l.at) (elements_by l.elements (drop l.place l.args))
