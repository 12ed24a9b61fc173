use Rattle.std.proofs.Common.{◌≡◌, drop}
use Rattle.rule_model.specs.Inside.Parts.{is_open_by}
use Rattle.rule_model.proofs.input.is_open.Given as goal

-- those so far go on
abbrev pub invariant-each : goal.invariant-each
invariant-each l = is_open_by l.statements l.elements ≡ is_open_by (drop l.place l.statements) l.elements
