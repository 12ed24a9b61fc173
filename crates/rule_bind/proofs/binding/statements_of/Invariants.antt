use Rattle.std.proofs.Common.{◌≡◌, drop}
use Rattle.bind_arguments.specs.Maps.{AreMapsIn}
use Rattle.rule_bind.specs.Rules.{statements_of}
use Rattle.rule_bind.proofs.InTurn.{behind}
use Rattle.rule_bind.proofs.binding.statements_of.Given as goal

abbrev pub invariant-each : goal.invariant-each
invariant-each l = record {
  turn : behind l.statements.items (statements_of l.space l.cube l.before (drop l.before l.texts)) ≡ statements_of l.space l.cube 0 l.texts;
  maps : AreMapsIn l.space l.maps;
}
