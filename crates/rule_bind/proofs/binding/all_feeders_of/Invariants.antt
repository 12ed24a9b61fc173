use Rattle.std.proofs.Common.{◌≡◌, drop}
use Rattle.bind_arguments.specs.Maps.{AreMapsIn}
use Rattle.rule_bind.specs.Rules.{all_feeders_of}
use Rattle.rule_bind.proofs.InTurn.{behind}
use Rattle.rule_bind.proofs.binding.all_feeders_of.Given as goal

abbrev pub invariant-each : goal.invariant-each
invariant-each l = record {
  turn : behind l.feeders.items (all_feeders_of l.space l.cube l.before (drop l.before l.texts)) ≡ all_feeders_of l.space l.cube 0 l.texts;
  maps : AreMapsIn l.space l.maps;
}
