use Rattle.std.proofs.Common.{◌≡◌, drop}
use Rattle.bind_arguments.specs.Maps.{AreMapsIn}
use Rattle.rule_bind.specs.Rules.{feeders_to}
use Rattle.rule_bind.proofs.InTurn.{behind}
use Rattle.rule_bind.proofs.feeder.feeders_to.Given as goal

abbrev pub invariant-loop-target : goal.invariant-loop-target
invariant-loop-target l = record {
  turn : behind l.feeders.items (feeders_to l.space l.cube l.statement l.area (drop l.target-index l.targets))
      ≡ feeders_to l.space l.cube l.statement l.area l.targets;
  maps : AreMapsIn l.space l.maps;
}
