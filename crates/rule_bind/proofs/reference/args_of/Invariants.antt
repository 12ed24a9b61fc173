use Rattle.std.proofs.Common.{◌≡◌, drop}
use Rattle.bind_arguments.specs.Maps.{AreMapsIn}
use Rattle.rule_bind.specs.References.{args_of}
use Rattle.rule_bind.proofs.InTurn.{behind}
use Rattle.rule_bind.proofs.reference.args_of.Given as goal

abbrev pub invariant-each : goal.invariant-each
invariant-each l = record {
  turn : behind l.args.items (args_of l.space l.cube (drop l.index l.dims) (drop l.index l.trees)) ≡ args_of l.space l.cube l.dims l.trees;
  maps : AreMapsIn l.space l.maps;
}
