-- The arguments so far, and those of the dimensions that are left.
use Rattle.std.proofs.Common.{◌≡◌, ◌++◌, drop}
use Rattle.cube_space.specs.Layout.{sizes}
use Rattle.rule_notes.specs.Inside.Named.{own_args}
use Rattle.rule_notes.proofs.own.own_reference.Given as goal

abbrev pub invariant-each : goal.invariant-each
invariant-each l = l.args.items ++ own_args l.place (drop l.place (sizes l.model.space l.cube)) ≡ own_args 0 (sizes l.model.space l.cube)
