use Rattle.std.proofs.Common.{◌≡◌, ◌++◌, take}
use Rattle.std.specs.Prelude.{codes}
use Rattle.std.specs.List.{flat_map}
use Rattle.cube_server.specs.Output.{quoted_name}
use Rattle.cube_server.proofs.print.push_circle.Given as goal

abbrev pub invariant-loop-name : goal.invariant-loop-name
invariant-loop-name l = l.text.items ≡ (l.fn.text.items ++ codes "Cycle") ++ flat_map quoted_name (take l.name-index l.names)
