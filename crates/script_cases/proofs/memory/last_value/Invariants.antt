use Rattle.std.proofs.Common.{◌≡◌, drop}
use Rattle.script_cases.specs.Memory.{last_value}
use Rattle.script_cases.proofs.memory.last_value.Given as goal

abbrev pub invariant-each : goal.invariant-each
invariant-each l = last_value l.cell l.last (drop l.write-index l.writes) ≡ last_value l.cell l.fn.value l.writes
