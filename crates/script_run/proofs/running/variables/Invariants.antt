use Rattle.std.proofs.Common.{◌≡◌, ◌++◌, map, drop}
use Rattle.script_run.specs.Load.{param_of}
use Rattle.script_run.proofs.running.variables.Given as goal

abbrev pub invariant-each : goal.invariant-each
invariant-each l =
    l.variables.items ++ map (param_of l.params) (drop l.word-index l.words) ≡ map (param_of l.params) l.words
