use Rattle.std.proofs.Common.{◌≡◌, ◌≤◌, ◌++◌, drop}
use Rattle.script_values.specs.Characters.{cut_out, is_within}
use Rattle.script_values.proofs.CutOut.{chosen_behind}
use Rattle.script_values.proofs.characters.cut_out.Given as goal

abbrev pub invariant-each : goal.invariant-each
invariant-each l =
    (l.chosen.items ++ chosen_behind (is_within l.start l.count) l.place (drop l.byte-index l.text) ≡ cut_out l.text l.start l.count)
    × (l.place ≤ l.byte-index)
