use Rattle.std.proofs.Common.{◌≡◌, length}
use Rattle.script_values.specs.Values.{without_blanks_behind}
use Rattle.script_values.proofs.wanted.without_blanks_behind.Given as goal

abbrev pub invariant-blank : goal.invariant-blank
invariant-blank l = without_blanks_behind l.rest ≡ without_blanks_behind l.text

abbrev pub decreases-blank : goal.decreases-blank
decreases-blank l = length l.rest
