use Rattle.std.proofs.Common.{◌≡◌, length}
use Rattle.script_values.specs.Values.{without_blanks}
use Rattle.script_values.proofs.wanted.without_blanks.Given as goal

abbrev pub invariant-blank : goal.invariant-blank
invariant-blank l = without_blanks l.rest ≡ without_blanks l.text

abbrev pub decreases-blank : goal.decreases-blank
decreases-blank l = length l.rest
