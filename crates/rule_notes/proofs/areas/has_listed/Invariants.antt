-- The list has those so far.
use Rattle.std.proofs.Common.{◌≡◌, ◌==◌, drop}
use Rattle.std.specs.List.{list_all, list_any}
use Rattle.rule_notes.specs.Inside.Areas.{elements_in}
use Rattle.rule_notes.proofs.areas.has_listed.Given as goal

abbrev pub invariant-each : goal.invariant-each
invariant-each l =
    list_all (λ element. list_any (λ e. e == element) l.listed) (drop l.k (elements_in l.size l.inner))
    ≡ list_all (λ element. list_any (λ e. e == element) l.listed) (elements_in l.size l.inner)
