use Rattle.std.proofs.Common.{◌+◌, ◌==◌, take}
use Rattle.std.specs.List.{list_any}
use Rattle.order_find.specs.Filing.{Adds}
use Rattle.order_find.proofs.filing.add_each.Given as goal

-- the rows of the elements so far have one more
abbrev pub invariant-each : goal.invariant-each
invariant-each l = Adds (λ n. list_any (λ element. l.first + element == n) (take l.element-index l.listed)) l.k l.initial.rows l.rows
