use Rattle.std.proofs.Common.{◌≡◌, ◌<◌, ℕ, None, take, get_or, pos}
use Rattle.late_example.specs.Inside.Shown.{found_at, component_cell}
use Rattle.late_example.proofs.shown.late_component.Given as goal

abbrev pub invariant-each : goal.invariant-each
invariant-each l = (j : ℕ) → j < l.k → None ≡ found_at l.model l.cell l.sought.position (component_cell l.model.space l.cube (take l.count l.at) l.dim (get_or l.parts j (0, pos 0)))
