-- Those so far are the passes of the first sessions.
use Rattle.std.proofs.Common.{◌≡◌, map, take}
use Rattle.sessions.proofs.closing.passes_of.Given as goal

abbrev pub invariant-each : goal.invariant-each
invariant-each g l = map (λ pass. pass.value) l.passes.items ≡ map (λ session. session.pass) (take l.place l.sessions)
