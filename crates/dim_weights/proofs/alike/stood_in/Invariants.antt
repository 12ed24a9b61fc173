use Rattle.std.proofs.Common.{◌≡◌, take}
use Rattle.dim_weights.specs.Inside.Alike.{stood_in}
use Rattle.dim_weights.proofs.alike.stood_in.Given as goal

abbrev pub invariant-parts : goal.invariant-parts
invariant-parts l = l.made.items ≡ stood_in l.alike (take l.part-index l.parts)
