use Rattle.std.proofs.Common.{◌≡◌, ◌++◌, drop}
use Rattle.cube_space.specs.Layout.{axes}
use Rattle.bind_areas.specs.Areas.{arg_at, each_at}
use Rattle.bind_areas.proofs.bracket.args_at.Given as goal

abbrev pub invariant-loop-place : goal.invariant-loop-place
invariant-loop-place l =
    l.args.items ++ each_at (arg_at l.simples l.places) l.place (drop l.place (axes l.space l.cube))
    ≡ each_at (arg_at l.simples l.places) 0 (axes l.space l.cube)
