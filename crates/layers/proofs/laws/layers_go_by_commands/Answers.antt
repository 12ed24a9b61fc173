use Rattle.std.proofs.Common.{◌≡◌, ◌+◌, suc, refl, arith}
use Rattle.layers.proofs.Runs.{layer_before}
use Rattle.layers.proofs.laws.layers_go_by_commands.Goals as goal

pub returns : goal.returns
returns g c =
    λ first log layer told commands. (
      refl,
      λ index one command is at.
          let next : index + 1 ≡ suc index = omega arith in
          rw next (layer_before g.W.Answering.answer g.W.Answering.after first log layer told commands index one command is at),
    )
