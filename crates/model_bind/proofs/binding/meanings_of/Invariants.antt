use Rattle.std.proofs.Common.{take}
use Rattle.bind_arguments.specs.Maps.{AreMapsIn}
use Rattle.model_bind.specs.Rules.{meaning_stage}
use Rattle.model_bind.proofs.CubeRules.{AreFirst}
use Rattle.model_bind.proofs.Stages.{AreFound}
use Rattle.model_bind.proofs.binding.meanings_of.Given as goal

-- the texts so far mean these rules
abbrev pub invariant-loop-cube : goal.invariant-loop-cube
invariant-loop-cube l = record {
  meant : AreFound (meaning_stage l.space l.files) 0 (take l.cube l.texts) l.all.items;
  rules : AreFirst l.space l.all.items l.cube;
  maps : AreMapsIn l.space l.maps;
}
