-- A cube whose statements are gone over, as the code has it.
use Rattle.std.specs.Prelude.{◌≡◌, ◌<◌, length, map}
use Rattle.rule_model.specs.BoundModel.{rules_of}
use Rattle.rule_notes.specs.declared.cube_view.CubeView.{CubeView}
use Rattle.rule_notes.specs.Inside.Finals.{finals_of}
use Rattle.rule_notes.specs.Inside.Named.{own_reference}

-- a cube of the model, which parts of its statements are final, and the reference by which each cell names itself
pub record IsView (view : CubeView) : Type 0 where
  pub cube : view.cube < length view.model.now.space.cubes
  pub finals : view.finals.now ≡ map finals_of (rules_of view.model.now view.cube).statements
  pub own : view.own.now ≡ own_reference view.model.now.space view.cube
