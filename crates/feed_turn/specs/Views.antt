-- What is turned round, as the code has it.
use Rattle.std.specs.Prelude.{◌≡◌, ℕ, ◌<◌, Option, Some, List, length, slice_index_or}
use Rattle.cube_space.specs.Layout.{axes, sizes}
use Rattle.cube_space.specs.Cells.{IsSpace}
use Rattle.rule_model.specs.Conditions.{IsArea, IsReference}
use Rattle.feed_turn.specs.declared.turn_view.TurnView.{TurnView}
use Rattle.cover_laws.specs.Looking.{sent}
use Rattle.feed_turn.specs.Turning.{Turn}

abbrev pub turn_of : TurnView → Turn
turn_of view = record {
  space = view.model.now.space;
  cube = view.cube;
  area = view.area.now;
  reference = view.reference.now;
}

-- a cube of the model, an area of it, and a reference from it
pub record IsTurn (view : TurnView) : Type 0 where
  pub valid : IsSpace view.model.now.space
  pub cube : view.cube < length view.model.now.space.cubes
  pub area : IsArea view.model.now.space view.cube view.area.now
  pub reference : IsReference view.model.now.space view.cube view.reference.now

-- the argument at a place moves elements of a dimension of the statement's cube by this map
pub record IsMoved (view : TurnView) (dim place : ℕ) (to : List (Option ℕ)) : Type 0 where
  pub own : dim < length (axes view.model.now.space view.cube)
  pub its : place < length (axes view.model.now.space view.reference.now.cube)
  pub whole : length to ≡ slice_index_or (sizes view.model.now.space view.cube) dim 0
  pub sends : (element target : ℕ) → sent to element ≡ Some target
      → target < slice_index_or (sizes view.model.now.space view.reference.now.cube) place 0
