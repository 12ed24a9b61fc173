-- What is remembered from reference to reference of a cube's statements.
use Rattle.std.specs.Prelude.{◌≡◌, ℕ, Option, Some, None, List, [], All, length, slice_get, slice_index_or}
use Rattle.cube_space.specs.Layout.{axes}
use Rattle.rule_laws.specs.declared.reference.Arg.TheVariants.{Moved}
use Rattle.rule_model.specs.BoundModel.{BoundModel}
use Rattle.rule_model.specs.declared.area.Area.{Area}
use Rattle.feed_turn.specs.declared.turns.Moving.{Moving}
use Rattle.feed_turn.specs.declared.turns.Known.{Known}
use Rattle.feed_turn.specs.declared.turns.Turns.{Turns}
use Rattle.feed_turn.specs.Turning.{Turn, area_over, map_back, source_set}

-- how the argument at a place of a reference to a cube moves the elements of a dimension
pub record Move : Type 0 where
  pub cube : ℕ
  pub dim : ℕ
  pub place : ℕ
  pub to : List (Option ℕ)

abbrev pub move_of : Moving → Move
move_of moving = record {
  cube = moving.cube;
  dim = moving.dim;
  place = moving.place;
  to = moving.to.now;
}

-- a reference to that cube is turned round, from an area that has all elements of the dimension
pub record IsTurnOf (model : BoundModel) (cube : ℕ) (move : Move) (turn : Turn) : Type 0 where
  pub space : turn.space ≡ model.space
  pub own : turn.cube ≡ cube
  pub its : turn.reference.cube ≡ move.cube
  pub all : slice_index_or turn.area.sets move.dim None ≡ None

-- whichever it is, this is the map back, or the set that is named
abbrev pub IsBack : BoundModel → ℕ → Move → Option (List (Option ℕ)) → Type 0
IsBack model cube move found =
    (turn : Turn) → IsTurnOf model cube move turn → found ≡ map_back turn move.dim move.place move.to

abbrev pub IsSource : BoundModel → ℕ → Move → Option (List ℕ) → Type 0
IsSource model cube move found =
    (turn : Turn) → IsTurnOf model cube move turn → found ≡ source_set turn move.place (Moved move.dim move.to)

abbrev pub AreBacks : BoundModel → ℕ → List (Known (Option (List (Option ℕ)))) → Type 0
AreBacks model cube known = All (λ one. IsBack model cube (move_of one.moving) one.found) known

abbrev pub AreSources : BoundModel → ℕ → List (Known (Option (List ℕ))) → Type 0
AreSources model cube known = All (λ one. IsSource model cube (move_of one.moving) one.found) known

-- all cells of a cube
abbrev pub whole_area : Area
whole_area = record { sets = [] }

-- for each dimension the element over its leaves, if it was asked for
pub record AreOvers (model : BoundModel) (cube : ℕ) (overs : List (Option (Option ℕ))) : Type 0 where
  pub whole : length overs ≡ length (axes model.space cube)
  pub known : (i : ℕ) (over : Option ℕ) → slice_get overs i ≡ Some (Some over)
      → over ≡ area_over model.space cube whole_area i

-- all that is remembered of a cube
pub record AreTurns (model : BoundModel) (cube : ℕ) (turns : Turns) : Type 0 where
  pub overs : AreOvers model cube turns.overs.items
  pub backs : AreBacks model cube turns.backs.items
  pub sets : AreSources model cube turns.sets.items
