-- What is looked at, as the code has it.
use Rattle.std.specs.Prelude.{◌≡◌, ℕ, ◌<◌, ⊤, Bool, true, None, slice_index_or}
use Rattle.cube_space.specs.Layout.{axes}
use Rattle.cube_space.specs.Cells.{IsSpace}
use Rattle.rule_model.specs.BoundModel.{BoundModel}
use Rattle.rule_model.specs.Areas.{in_set}
use Rattle.rule_model.specs.Conditions.{IsArea, IsReference}
use Rattle.std.specs.Prelude.{length}
use Rattle.cover_laws.specs.Looking.{Look, all_named}
use Rattle.cover_laws.specs.Covered.{has_leaves, are_sources}
use Rattle.feed_cover.specs.declared.sourced.Sourced.{Sourced}
use Rattle.feed_cover.specs.declared.reference_view.Counted.{Counted}
use Rattle.feed_cover.specs.declared.reference_view.Counted.TheVariants.{All, Leaves, Within}
use Rattle.feed_cover.specs.declared.reference_view.ReferenceView.{ReferenceView}

-- which elements count of a cube's dimensions
abbrev pub counts_of : Counted → BoundModel → ℕ → ℕ → ℕ → Bool
counts_of All model cube j = λ element. true
counts_of Leaves model cube j = has_leaves (axes model.space cube) j
counts_of (Within area) model cube j = in_set (slice_index_or area.now.sets j None)

abbrev pub look_of : BoundModel → ReferenceView → Look
look_of model view = record {
  space = model.space;
  cube = view.cube;
  area = view.area.now;
  args = view.reference.now.args;
  counts = counts_of view.counted model view.reference.now.cube;
}

-- an area in which elements count is one of the reference's cube
abbrev pub IsCounted : BoundModel → ℕ → Counted → Type 0
IsCounted model cube All = ⊤
IsCounted model cube Leaves = ⊤
IsCounted model cube (Within area) = IsArea model.space cube area.now

-- a cube of the model, an area of it, and a reference from it
pub record IsView (model : BoundModel) (view : ReferenceView) : Type 0 where
  pub valid : IsSpace model.space
  pub cube : view.cube < length model.space.cubes
  pub area : IsArea model.space view.cube view.area.now
  pub reference : IsReference model.space view.cube view.reference.now
  pub counted : IsCounted model view.reference.now.cube view.counted

-- what is known of an area of the reference's cube is right: whether each leaf below what the reference names is among
-- the sources of a feeder of this area
pub record IsSourced (model : BoundModel) (view : ReferenceView) (sourced : Sourced) : Type 0 where
  pub is : sourced.is ≡ all_named (look_of model view)
      (are_sources (axes model.space view.reference.now.cube) sourced.area.now.sets) 0 view.reference.now.args
