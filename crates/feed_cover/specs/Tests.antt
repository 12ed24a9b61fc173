-- What may be asked about by the tests of elements.
use Rattle.std.specs.Prelude.{◌≡◌, ℕ, ◌<◌, Bool, true, Some, length, List, Option, slice_get, slice_index_or, suc}
use Rattle.std.specs.Prelude.{◌&&◌, [], ◌∷◌}
use Rattle.std.specs.Option.{option_map_or}
use Rattle.cube_space.specs.Layout.{axes, sizes}
use Rattle.rule_laws.specs.declared.reference.Arg.{Arg}
use Rattle.rule_laws.specs.declared.reference.Arg.TheVariants.{Fixed, Moved}
use Rattle.rule_model.specs.BoundModel.{BoundModel}
use Rattle.cover_laws.specs.Looking.{Look, sent}
use Rattle.cover_laws.specs.Covered.{counts_in, each_sent, stands_over}
use Rattle.feed_cover.specs.declared.back.Back.{Back}
use Rattle.feed_cover.specs.declared.overs.OneOver.{OneOver}
use Rattle.feed_cover.specs.declared.reference_view.ReferenceView.{ReferenceView}
use Rattle.feed_cover.specs.Views.{IsView}

-- a dimension of a cube of the model
pub record IsAxis (model : BoundModel) (cube dim : ℕ) : Type 0 where
  pub there : cube < length model.space.cubes
  pub inside : dim < length (axes model.space cube)

-- an element of it
pub record IsElementOf (model : BoundModel) (cube dim element : ℕ) : Type 0 where
  pub axis : IsAxis model cube dim
  pub within : element < slice_index_or (sizes model.space cube) dim 0

-- a dimension of the cube that is looked from, and a dimension of the reference's cube with a map to the former
pub record IsWay (model : BoundModel) (view : ReferenceView) (dim place : ℕ) (to : List (Option ℕ)) : Type 0 where
  pub is_view : IsView model view
  pub own : dim < length (axes model.space view.cube)
  pub its : place < length (axes model.space view.reference.now.cube)
  pub whole : length to ≡ slice_index_or (sizes model.space view.reference.now.cube) place 0
  pub sends : (leaf over : ℕ) → sent to leaf ≡ Some over
      → over < slice_index_or (sizes model.space view.cube) dim 0

-- each leaf that counts in an element is sent to this one, so that whatever is asked of where they are sent is asked of
-- it alone
pub record IsOneOver (model : BoundModel) (view : ReferenceView) (dim place : ℕ) (to : List (Option ℕ))
    (target over : ℕ) : Type 0 where
  pub asked : (test : ℕ → Bool)
      → each_sent (axes model.space view.reference.now.cube) place to test target ≡ test over
  pub within : over < slice_index_or (sizes model.space view.cube) dim 0

-- and each that is remembered is right
abbrev pub AreOvers : BoundModel → ReferenceView → ℕ → ℕ → List (Option ℕ) → List (Option OneOver) → Type 0
AreOvers model view dim place to kept =
    (k : ℕ) (known : OneOver) → slice_get kept k ≡ Some (Some known)
    → IsOneOver model view dim place to known.target known.over

-- a way to a dimension, and the map by which the reference's argument there follows that dimension
pub record IsBack (back : Back) : Type 0 where
  pub way : IsWay back.model.now back.view back.dim back.place back.to.now
  pub sends : (element target : ℕ) → sent back.by.now element ≡ Some target
      → target < slice_index_or (sizes back.model.now.space back.view.reference.now.cube) back.place 0

-- whether an element counts in another one
abbrev pub counts_over : Back → ℕ → ℕ → Bool
counts_over back element over = counts_in (axes back.model.now.space back.view.cube) back.dim over element

-- each leaf that counts in what an element is sent to, if anywhere, is sent back to one in which the element counts
abbrev pub is_sent_back : Back → ℕ → Bool
is_sent_back back element =
    option_map_or (each_sent (axes back.model.now.space back.view.reference.now.cube) back.place back.to.now
    (counts_over back element)) (sent back.by.now element) true

-- each of these arguments of a feeder, which begin at this dimension, that names one element names one over each narrow
-- element of the dimension
abbrev pub fixed_reach : Look → ℕ → List Arg → Bool
fixed_reach look i [] = true
fixed_reach look i (Fixed over ∷ args) = stands_over look i over && fixed_reach look (suc i) args
fixed_reach look i (Moved j to ∷ args) = fixed_reach look (suc i) args
