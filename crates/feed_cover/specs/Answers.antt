-- What is answered of all elements of a dimension, whatever the statement.
use Rattle.std.specs.Prelude.{◌≡◌, ℕ, suc, ◌==◌, Bool, true, false, not, ◌&&◌, ◌||◌, Option, None, Some, List, [], ◌∷◌}
use Rattle.std.specs.Prelude.{slice_get, slice_index_or}
use Rattle.std.specs.List.{list_all}
use Rattle.std.specs.Option.{option_map_or}
use Rattle.dim_core.specs.Outline.{Outline}
use Rattle.dim_weights.specs.Table.{leaves_of}
use Rattle.cube_space.specs.Layout.{Layout, axes, sizes}
use Rattle.rule_laws.specs.Maps.{identity, behind, before}
use Rattle.rule_laws.specs.declared.reference.Arg.{Arg}
use Rattle.rule_laws.specs.declared.reference.Arg.TheVariants.{Fixed, Moved}
use Rattle.rule_model.specs.declared.area.Area.{Area}
use Rattle.rule_model.specs.BoundModel.{BoundModel}
use Rattle.rule_model.specs.Areas.{in_source_set}
use Rattle.order_laws.specs.Scales.{is_leaf_element}
use Rattle.cover_laws.specs.Looking.{each_below, sent}
use Rattle.cover_laws.specs.Covered.{has_leaves, counts_in, each_sent}
use Rattle.feed_cover.specs.declared.answers.Answer.{Answer}
use Rattle.feed_cover.specs.declared.answers.CoverAnswers.{CoverAnswers}
use Rattle.feed_cover.specs.declared.back.Back.{Back}
use Rattle.feed_cover.specs.declared.question.Question.{Question}
use Rattle.feed_cover.specs.declared.question.Test.{Test}
use Rattle.feed_cover.specs.declared.question.Test.TheVariants.{SentBack, Listed}
use Rattle.feed_cover.specs.declared.reference_view.Counted.TheVariants.{Leaves}
use Rattle.feed_cover.specs.declared.reference_view.ReferenceView.{ReferenceView}
use Rattle.feed_cover.specs.declared.shift.Shift.{Shift}
use Rattle.feed_cover.specs.declared.shift.Shift.TheVariants.{Same, Behind, Before}

-- the map that is made so
abbrev pub map_of : Shift → List (Option ℕ)
map_of (Same len) = identity len
map_of (Behind len places) = behind len places
map_of (Before len places) = before len places

-- the map back, and the list of sources, that a test is about
abbrev pub back_of : Test → List (Option ℕ)
back_of (SentBack to) = map_of to
back_of (Listed listed) = []

abbrev pub listed_of : Test → Option (List ℕ)
listed_of (SentBack to) = None
listed_of (Listed listed) = Some listed.now

-- an element of a dimension of a cube is a leaf, and is sent to one of another cube's that has leaves
abbrev pub is_narrow_by : Layout → ℕ → ℕ → ℕ → ℕ → List (Option ℕ) → ℕ → Bool
is_narrow_by space cube own dim place by element =
    is_leaf_element (axes space cube) dim element
    && option_map_or (has_leaves (axes space own) place) (sent by element) false

-- each leaf that counts in an element is among the sources that are listed
abbrev pub are_listed : List Outline → List ℕ → ℕ → ℕ → Bool
are_listed dimensions listed place element =
    option_map_or (λ d. list_all (λ pair. in_source_set d (Some listed) pair.0) (leaves_of d element))
    (slice_get dimensions place) true

-- what is asked about what an element is sent to
abbrev pub passes_by : Layout → ℕ → ℕ → ℕ → ℕ → List (Option ℕ) → Option (List ℕ) → ℕ → ℕ → Bool
passes_by space cube own dim place to None element =
    each_sent (axes space own) place to (λ over. counts_in (axes space cube) dim over element)
passes_by space cube own dim place to (Some listed) element = are_listed (axes space own) listed place

-- each such element passes
unfoldable pub answer_by : Layout → ℕ → ℕ → ℕ → ℕ → List (Option ℕ) → List (Option ℕ) → Option (List ℕ) → Bool
answer_by space cube own dim place by to listed =
    each_below (λ element. not (is_narrow_by space cube own dim place by element)
    || option_map_or (passes_by space cube own dim place to listed element) (sent by element) true)
    (slice_index_or (sizes space cube) dim 0)

-- the answer to a question
abbrev pub answer_of : Layout → ℕ → Question → Bool
answer_of space cube asked =
    answer_by space cube asked.own asked.dim asked.place (map_of asked.by) (back_of asked.test) (listed_of asked.test)

-- each answer is right that is kept
pub record AreAnswers (model : BoundModel) (cube : ℕ) (answers : CoverAnswers) : Type 0 where
  pub each : (k : ℕ) (answer : Answer) → slice_get answers.kept k ≡ Some (Some answer)
      → answer.is ≡ answer_of model.space cube answer.asked

-- an argument follows a dimension
abbrev pub follows : ℕ → Arg → Bool
follows dim (Fixed element) = false
follows dim (Moved from to) = dim == from

-- none of these arguments does, which begin at a place, but for the one at this place
abbrev pub others_stay : ℕ → ℕ → ℕ → List Arg → Bool
others_stay dim place j [] = true
others_stay dim place j (arg ∷ args) = ((j == place) || not (follows dim arg)) && others_stay dim place (suc j) args

-- a question is about the argument at a place, which alone follows a dimension of which the area has all elements
pub record IsQuestion (view : ReferenceView) (dim place : ℕ) (by : List (Option ℕ)) (test : Test)
    (asked : Question) : Type 0 where
  pub leaves : view.counted ≡ Leaves
  pub whole : slice_index_or view.area.now.sets dim None ≡ None
  pub alone : others_stay dim place 0 view.reference.now.args ≡ true
  pub made : by ≡ map_of asked.by
  pub own : asked.own ≡ view.reference.now.cube
  pub dim_is : asked.dim ≡ dim
  pub place_is : asked.place ≡ place
  pub test_is : asked.test ≡ test

-- a question is about the argument at a place, and what it asks is whether the sources are that an area lists there
pub record IsSourceQuestion (view : ReferenceView) (area : Area) (place : ℕ) (asked : Question) : Type 0 where
  pub from : ℕ
  pub by : List (Option ℕ)
  pub test : Test
  pub is : IsQuestion view from place by test asked
  pub argument : slice_index_or view.reference.now.args place (Fixed 0) ≡ Moved from by
  pub set : slice_index_or area.sets place None ≡ listed_of test
  pub lists : listed_of test ≡ None → ⊥

-- and what it asks is whether each is sent back by the map to the dimension
pub record IsBackQuestion (back : Back) (asked : Question) : Type 0 where
  pub shift : Shift
  pub is : IsQuestion back.view back.dim back.place back.by.now (SentBack shift) asked
  pub made : back.to.now ≡ map_of shift
