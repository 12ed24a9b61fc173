-- What the code keeps.
use Rattle.std.specs.Prelude.{◌≡◌, ℕ, Bool, ◌+◌, ◌<◌, ◌≤◌, ◌^◌, ⊤, List, [], map, length, slice_index_or, Vec}
use Rattle.std.specs.List.{filter_map, range_with_len}
use Rattle.std.specs.declared.alloc.Global.{Global}
use Rattle.cube_space.specs.Layout.{Layout, axes, sizes}
use Rattle.rule_laws.specs.declared.reference.Arg.{Arg}
use Rattle.rule_laws.specs.declared.reference.Arg.TheVariants.{Fixed, Moved}
use Rattle.rule_laws.specs.declared.formula.Formula.{Formula}
use Rattle.rule_laws.specs.declared.formula.Truth.{Truth}
use Rattle.rule_laws.specs.declared.reference.Reference.{Reference}
use Rattle.rule_laws.specs.Meaning.{precedents, truth_precedents}
use Rattle.rule_laws.specs.ZeroTest.{operands, operands_of_truth}
use Rattle.rule_model.specs.Conditions.{IsArea, IsFeeder}
use Rattle.feed_check.specs.Inside.References.{is_reference}
use Rattle.feed_cover.specs.Answers.{AreAnswers}
use Rattle.feed_turn.specs.Known.{AreTurns}
use Rattle.feed_find.specs.declared.choice.Choice.{Choice}
use Rattle.feed_find.specs.declared.choice.Choice.TheVariants as choices
use Rattle.feed_find.specs.declared.chosen.Chosen.{Chosen}
use Rattle.feed_find.specs.declared.chosen.Chosen.TheVariants.{Found, Unturned}
use Rattle.feed_find.specs.declared.need.Need.{Need}
use Rattle.feed_find.specs.declared.need.TruthNeed.{TruthNeed}
use Rattle.feed_find.specs.declared.asked.Asked.{Asked}
use Rattle.feed_find.specs.declared.kept.Kept.{Kept}
use Rattle.feed_find.specs.declared.gathered.Gathered.{Gathered}
use Rattle.feed_find.specs.Choosing.{choice}
use Rattle.feed_find.specs.Found.{Picked, feeder_of, unturned_of, each_once}
use Rattle.feed_find.specs.Added.{IsFound, feeders_in, with_feeders}
use Rattle.feed_find.specs.declared.chosen.FoundFeeder.{FoundFeeder}
use Rattle.rule_model.specs.declared.rules.Feeder.{Feeder}
use Rattle.rule_model.specs.declared.rules.CubeRules.{CubeRules}
use Rattle.rule_model.specs.BoundModel.{BoundModel, no_rules}

-- a cube of the model and an area of it
pub record IsAsked (asked : Asked) : Type 0 where
  pub cube : asked.cube < length asked.model.now.space.cubes
  pub area : IsArea asked.model.now.space asked.cube asked.area.now

-- what is remembered from statement to statement of a cube
pub record IsKept (model : BoundModel) (cube : ℕ) (kept : Kept) : Type 0 where
  pub turns : AreTurns model cube kept.turns
  pub answers : AreAnswers model cube kept.answers

-- a reference that may be asked about
abbrev pub is_askable : Asked → Reference → Bool
is_askable asked = is_reference asked.model.now.space asked.cube

abbrev pub choose_from : Asked → Reference → Choice
choose_from asked = choice asked.model.now asked.cube asked.area.now

-- what is chosen is a feeder of a cube, if it is one
abbrev pub IsChosen : Layout → Chosen → Type 0
IsChosen space (Found feeder) = IsFound space feeder
IsChosen space (Unturned reference) = ⊤

-- so is what can be done about a reference to a cube
abbrev pub IsChoice : Layout → ℕ → Choice → Type 0
IsChoice space cube choices.Covered = ⊤
IsChoice space cube (choices.Turned feeder) = IsFeeder space cube feeder
IsChoice space cube choices.Missing = ⊤

-- ---- sizes

-- what is found is blamed on one of its operands
abbrev pub IsBlamedWithin : Need → Type 0
IsBlamedWithin need =
    (need.by_written.blamed ≤ need.by_written.operands) × (need.by_all.blamed ≤ need.by_all.operands)

-- the operands of parts can be counted together
abbrev pub HaveRoom : Need → Need → Type 0
HaveRoom a b = (a.by_written.operands + b.by_written.operands < 2 ^ 32)
    × (a.by_all.operands + b.by_all.operands < 2 ^ 32)

abbrev pub HaveRoomFor : TruthNeed → TruthNeed → Type 0
HaveRoomFor a b = (a.by_written.operands + b.by_written.operands < 2 ^ 32)
    × (a.by_all.operands + b.by_all.operands < 2 ^ 32)

abbrev pub HaveRoomIn : TruthNeed → Need → Need → Type 0
HaveRoomIn truth a b =
    (truth.by_written.operands + a.by_written.operands + b.by_written.operands < 2 ^ 32)
    × (truth.by_all.operands + a.by_all.operands + b.by_all.operands < 2 ^ 32)

-- what is needed of a formula behind so many references counts its operands and its references
pub record IsCounted (f : Formula) (before : ℕ) (need : Need) : Type 0 where
  pub written : need.by_written.operands ≡ operands f
  pub all : need.by_all.operands ≡ operands f
  pub blamed : IsBlamedWithin need
  pub behind : need.behind ≡ before + length (precedents f)

pub record IsCountedTruth (truth : Truth) (before : ℕ) (need : TruthNeed) : Type 0 where
  pub written : need.by_written.operands ≡ operands_of_truth truth
  pub all : need.by_all.operands ≡ operands_of_truth truth
  pub behind : need.behind ≡ before + length (truth_precedents truth)

-- an argument follows a dimension of this cube, if it follows one, and has each element of it
abbrev pub IsFrom : Layout → ℕ → Arg → Type 0
IsFrom space cube (Fixed element) = ⊤
IsFrom space cube (Moved from to) =
    (from < length (axes space cube)) × (length to ≡ slice_index_or (sizes space cube) from 0)

-- the feeders and the references that were gathered from these
pub record AreGathered (picked : List Picked) (gathered : Gathered) : Type 0 where
  pub feeders : gathered.feeders ≡ each_once (filter_map feeder_of picked)
  pub unturned : gathered.unturned.items ≡ filter_map unturned_of picked

-- ---- a model with what is found

-- the feeders of each of these groups
abbrev pub lists_in : List (Vec Feeder Global) → List (List Feeder)
lists_in groups = map (λ group. group.items) groups

-- for each of so many cubes those of these feeders that are its own
abbrev pub groups_of : ℕ → List FoundFeeder → List (List Feeder)
groups_of cubes found = map (λ cube. feeders_in cube found) (range_with_len 0 cubes)

-- no cube has more feeders than there may be
abbrev pub HaveFewFeeders : List CubeRules → Type 0
HaveFewFeeders rules =
    (cube : ℕ) → cube < length rules → length (slice_index_or rules cube no_rules).feeders < 2 ^ 32

-- one cube has its own of these feeders behind those that it had, and the others have what they had
pub record IsOwnAdded (cube : ℕ) (groups : List (List Feeder)) (old new : List CubeRules) : Type 0 where
  pub long : length new ≡ length old
  pub own : slice_index_or new cube no_rules
      ≡ with_feeders (slice_index_or old cube no_rules) (slice_index_or groups cube [])
  pub few : length (slice_index_or new cube no_rules).feeders < 2 ^ 32
  pub others : (k : ℕ) → (k ≡ cube → ⊥) → slice_index_or new k no_rules ≡ slice_index_or old k no_rules

-- each cube has
pub record AreWithGroups (rules : List CubeRules) (groups : List (List Feeder)) (all : List CubeRules) : Type 0 where
  pub long : length all ≡ length rules
  pub each : (cube : ℕ) → cube < length rules → slice_index_or all cube no_rules
      ≡ with_feeders (slice_index_or rules cube no_rules) (slice_index_or groups cube [])

-- what is chosen by a statement of a cube
abbrev pub as_picked : ℕ → ℕ → Chosen → Picked
as_picked cube statement chosen = record { cube = cube; statement = statement; chosen = chosen }
