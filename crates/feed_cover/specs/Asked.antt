-- Which feeders of a cube are asked about a reference.
use Rattle.std.specs.Prelude.{◌≡◌, ℕ, ◌<◌, ◌==◌, Bool, true, false, Option, None, Some, slice_get, slice_index_or}
use Rattle.std.specs.Option.{option_map_or}
use Rattle.order_laws.specs.Scales.{set_element}
use Rattle.rule_model.specs.declared.filed.FixedLeaf.{FixedLeaf}
use Rattle.rule_model.specs.declared.rules.Feeder.{Feeder}
use Rattle.rule_model.specs.BoundModel.{BoundModel, rules_of}
use Rattle.rule_model.specs.Filed.{leaf_of}
use Rattle.cover_laws.specs.Looking.{Look, is_narrow, each_narrow, some_in}
use Rattle.cover_laws.specs.Covered.{feeds_all}
use Rattle.feed_cover.specs.declared.reference_view.ReferenceView.{ReferenceView}

-- a feeder of a cube feeds the leaf cells of the area from all leaf cells below what the reference names
abbrev pub feeds : BoundModel → ReferenceView → ℕ → Feeder → Bool
feeds model view own = feeds_all model view.cube view.area.now view.reference.now own

-- the one at this place does
abbrev pub feeds_at : BoundModel → ReferenceView → ℕ → ℕ → Bool
feeds_at model view own place =
    option_map_or (feeds model view own) (slice_get (rules_of model own).feeders place) false

-- none of those that are filed by this leaf, or by none, does
abbrev pub NoneFeeds : BoundModel → ReferenceView → ℕ → Option FixedLeaf → Type 0
NoneFeeds model view own leaf =
    (place : ℕ) (feeder : Feeder) → slice_get (rules_of model own).feeders place ≡ Some feeder
    → leaf_of model.space feeder ≡ leaf → feeds model view own feeder ≡ false

-- an area has narrow elements in a dimension, and each is this one
pub record IsOnlyNarrow (look : Look) (dim element : ℕ) : Type 0 where
  pub some : some_in look dim (is_narrow look dim) ≡ true
  pub each : each_narrow look dim (λ e. e == element) ≡ true

-- a narrow element among the first of a dimension
abbrev pub IsNarrowBelow : Look → ℕ → ℕ → ℕ → Type 0
IsNarrowBelow look dim count element =
    (k : ℕ) × (k < count) × (set_element (slice_index_or look.area.sets dim None) k ≡ element)
    × (is_narrow look dim element ≡ true)
