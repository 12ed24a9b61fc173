-- Why a model's feeders are refused.
use Rattle.std.specs.Prelude.{◌≡◌, ℕ, suc, ◌<◌, true, Bool, Some, All, take, slice_get, length}
use Rattle.rule_laws.specs.declared.reference.Reference.{Reference}
use Rattle.rule_laws.specs.declared.formula.Formula.{Formula}
use Rattle.rule_laws.specs.RuleSystem.{RuleSystem, Rule}
use Rattle.rule_laws.specs.Feeding.{is_dense}
use Rattle.rule_laws.specs.Cover.{TellsCover, IsCoveredRule}
use Rattle.rule_laws.specs.ZeroTest.{blamed}
use Rattle.rule_model.specs.BoundModel.{BoundModel}
use Rattle.rule_model.specs.System.{system_of, cube_rules}
use Rattle.feed_check.specs.declared.fault.FeedCheckFault.{FeedCheckFault}
use Rattle.feed_check.specs.declared.fault.FeedCheckFault.TheVariants.{NotFed, DenseTooLarge}
use Rattle.feed_check.specs.Sizes.{leaf_count, most_dense, IsSmall}

-- the N part of a rule isn't covered, and is blamed on this operand, by what tells which references are covered
pub record IsBlamed (w : RuleSystem) (rule : Rule) (operand : ℕ) : Type 0 where
  pub fails : IsCoveredRule w rule → ⊥
  pub formula : Formula
  pub leaf_part : rule.leaf_part ≡ Some formula
  pub covers : Reference → Bool
  pub tells : TellsCover w rule formula covers
  pub operand_is : operand ≡ blamed covers formula

-- the rule at this place of a cube is the first that isn't covered
pub record IsFirstBlamed (model : BoundModel) (cube place operand : ℕ) : Type 0 where
  pub rule : Rule
  pub here : slice_get (cube_rules model cube) place ≡ Some rule
  pub is_blamed : IsBlamed (system_of model) rule operand
  pub before : All (IsCoveredRule (system_of model)) (take place (cube_rules model cube))

-- nothing is wrong with a cube: it isn't dense and too large, and each of its rules is covered
pub record IsSound (model : BoundModel) (cube : ℕ) : Type 0 where
  pub small : IsSmall model cube
  pub covered : All (IsCoveredRule (system_of model)) (cube_rules model cube)

-- what is wrong with a cube: it is dense and has this many leaf cells, too many, or its first rule that isn't covered
abbrev pub IsFaultOf : BoundModel → ℕ → FeedCheckFault → Type 0
IsFaultOf model cube (DenseTooLarge own count) =
    (own ≡ cube) × (is_dense (system_of model) cube ≡ true)
    × (count ≡ leaf_count model.space cube) × (most_dense < count)
IsFaultOf model cube (NotFed own statement operand) =
    (own ≡ cube) × ((place : ℕ) × (statement ≡ suc place) × IsFirstBlamed model cube place operand)

-- what is wrong with the first cube with which something is
abbrev pub IsFirstFault : BoundModel → FeedCheckFault → Type 0
IsFirstFault model fault =
    (cube : ℕ) × (cube < length model.space.cubes) × IsFaultOf model cube fault
    × ((before : ℕ) → before < cube → IsSound model before)
