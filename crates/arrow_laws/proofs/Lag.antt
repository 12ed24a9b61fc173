-- What is lagged, level or weak is decided by the most that a cell which is read has more than its cell.
use Rattle.std.proofs.Common.{arith, ℕ, ◌<◌, Bool, length}
use Rattle.std.specs.Prelude.{◌↔◌, IsTrue}
use Rattle.cube_space.specs.Cells.{IsSpace}
use Rattle.rule_laws.specs.Meaning.{Precedent}
use Rattle.rule_model.specs.declared.rules.Statement.{Statement}
use Rattle.rule_model.specs.BoundModel.{BoundModel}
use Rattle.rule_model.specs.Conditions.{IsArea, IsPrecedent, AreRules}
use Rattle.order_laws.proofs.Earlier.{below-at_most, at_most-below, within-at_most, at_most-within, smaller-at, at-smaller, at_most-at, at-at_most, level-smaller, smaller-level}
use Rattle.arrow_laws.specs.Arrows.{IsLagged, IsLevel, IsWeak}
use Rattle.arrow_laws.specs.ByDimension.{is_lagged, is_level, is_weak}

module _ (m : BoundModel) (valid : IsSpace m.space) (ruled : AreRules m.space m.rules) (cube : ℕ) (there : cube < length m.space.cubes)
    (s : Statement) (is_area : IsArea m.space cube s.area) (kind : Bool) (p : Precedent) (is : IsPrecedent m.space cube p) where
  pub lagged-decided : IsTrue (is_lagged m cube s.area kind p) ↔ IsLagged m cube s kind p
  lagged-decided = (
    λ h. smaller-at m valid ruled cube there s is_area kind p is 0 (omega arith) (below-at_most _ h),
    λ h. at_most-below _ (at-smaller m valid ruled cube there s is_area kind p is 0 (omega arith) h),
  )

  pub level-decided : IsTrue (is_level m cube s.area kind p) ↔ IsLevel m cube s kind p
  level-decided = (
    λ h. at_most-at m valid ruled cube there s is_area kind p is 0 (omega arith) (within-at_most _ h),
    λ h. at_most-within _ (at-at_most m valid ruled cube there s is_area kind p is 0 (omega arith) h),
  )

  pub weak-decided : IsTrue (is_weak m cube s.area kind p) ↔ IsWeak m cube s kind p
  weak-decided = (
    λ h. level-smaller m valid ruled cube there s is_area kind p is (below-at_most _ h),
    λ h. at_most-below _ (smaller-level m valid ruled cube there s is_area kind p is h),
  )
