-- Components are of a smaller level.
use Rattle.std.proofs.Common.{◌≡◌, ℕ, ◌<◌, Bool, true, false, ℤ, length, ◌==◌, if◌then◌else◌}
use Rattle.std.specs.Prelude.{slice_index_or}
use Rattle.std.proofs.lemmas.List.Elements.{All-contains}
use Rattle.cube_space.specs.Cells.{IsSpace, IsCell}
use Rattle.rule_laws.specs.declared.reference.Arg.{Arg}
use Rattle.rule_laws.specs.declared.reference.Arg.TheVariants.{Fixed, Moved}
use Rattle.rule_laws.specs.Meaning.{Precedent, Named, Components}
use Rattle.rule_model.specs.declared.rules.Statement.{Statement}
use Rattle.rule_model.specs.BoundModel.{BoundModel}
use Rattle.rule_model.specs.Conditions.{IsArea, IsPrecedent, AreRules}
use Rattle.rule_model.specs.Order.{cell_level}
use Rattle.rule_model.specs.System.{system_of}
use Rattle.model_laws.proofs.Formed.{lower-components}
use Rattle.arrow_laws.specs.Nodes.{last_of}
use Rattle.arrow_laws.specs.Arrows.{IsWeak}
use Rattle.arrow_laws.specs.ByDimension.{is_weak}
use Rattle.arrow_laws.proofs.Lag.{weak-decided}
use Rattle.read_sources.specs.Ways.{Component, Sent, SentOver, follows_by, follows}

module _ (m : BoundModel) (valid : IsSpace m.space) where
  components-weak : (cube : ℕ) (s : Statement) (kind : Bool) (dim : ℕ) → IsWeak m cube s kind (Components dim)
  unfolding system_of
  components-weak cube s kind dim c t of (pairs, some, (weight, has, counts)) =
      (All-contains (λ (pair : ℕ × ℤ). IsCell m.space pair.0 × (cell_level m.space pair.0 < cell_level m.space c)) pairs (t, weight)
      (lower-components m.space valid c dim of.cell pairs some) has).1

  named-not : (last : ℕ) (arg : Arg) → follows_by last arg ≡ Component → ⊥
  named-not last (Fixed target) is = cc
  named-not last (Moved i to) is = by (i == last) is
    where
      by : (t : Bool) → (if t then Sent to else SentOver i to) ≡ Component → ⊥
      by true is = cc
      by false is = cc

  pub parts-weak : (ruled : AreRules m.space m.rules) (cube : ℕ) → cube < length m.space.cubes → (s : Statement) → IsArea m.space cube s.area → (kind : Bool) (p : Precedent)
      → IsPrecedent m.space cube p → follows m cube p ≡ Component → is_weak m cube s.area kind p ≡ true
  parts-weak ruled cube there s is_area kind (Named r) is way =
      absurd (named-not (last_of m.space cube) (slice_index_or r.args (last_of m.space r.cube) (Fixed 0)) way)
  parts-weak ruled cube there s is_area kind (Components dim) is way =
      (weak-decided m valid ruled cube there s is_area kind (Components dim) is).1 (components-weak cube s kind dim)
