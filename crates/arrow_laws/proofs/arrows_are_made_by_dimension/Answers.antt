use Rattle.std.proofs.Common.{arith, ℕ, ◌<◌, Bool, length}
use Rattle.std.specs.Prelude.{◌↔◌}
use Rattle.cube_space.specs.Cells.{IsSpace}
use Rattle.rule_laws.specs.Meaning.{Precedent, Named, Components}
use Rattle.rule_model.specs.declared.rules.Statement.{Statement}
use Rattle.rule_model.specs.BoundModel.{BoundModel}
use Rattle.rule_model.specs.Conditions.{IsArea, IsPrecedent, AreRules}
use Rattle.order_laws.proofs.CellFacts.{axes-sizes}
use Rattle.arrow_laws.specs.Nodes.{Node}
use Rattle.arrow_laws.specs.Arrows.{IsJoined}
use Rattle.arrow_laws.specs.ByDimension.{IsJoinedByDimension}
use Rattle.arrow_laws.proofs.Named.{joined-reference, reference-joined}
use Rattle.arrow_laws.proofs.Children.{joined-children, children-joined}
use Rattle.arrow_laws.proofs.arrows_are_made_by_dimension.Goals as goal

joined : (m : BoundModel) (cube : ℕ) (s : Statement) (kind : Bool) (p : Precedent) (from to : Node) → IsSpace m.space → AreRules m.space m.rules → cube < length m.space.cubes → IsArea m.space cube s.area
    → IsPrecedent m.space cube p → IsJoinedByDimension m cube s.area kind p from to ↔ IsJoined m cube s kind p from to
joined m cube s kind (Named r) from to valid ruled there is_area is =
    (reference-joined m valid ruled cube there s is_area kind r is from to, joined-reference m valid ruled cube there s is_area kind r is from to)
joined m cube s kind (Components dim) from to valid ruled there is_area is =
    let low : dim < length (Rattle.cube_space.specs.Layout.axes m.space cube) = omega (arith, is, axes-sizes m.space cube) in
    (children-joined m valid ruled cube there s is_area kind dim low from to, joined-children m valid ruled cube there s is_area kind dim low from to)

pub returns : goal.returns
returns c m cube s kind p from to valid ruled there is_area is = joined m cube s kind p from to valid ruled there is_area is
