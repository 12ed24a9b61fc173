-- The elements that an area has.
use Rattle.std.proofs.Common.{◌≡◌, ℕ, ◌<◌, Bool, true, ◌&&◌, Option, Some, None, nat_lt}
use Rattle.std.specs.Prelude.{slice_index_or}
use Rattle.std.proofs.lemmas.Bool.{and_parts, ltb-true}
use Rattle.cube_space.specs.Layout.{axes, sizes}
use Rattle.rule_laws.specs.Meaning.{Precedent}
use Rattle.rule_model.specs.declared.area.Area.{Area}
use Rattle.rule_model.specs.Areas.{in_set}
use Rattle.rule_model.specs.BoundModel.{BoundModel}
use Rattle.order_laws.specs.Scales.{is_leaf_element}
use Rattle.arrow_laws.specs.ByDimension.{is_from, has_element, serves, admits}

-- what may be read from, is in the area
pub from-area : (m : BoundModel) (cube : ℕ) (area : Area) (kind : Bool) (p : Precedent) (its : Option Bool) (i e : ℕ) → is_from m cube area kind p its i e ≡ true → has_element m.space cube area i e ≡ true
unfolding is_from
from-area m cube area kind p its i e h =
    (and_parts (has_element m.space cube area i e) (admits (Some kind) (is_leaf_element (axes m.space cube) i e) && serves m.space cube p its i e) h).0

pub in-area : (m : BoundModel) (cube : ℕ) (area : Area) (i e : ℕ) → has_element m.space cube area i e ≡ true → (e < slice_index_or (sizes m.space cube) i 0) × (in_set (slice_index_or area.sets i None) e ≡ true)
in-area m cube area i e h =
    let both = and_parts (nat_lt e (slice_index_or (sizes m.space cube) i 0)) (in_set (slice_index_or area.sets i None) e) h in
    (ltb-true e (slice_index_or (sizes m.space cube) i 0) both.0, both.1)
