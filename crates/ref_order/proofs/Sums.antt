-- The sets of an area.
use Rattle.std.proofs.Common.{◌≡◌, refl, sym, ap, ◌∙◌, arith, subst, ℕ, zero, suc, ◌<◌, Option, None, List, [], ◌∷◌, length, nat_lt}
use Rattle.std.specs.Prelude.{slice_index_or}
use Rattle.std.proofs.lemmas.Bool.{and_parts, ltb-true}
use Rattle.cube_space.specs.Layout.{Layout, axes, sizes}
use Rattle.rule_model.specs.declared.area.Area.{Area}
use Rattle.rule_model.specs.Areas.{in_set}
use Rattle.rule_model.specs.Conditions.{IsSet, IsArea}
use Rattle.order_laws.specs.Scales.{set_count, set_element}
use Rattle.order_laws.proofs.SetFacts.{place-in, set-at, zip-long}
use Rattle.order_laws.proofs.CellFacts.{axes-sizes}

-- the sets of an area
pub sets-long : (space : Layout) (cube : ℕ) (area : Area) → IsArea space cube area → length area.sets ≡ length (axes space cube)
sets-long space cube area is = zip-long IsSet (sizes space cube) area.sets is ∙ axes-sizes space cube

pub set-found : (sets own : List (Option (List ℕ))) (dim : ℕ) (set : Option (List ℕ)) → sets ≡ own → dim < length own → set ≡ slice_index_or sets dim set → set ≡ slice_index_or own dim None
set-found sets own dim set same low is = is ∙ ap (λ xs. slice_index_or xs dim set) same ∙ any-default own dim low
  where
    any-default : (xs : List (Option (List ℕ))) (k : ℕ) → k < length xs → slice_index_or xs k set ≡ slice_index_or xs k None
    any-default [] k low = absurd (omega arith)
    any-default (x ∷ xs) zero low = refl
    any-default (x ∷ xs) (suc k) low = any-default xs k (omega arith)

pub element-below : (space : Layout) (cube dim k : ℕ) (area : Area) (set : Option (List ℕ)) → IsArea space cube area → set ≡ slice_index_or area.sets dim None → k < set_count (slice_index_or (sizes space cube) dim 0) set
    → set_element set k < slice_index_or (sizes space cube) dim 0
element-below space cube dim k area set is same low =
    let size = slice_index_or (sizes space cube) dim 0 in
    let is_set = subst (IsSet size) (sym same) (set-at (sizes space cube) area.sets dim is) in
    let inside = place-in size set k is_set low in
    ltb-true (set_element set k) size (and_parts (nat_lt (set_element set k) size) (in_set set (set_element set k)) inside).0
