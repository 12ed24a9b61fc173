-- Which parts of statements give no cell its value, since an earlier statement takes all of their cells.
use Rattle.std.specs.Prelude.{◌≡◌, ℕ, suc, ◌<◌, Bool, true, false, not, Option, Some, None, is_some}
use Rattle.std.specs.Prelude.{List, length, slice_get, slice_index_or}
use Rattle.std.specs.Option.{option_map_or}
use Rattle.cube_space.specs.Layout.{Layout, axes, sizes}
use Rattle.rule_laws.specs.declared.formula.Formula.{Formula}
use Rattle.rule_model.specs.declared.area.Area.{Area}
use Rattle.rule_model.specs.declared.rules.Statement.{Statement}
use Rattle.rule_model.specs.BoundModel.{BoundModel, rules_of}
use Rattle.rule_model.specs.Areas.{in_set}
use Rattle.rule_model.specs.Input.{has_continue}
use Rattle.rule_model.specs.Inside.Parts.{part_of_kind}

-- a part is final: CONTINUE doesn't stand in it, so no later statement gives its cells their values
abbrev pub is_final : Option Formula → Bool
is_final part = option_map_or (λ f. not (has_continue f)) part false

-- a set of an area has each element that another has, in a dimension of this size
abbrev pub HasSet : ℕ → Option (List ℕ) → Option (List ℕ) → Type 0
HasSet size outer inner =
    (element : ℕ) → element < size → in_set inner element ≡ true → in_set outer element ≡ true

-- an area of a cube has, in each dimension, each element that another has
abbrev pub HasArea : Layout → ℕ → Area → Area → Type 0
HasArea space cube outer inner =
    (dim : ℕ) → dim < length (axes space cube)
    → HasSet (slice_index_or (sizes space cube) dim 0) (slice_index_or outer.sets dim None)
    (slice_index_or inner.sets dim None)

-- the statement at this place of a cube takes all cells of this kind, `true` for leaf cells, of an area: its part for
-- them is final, and its area has that one
pub record Takes (m : BoundModel) (cube : ℕ) (kind : Bool) (area : Area) (place : ℕ) : Type 0 where
  pub by : Statement
  pub here : slice_get (rules_of m cube).statements place ≡ Some by
  pub final : is_final (part_of_kind by kind) ≡ true
  pub has : HasArea m.space cube by.area area

-- of the statement of this number of a cube, from 1, the part for cells of a kind isn't reached: the statement of the
-- other number is the first before it that takes all of the part's cells
pub record IsNotReached (m : BoundModel) (cube statement : ℕ) (kind : Bool) (by : ℕ) : Type 0 where
  pub inside : cube < length m.space.cubes
  pub place : ℕ
  pub number : statement ≡ suc place
  pub it : Statement
  pub here : slice_get (rules_of m cube).statements place ≡ Some it
  pub part : is_some (part_of_kind it kind) ≡ true
  pub taker : ℕ
  pub by_number : by ≡ suc taker
  pub earlier : taker < place
  pub takes : Takes m cube kind it.area taker
  pub first : (k : ℕ) → k < taker → Takes m cube kind it.area k → ⊥
