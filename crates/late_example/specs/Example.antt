-- The example that explains why a reference isn't earlier: a cell of the statement's area that reads a cell which comes
-- late for it, at the first position at which that happens.
use Rattle.std.specs.Prelude.{◌≡◌, ℕ, zero, suc, ◌≤◌, nat_lt, Bool, true, false, not, if◌then◌else◌}
use Rattle.std.specs.Prelude.{Option, Some, None, IfSome, List, slice_get}
use Rattle.cube_space.specs.Cells.{IsCell, cube_of}
use Rattle.rule_laws.specs.Meaning.{Precedent}
use Rattle.rule_laws.specs.RuleSystem.{Rule}
use Rattle.rule_laws.specs.Ordered.{IsCellOf, HasPrecedent}
use Rattle.rule_laws.specs.OrderByPlace.{IsNoneGreaterBefore}
use Rattle.rule_model.specs.declared.rules.Statement.{Statement}
use Rattle.rule_model.specs.BoundModel.{BoundModel, rules_of}
use Rattle.rule_model.specs.Order.{most_positions, number_at, cell_level}
use Rattle.rule_model.specs.System.{system_of, positions_of, rule_of}
use Rattle.ref_order.specs.Counted.{Counted, counted_of}
use Rattle.check_order.specs.FirstLate.{IsEarlierFor, IsEarlier}
use Rattle.late_example.specs.declared.example.LateExample.{LateExample}

-- the one of this number, counted from 1
abbrev pub at_number : {X : Type 0} → List X → ℕ → Option X
at_number list zero = None
at_number list (suc place) = slice_get list place

-- the statement and the reference of these numbers
pub record AreNumbered (model : BoundModel) (cube i k : ℕ) (s : Statement) (it : Counted) : Type 0 where
  pub statement : at_number (rules_of model cube).statements i ≡ Some s
  pub reference : at_number (counted_of s) k ≡ Some it

-- what a reference reads for cells of a kind, `true` for leaf cells
abbrev pub read_for : Counted → Bool → Option Precedent
read_for it true = it.leaf
read_for it false = it.cons

-- the first kind of cells for which the reference isn't earlier, leaf cells before consolidated ones, and what it reads
-- for them
pub record IsLateFor (model : BoundModel) (cube : ℕ) (s : Statement) (it : Counted) (kind : Bool) (p : Precedent)
    : Type 0 where
  pub reads : read_for it kind ≡ Some p
  pub late : ¬ IsEarlierFor model cube s kind p
  pub first : kind ≡ false → IfSome it.leaf (IsEarlierFor model cube s true)

-- the number of a cell at a position, and its level at the place after the last one
abbrev pub rank_at : BoundModel → ℕ → ℕ → ℕ
rank_at model position cell = if nat_lt position most_positions
    then number_at model position cell
    else cell_level model.space cell

-- a cell that is read comes late where it is greater at a position, or isn't smaller as a level
abbrev pub is_late : ℕ → ℕ → ℕ → Bool
is_late position own its = if nat_lt position most_positions then nat_lt own its else not (nat_lt its own)

-- a cell of this kind that the rule applies to reads a cell that comes late there
pub record ReadsLate (model : BoundModel) (rule : Rule) (kind : Bool) (p : Precedent) (position from to : ℕ)
    : Type 0 where
  pub cell : IsCellOf (system_of model) rule kind from
  pub reads : HasPrecedent (system_of model) p from to
  pub late : is_late position (rank_at model position from) (rank_at model position to) ≡ true

-- no cell that is read is greater before the position, one comes late there, and its cell is the first such one; both
-- are cells of the model
pub record IsExample (model : BoundModel) (rule : Rule) (kind : Bool) (p : Precedent) (e : LateExample) : Type 0 where
  pub position : e.position ≤ most_positions
  pub none_before : IsNoneGreaterBefore (system_of model) (positions_of model) rule kind p e.position
  pub reads : ReadsLate model rule kind p e.position e.from e.to
  pub least : (from to : ℕ) → ReadsLate model rule kind p e.position from to → e.from ≤ from
  pub from_rank : e.from_rank ≡ rank_at model e.position e.from
  pub to_rank : e.to_rank ≡ rank_at model e.position e.to
  pub to_cube : e.to_cube ≡ cube_of model.space e.to
  pub from_cell : IsCell model.space e.from
  pub to_cell : IsCell model.space e.to

-- the answer: no example where the reference is earlier, or where there is no such statement or reference
abbrev pub IsAnswer : BoundModel → ℕ → ℕ → ℕ → Option LateExample → Type 0
IsAnswer model cube statement reference None =
    (s : Statement) (it : Counted) → AreNumbered model cube statement reference s it → IsEarlier model cube s it
IsAnswer model cube statement reference (Some e) =
    (s : Statement) × (it : Counted) × AreNumbered model cube statement reference s it
    × ((kind : Bool) × (p : Precedent) × IsLateFor model cube s it kind p
    × IsExample model (rule_of model.space cube s) kind p e)
