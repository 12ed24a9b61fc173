-- Which references name no cell.
use Rattle.std.specs.Prelude.{◌≡◌, ℕ, suc, ◌<◌, Bool, true, false, Option, Some, None, length, slice_get}
use Rattle.cube_space.specs.Cells.{IsCell, cube_of, is_leaf_cell}
use Rattle.rule_laws.specs.declared.reference.Reference.{Reference}
use Rattle.rule_laws.specs.Meaning.{Precedent, Named}
use Rattle.rule_model.specs.declared.rules.Statement.{Statement}
use Rattle.rule_model.specs.BoundModel.{BoundModel, rules_of}
use Rattle.rule_model.specs.Areas.{in_area}
use Rattle.rule_model.specs.Targets.{target}
use Rattle.ref_order.specs.Counted.{Counted, counted_of}

-- what a reference reads for a kind of cells, `true` for leaf cells, if it is for them
abbrev pub read_for : Counted → Bool → Option Precedent
read_for it true = it.leaf
read_for it false = it.cons

-- a cell of the area of a statement of a cube, and the reference by which it is to name a cell
pub record IsFor (m : BoundModel) (cube : ℕ) (s : Statement) (it : Counted) (r : Reference) (c : ℕ) : Type 0 where
  pub cell : IsCell m.space c
  pub own : cube_of m.space c ≡ cube
  pub inside : in_area m.space s.area c ≡ true
  pub reads : read_for it (is_leaf_cell m.space c) ≡ Some (Named r)

-- there is a cell that the reference is for, and it names a cell from none
pub record NamesNoCell (m : BoundModel) (cube : ℕ) (s : Statement) (it : Counted) : Type 0 where
  pub some : (c : ℕ) × ((r : Reference) × IsFor m cube s it r c)
  pub none : (c : ℕ) (r : Reference) → IsFor m cube s it r c → target m.space r c ≡ None

-- so it is with the reference of this number, from 1, of the statement of this number of a cube, from 1
pub record IsNameless (m : BoundModel) (cube statement reference : ℕ) : Type 0 where
  pub inside : cube < length m.space.cubes
  pub place : ℕ
  pub number : statement ≡ suc place
  pub it : Statement
  pub here : slice_get (rules_of m cube).statements place ≡ Some it
  pub at : ℕ
  pub reference_number : reference ≡ suc at
  pub read : Counted
  pub read_here : slice_get (counted_of it) at ≡ Some read
  pub names_nothing : NamesNoCell m cube it read
