-- A small system of two cubes. In the stock cube, which says SKIPCHECK, the opening of February is the closing of
-- January where that is above 0, else what was entered. What is available is the opening less what is reserved: a
-- total, whose first statement passes it on by CONTINUE to one that sums its components. In the purchase cube, which is
-- dense, a rule purchases what is missing to 100 available units: where the stock is 0, that isn't.
use Rattle.std.specs.Prelude.{ℕ, ℤ, pos, negsuc, ◌==◌, ◌*◌, ◌&&◌, not, nat_lt, List, [], ◌∷◌}
use Rattle.std.specs.Prelude.{Option, Some, None, if◌then◌else◌}
use Rattle.cube_fixed.specs.Range.{unit}
use Rattle.rule_laws.specs.declared.operation.Op.TheVariants.{Sub}
use Rattle.rule_laws.specs.declared.operation.Rel.TheVariants.{Greater}
use Rattle.rule_laws.specs.declared.reference.Reference.{Reference}
use Rattle.rule_laws.specs.declared.reference.Arg.{Arg}
use Rattle.rule_laws.specs.declared.reference.Arg.TheVariants.{Fixed, Moved}
use Rattle.rule_laws.specs.declared.formula.Formula.{Formula}
use Rattle.rule_laws.specs.declared.formula.Formula.TheVariants.{Number, Stet, Continue, Children, Ref, Binary, If}
use Rattle.rule_laws.specs.declared.formula.Truth.{Truth}
use Rattle.rule_laws.specs.declared.formula.Truth.TheVariants.{Compare}
use Rattle.rule_laws.specs.RuleSystem.{RuleSystem, Stored, Rule, Feed}

-- the cubes
abbrev pub stock_cube : ℕ
stock_cube = 0

abbrev pub purchase_cube : ℕ
purchase_cube = 1

-- the cells of the stock cube
abbrev pub closing : ℕ
closing = 0

abbrev pub opening : ℕ
opening = 1

abbrev pub reserved : ℕ
reserved = 2

abbrev pub available : ℕ
available = 3

-- the cell of the purchase cube
abbrev pub purchase : ℕ
purchase = 4

abbrev pub cube_of_cell : ℕ → ℕ
cube_of_cell c = if c == purchase then purchase_cube else stock_cube

-- the reference to a cell of the stock cube by its number, and the cell of a cube that a reference names so
abbrev pub to : ℕ → Reference
to t = record { cube = stock_cube; args = Fixed t ∷ [] }

abbrev pub named_cell : ℕ → List Arg → Option ℕ
named_cell cube (Fixed t ∷ []) = if nat_lt t 5 && (cube_of_cell t == cube) then Some t else None
named_cell cube (Fixed t ∷ (x ∷ xs)) = None
named_cell cube (Moved from places ∷ xs) = None
named_cell cube [] = None

-- the opening: IF(closing > 0, closing, STET)
abbrev pub is_left : Truth
is_left = Compare Greater (Ref (to closing)) (Number (pos 0))

abbrev pub opening_formula : Formula
opening_formula = If is_left (Ref (to closing)) Stet

abbrev pub opening_rule : Rule
opening_rule =
    record { cube = stock_cube; area = λ c. c == opening; leaf_part = Some opening_formula; consolidated_part = None }

-- the feeder from the closing cell to the opening cell
abbrev pub stock_feed : Feed
stock_feed = record { source = λ c. c == closing; target = to opening }

-- the statements of what is available: the first passes it on, the second sums its components
abbrev pub passing_rule : Rule
passing_rule =
    record { cube = stock_cube; area = λ c. c == available; leaf_part = None; consolidated_part = Some Continue }

abbrev pub summing_rule : Rule
summing_rule =
    record { cube = stock_cube; area = λ c. c == available; leaf_part = None; consolidated_part = Some (Children 0) }

-- the purchase: 100 - available
abbrev pub purchase_formula : Formula
purchase_formula = Binary Sub (Number (pos (100 * unit))) (Ref (to available))

abbrev pub purchase_rule : Rule
purchase_rule =
    record {
      cube = purchase_cube;
      area = λ c. c == purchase;
      leaf_part = Some purchase_formula;
      consolidated_part = None;
    }

-- what is available counts the opening, and what is reserved negatively
abbrev pub available_cells : List (ℕ × ℤ)
available_cells = (opening, pos 1) ∷ (reserved, negsuc 0) ∷ []

-- the system
abbrev pub replenishment : RuleSystem
replenishment =
    record {
      size = 5;
      cube_of = cube_of_cell;
      skips_check = λ cube. cube == stock_cube;
      is_leaf = λ c. not (c == available);
      below = λ c. if c == available then available_cells else [];
      components = λ c dim. if c == available && dim == 0 then Some available_cells else None;
      rules = passing_rule ∷ opening_rule ∷ summing_rule ∷ purchase_rule ∷ [];
      feeds = stock_feed ∷ [];
      target = λ r c. named_cell r.cube r.args;
      own = λ c dim. 0;
      rank = λ c. if c == closing then 0 else if c == purchase then 2 else 1;
      level = λ c. if c == available then 1 else 0;
      levels = 2;
    }

-- 10 units are reserved, and 40 are left at the end of January
abbrev pub carried_over : Stored
carried_over c =
    if c == closing then Some (pos (40 * unit)) else if c == reserved then Some (pos (10 * unit)) else None

-- 10 units are reserved, and 25 are entered as the opening of February
abbrev pub entered : Stored
entered c = if c == opening then Some (pos (25 * unit)) else if c == reserved then Some (pos (10 * unit)) else None
