-- A system of rule equations: what the equations know of a model. Cells are numbers, and so are the dimensions of a
-- cube, by their places. The stored cells stand apart from it, since one model serves many versions of them.
use Rattle.std.specs.Prelude.{◌≡◌, ℕ, suc, ◌+◌, ◌*◌, ◌<◌, ℤ, ◌==◌, Bool, true, false, ◌&&◌, List, [], ◌∷◌}
use Rattle.std.specs.Prelude.{Option, None, is_some, option_and_then, fold, drop, slice_get, if◌then◌else◌}
use Rattle.std.specs.List.{position}
use Rattle.std.specs.Option.{option_map, option_map_or}
use Rattle.equations.specs.Equations.{Solves, table_by_rounds}
use Rattle.cube_fixed.specs.declared.value.Value.{Value}
use Rattle.cube_fixed.specs.declared.value.Value.TheVariants.{Num}
use Rattle.cube_fixed.specs.Arithmetic.{zero_value}
use Rattle.cube_fixed.specs.Total.{no_terms, with_term, value_of}
use Rattle.rule_laws.specs.declared.reference.Reference.{Reference}
use Rattle.rule_laws.specs.declared.formula.Formula.{Formula}
use Rattle.rule_laws.specs.Meaning.{Others, formula_value}

-- a rule statement: the cube it stands in, the cells of its area, its N part for leaf cells and its C part for
-- consolidated ones
pub record Rule : Type 0 where
  pub cube : ℕ
  pub area : ℕ → Bool
  pub leaf_part : Option Formula
  pub consolidated_part : Option Formula

-- a feeder: its source cells, and the cell that it feeds from each
pub record Feed : Type 0 where
  pub source : ℕ → Bool
  pub target : Reference

pub record RuleSystem : Type 0 where
  -- the cells are the numbers below this
  pub size : ℕ
  -- the cube of a cell, and whether a cube's rules say SKIPCHECK
  pub cube_of : ℕ → ℕ
  pub skips_check : ℕ → Bool
  pub is_leaf : ℕ → Bool
  -- the leaf cells below a consolidated cell, each with its weight
  pub below : ℕ → List (ℕ × ℤ)
  -- of a cell and a dimension: the cells that have each component in place of the cell's element, with the component's
  -- weight, each naming counted; none where the element is a leaf
  pub components : ℕ → ℕ → Option (List (ℕ × ℤ))
  -- the element of a cell in the dimension at a place of its cube
  pub own : ℕ → ℕ → ℕ
  -- the statements and the feeders, those of a cube in their order
  pub rules : List Rule
  pub feeds : List Feed
  -- the cell that a reference names from a cell, or none
  pub target : Reference → ℕ → Option ℕ
  -- the place of a cell in the declared order, its level among those of the same place, and a number above all levels
  pub rank : ℕ → ℕ
  pub level : ℕ → ℕ
  pub levels : ℕ

-- the cells that are stored, in millionths
abbrev pub Stored : Type 0
Stored = ℕ → Option ℤ

abbrev pub IsCell : RuleSystem → ℕ → Type 0
IsCell w c = c < w.size

abbrev pub IsLeafCell : RuleSystem → ℕ → Type 0
IsLeafCell w c = IsCell w c × (w.is_leaf c ≡ true)

-- a rule's formula for a kind of cell, `true` for leaf cells
abbrev pub part_of : Rule → Bool → Option Formula
part_of rule true = rule.leaf_part
part_of rule false = rule.consolidated_part

-- whether the cell is in the rule's cube and area
abbrev pub applies : RuleSystem → ℕ → Rule → Bool
applies w c rule = (rule.cube == w.cube_of c) && rule.area c

-- the formula that a rule has for a cell: that of the cell's kind, where the rule applies to it
abbrev pub part_at : RuleSystem → ℕ → Rule → Option Formula
part_at w c rule = if applies w c rule then part_of rule (w.is_leaf c) else None

-- a weighted sum over cells, exact and tested once at its end; Over where one of them is, under a weight other than 0
abbrev pub weighted_sum : (ℕ → Value) → List (ℕ × ℤ) → Value
weighted_sum table cells = value_of (fold (λ total pair. with_term total pair.1 (table pair.0)) no_terms cells)

-- what a cell has where no rule governs it, and what STET gives: a leaf cell what is stored, 0 where nothing is;
-- a consolidated cell the weighted sum of the leaf cells below it, whatever rules govern the cells between
abbrev pub base : RuleSystem → Stored → (ℕ → Value) → ℕ → Value
base w stored table c =
    if w.is_leaf c then option_map_or Num (stored c) zero_value else weighted_sum table (w.below c)

-- what ConsolidateChildren gives at a cell in a dimension: the weighted sum over the components of the cell's element;
-- where that is a leaf, the base
abbrev pub children_value : RuleSystem → Stored → (ℕ → Value) → ℕ → ℕ → Value
children_value w stored table c dim = option_map_or (weighted_sum table) (w.components c dim) (base w stored table c)

-- what a reference gives at a cell: the value of the cell that it names, 0 where it names none
abbrev pub named : RuleSystem → (ℕ → Value) → ℕ → Reference → Value
named w table c r = option_map_or table (w.target r c) zero_value

-- what a formula takes at a cell beside its references, where the statements after it give `rest`
abbrev pub others : RuleSystem → Stored → (ℕ → Value) → ℕ → Value → Others
others w stored table c rest =
    record {
      stet = base w stored table c;
      rest = rest;
      children = children_value w stored table c;
      own = w.own c;
    }

-- what a formula gives a cell, where the statements after it give `rest`
abbrev pub value_at : RuleSystem → Stored → (ℕ → Value) → ℕ → Value → Formula → Value
value_at w stored table c rest = formula_value (named w table c) (others w stored table c rest)

-- what statements give a cell, the first that has a part for it before the others; its base where none has
abbrev pub value_by : RuleSystem → Stored → (ℕ → Value) → ℕ → List Rule → Value
value_by w stored table c [] = base w stored table c
value_by w stored table c (rule ∷ rules) =
    option_map_or (value_at w stored table c (value_by w stored table c rules)) (part_at w c rule)
    (value_by w stored table c rules)

-- the right side of a cell's equation: what the statements give it
abbrev pub right_side : RuleSystem → Stored → (ℕ → Value) → ℕ → Value
right_side w stored table c = value_by w stored table c w.rules

-- a table of values solves the rule equations: each cell has the value of its right side
abbrev pub SolvesRules : RuleSystem → Stored → (ℕ → Value) → Type 0
SolvesRules w stored table = Solves (IsCell w) (right_side w stored) table

-- how deep a cell lies: by its place in the declared order, and then by its level
abbrev pub depth : RuleSystem → ℕ → ℕ
depth w c = w.levels * w.rank c + w.level c

-- the dense value of a cell: that of plain rounds of evaluation over all cells, one more than the cell is deep
abbrev pub dense_value : RuleSystem → Stored → ℕ → Value
dense_value w stored = table_by_rounds zero_value (right_side w stored) (λ c. depth w c + 1)

-- among statements, the place of the first one from place n on that has a part for the cell
abbrev pub governing_among : RuleSystem → List Rule → ℕ → ℕ → Option ℕ
governing_among w rules c n = option_map (λ k. n + k) (position (λ rule. is_some (part_at w c rule)) (drop n rules))

-- the same among all statements
abbrev pub governing_from : RuleSystem → ℕ → ℕ → Option ℕ
governing_from w c n = governing_among w w.rules c n

-- the place of the statement that governs a cell, and of the next one after place n
abbrev pub governing : RuleSystem → ℕ → Option ℕ
governing w c = governing_from w c 0

abbrev pub governing_after : RuleSystem → ℕ → ℕ → Option ℕ
governing_after w c n = governing_from w c (suc n)

-- what the statements from place n on give a cell
abbrev pub value_from : RuleSystem → Stored → (ℕ → Value) → ℕ → ℕ → Value
value_from w stored table c n = value_by w stored table c (drop n w.rules)

-- among statements, the formula that the one at place n has for a cell
abbrev pub formula_among : RuleSystem → List Rule → ℕ → ℕ → Option Formula
formula_among w rules c n = option_and_then (part_at w c) (slice_get rules n)

-- the same among all statements
abbrev pub formula_at : RuleSystem → ℕ → ℕ → Option Formula
formula_at w c n = formula_among w w.rules c n
