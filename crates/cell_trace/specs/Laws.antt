-- What a value rests on: of a sum its parts, of a formula what evaluation reaches in it.
use Rattle.std.specs.Prelude.{◌≡◌, ℕ, ◌≤◌, ℤ, false, not, List, length, filter, fold, Option, Some, Contains}
use Rattle.cube_fixed.specs.declared.value.Value.{Value}
use Rattle.cube_fixed.specs.Arithmetic.{is_zero}
use Rattle.cube_fixed.specs.Total.{Total, no_terms, with_term, value_of}
use Rattle.rule_laws.specs.declared.formula.Formula.{Formula}
use Rattle.rule_laws.specs.declared.reference.Reference.{Reference}
use Rattle.rule_laws.specs.Meaning.{formula_value}
use Rattle.rule_laws.specs.RuleSystem.{weighted_sum}
use Rattle.cell_trace.specs.declared.item.Item.{Item}
use Rattle.cell_trace.specs.declared.item.Item.TheVariants.{Read, Children, Own, Rest}
use Rattle.cell_trace.specs.declared.line.Line.{Line}
use Rattle.cell_trace.specs.declared.line.Line.TheVariants as lines
use Rattle.cell_trace.specs.Trace.{Scene, given, most_parts, part_lines}
use Rattle.cell_trace.specs.Visits.{Given, visit}

-- the sum with what a line adds: only parts add anything
abbrev pub with_line : Total → Line → Total
with_line total (lines.Rule number) = total
with_line total (lines.Reads number x value) = total
with_line total (lines.ReadsNothing number) = total
with_line total (lines.Children dim) = total
with_line total (lines.Input stored) = total
with_line total lines.Sum = total
with_line total (lines.Part part) = with_term total part.weight part.value
with_line total (lines.More count) = total

-- the exact weighted sum of the parts among these lines
abbrev pub sum_of_lines : List Line → Value
sum_of_lines these = value_of (fold with_line no_terms these)

-- parts that are all listed add up to the sum over the cells, also where cells of the value 0 are left out
abbrev pub TheSumsAddUp : Type 0
TheSumsAddUp = (values : ℕ → Value) (cells : List (ℕ × ℤ))
    → (length cells ≤ most_parts → sum_of_lines (part_lines values cells) ≡ weighted_sum values cells)
    × (let others = filter (λ pair. not (is_zero (values pair.0))) cells in
    length others ≤ most_parts → sum_of_lines (part_lines values others) ≡ weighted_sum values cells)

-- at a cell whose element is a leaf in a dimension, ConsolidateChildren gives what STET gives
abbrev pub GivesOwn : Given → Type 0
GivesOwn g = (dim : ℕ) → g.has_components dim ≡ false → g.others.children dim ≡ g.others.stet

-- two are of one cell: references name the same cells, the cell's elements are the same, and they have components in
-- the same dimensions
pub record AreOfOneCell (g h : Given) : Type 0 where
  pub own : GivesOwn g
  pub other_own : GivesOwn h
  pub target : (r : Reference) → h.target r ≡ g.target r
  pub components : (dim : ℕ) → h.has_components dim ≡ g.has_components dim
  pub elements : (dim : ℕ) → h.others.own dim ≡ g.others.own dim

-- two give the same in what is evaluated
pub record Agree (g h : Given) (items : List (Option Item)) : Type 0 where
  pub reads : (r : Reference) → Contains items (Some (Read (g.target r))) → h.named r ≡ g.named r
  pub sums : (dim : ℕ) → Contains items (Some (Children dim)) → h.others.children dim ≡ g.others.children dim
  pub own : Contains items (Some Own) → h.others.stet ≡ g.others.stet
  pub rest : Contains items (Some Rest) → h.others.rest ≡ g.others.rest

-- the value of a formula rests on what is evaluated in it alone: whatever else is given, the same is evaluated, and the
-- value is the same
abbrev pub TheFormulasGive : Type 0
TheFormulasGive = (g h : Given) (f : Formula)
    → AreOfOneCell g h → Agree g h (visit g f).items → visit h f ≡ visit g f

-- that value is the formula's meaning
abbrev pub TheVisitsMean : Type 0
TheVisitsMean = (g : Given) (f : Formula) → (visit g f).value ≡ formula_value g.named g.others f

-- what a statement takes at a cell of a model is given so
abbrev pub TheScenesGiveOwn : Type 0
TheScenesGiveOwn = (s : Scene) (rest : Value) → GivesOwn (given s rest)
