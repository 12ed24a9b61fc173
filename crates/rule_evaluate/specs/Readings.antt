-- What formulas are given of other cells, and what statements give a cell by it.
use Rattle.std.specs.Prelude.{ℕ, List, [], ◌∷◌}
use Rattle.std.specs.Option.{option_map_or}
use Rattle.cube_fixed.specs.declared.value.Value.{Value}
use Rattle.rule_laws.specs.declared.formula.Formula.{Formula}
use Rattle.rule_laws.specs.Meaning.{Others, formula_value}
use Rattle.rule_laws.specs.RuleSystem.{RuleSystem, Stored, Rule, part_at, named, base, children_value}

-- the value of each cell, what each cell would have if no statement governed it, and for each cell and dimension the
-- weighted sum over the components of the cell's element
pub record Readings : Type 0 where
  pub value : ℕ → Value
  pub base : ℕ → Value
  pub children : ℕ → ℕ → Value

-- what ConsolidateChildren gives at a cell in a dimension: where the cell's element is a leaf, the base
abbrev pub children_by : RuleSystem → Readings → ℕ → ℕ → Value
children_by w t c dim = option_map_or (λ components. t.children c dim) (w.components c dim) (t.base c)

-- what a formula takes at a cell beside its references, where the statements after it give `rest`
abbrev pub others_by : RuleSystem → Readings → ℕ → Value → Others
others_by w t c rest = record { stet = t.base c; rest = rest; children = children_by w t c; own = w.own c }

-- what a formula gives a cell, where the statements after it give `rest`
abbrev pub formula_by : RuleSystem → Readings → ℕ → Value → Formula → Value
formula_by w t c rest = formula_value (named w t.value c) (others_by w t c rest)

-- what statements give a cell, the first that has a part for it before the others; its base where none has
abbrev pub statements_value : RuleSystem → Readings → ℕ → List Rule → Value
statements_value w t c [] = t.base c
statements_value w t c (rule ∷ rules) =
    option_map_or (formula_by w t c (statements_value w t c rules)) (part_at w c rule) (statements_value w t c rules)

-- the readings of a table of values, over what is stored
abbrev pub readings_of : RuleSystem → Stored → (ℕ → Value) → Readings
readings_of w stored table =
    record { value = table; base = base w stored table; children = children_value w stored table }
