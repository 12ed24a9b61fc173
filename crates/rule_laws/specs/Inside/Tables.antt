-- The numbers of a table.
use Rattle.std.specs.Arc.{arc_value}
use Rattle.std.specs.Prelude.{ℤ, List}
use Rattle.rule_laws.specs.declared.element_table.Numbers.{Numbers}
use Rattle.rule_laws.specs.declared.element_table.Numbers.TheVariants.{Each, Marked}
use Rattle.rule_laws.specs.Tables.{mark_numbers}

abbrev pub numbers_in : Numbers → List ℤ
numbers_in (Each numbers) = arc_value numbers
numbers_in (Marked marks) = mark_numbers (arc_value marks)
