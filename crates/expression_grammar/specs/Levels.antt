-- The levels of operators: which operators each has, and what they join.
use Rattle.expression_grammar.specs.Language.{Table, Language}
use Rattle.expression_grammar.specs.declared.level.Level.{Level}
use Rattle.expression_grammar.specs.declared.level.Level.TheVariants as levels
use Rattle.expression_grammar.specs.declared.sort.Sort.{Sort}
use Rattle.expression_grammar.specs.declared.sort.Sort.TheVariants as sorts

-- the operators of a level
abbrev pub table : {A O : Type 0} → Language A O → Level → Table O
table L levels.Or = L.or
table L levels.And = L.and
table L levels.Relation = L.relation
table L levels.Sum = L.sum
table L levels.Product = L.product

-- what the operators of a level join
abbrev pub joins : Level → Sort
joins levels.Or = sorts.Truth
joins levels.And = sorts.Truth
joins levels.Relation = sorts.Value
joins levels.Sum = sorts.Value
joins levels.Product = sorts.Value
