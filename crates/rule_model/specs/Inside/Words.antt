-- The words for what comes without a statement, as they stand in the N parts of statements.
use Rattle.std.specs.Prelude.{List, map, false}
use Rattle.std.specs.Option.{option_map_or}
use Rattle.rule_laws.specs.declared.formula.Formula.{Formula}
use Rattle.rule_model.specs.declared.rules.CubeRules.{CubeRules}
use Rattle.rule_model.specs.declared.rules.Statement.{Statement}
use Rattle.rule_model.specs.declared.words.Words.{Words}
use Rattle.rule_model.specs.Input.{has_stet, has_continue}

abbrev pub words_in : Formula → Words
words_in formula = record { stet = has_stet formula; rest = has_continue formula }

-- those of a statement's N part; none where it has none
abbrev pub leaf_words : Statement → Words
leaf_words statement = option_map_or words_in statement.leaf (record { stet = false; rest = false })

-- those of each statement of a cube
abbrev pub rule_words : CubeRules → List Words
rule_words rules = map leaf_words rules.statements
