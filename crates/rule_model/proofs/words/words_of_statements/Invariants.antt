use Rattle.std.proofs.Common.{◌≡◌, map, take}
use Rattle.rule_model.specs.Inside.Words.{leaf_words}
use Rattle.rule_model.proofs.words.words_of_statements.Given as goal

abbrev pub invariant-each : goal.invariant-each
invariant-each l = l.words.items ≡ map leaf_words (take l.place l.statements)
