use Rattle.std.proofs.Common.{◌≡◌, map, take}
use Rattle.rule_model.specs.Inside.Words.{rule_words}
use Rattle.rule_model.proofs.words.words_of_cubes.Given as goal

abbrev pub invariant-each : goal.invariant-each
invariant-each l = l.words.items ≡ map rule_words (take l.place l.cubes)
