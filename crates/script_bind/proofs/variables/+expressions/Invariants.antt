use Rattle.std.proofs.Common.{◌≡◌, map, drop}
use Rattle.script_bind.specs.Variables.{in_turn, words_in}
use Rattle.script_bind.proofs.variables.+expressions.Given as goal

abbrev pub invariant-add_words_in_all-each : goal.invariant-add_words_in_all-each
invariant-add_words_in_all-each l =
    in_turn (map words_in (drop l.expr-index l.exprs)) l.words ≡ in_turn (map words_in l.exprs) l.initial.words
