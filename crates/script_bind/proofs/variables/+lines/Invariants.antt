use Rattle.std.proofs.Common.{◌≡◌, map, drop}
use Rattle.script_bind.specs.Variables.{in_turn, words_at, words_of_arm}
use Rattle.script_bind.proofs.variables.+lines.Given as goal

abbrev pub invariant-add_words_of_arms-each : goal.invariant-add_words_of_arms-each
invariant-add_words_of_arms-each l =
    in_turn (map words_of_arm (drop l.arm-index l.arms)) l.words ≡ in_turn (map words_of_arm l.arms) l.initial.words

abbrev pub invariant-add_words_of_lines-each : goal.invariant-add_words_of_lines-each
invariant-add_words_of_lines-each l =
    in_turn (map words_at (drop l.line-index l.lines)) l.words ≡ in_turn (map words_at l.lines) l.initial.words
