use Rattle.std.proofs.Common.{◌+◌, sym, ap, ◌∙◌}
use Rattle.script_values.specs.Characters.{character_count}
use Rattle.script_values.proofs.Counted.{count_of_text}
use Rattle.script_values.proofs.characters.character_count.Goals as goal

pub returns-in-len1-up-clause-count : goal.returns-in-len1-up-clause-count
unfolding character_count
returns-in-len1-up-clause-count c =
    ap (λ n. n + 1) c.count_begun.ensures.count ∙ sym (count_of_text c.args.text.now c.in-len1-up.len_at_least)
