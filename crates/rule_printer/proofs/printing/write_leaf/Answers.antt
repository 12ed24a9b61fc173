use Rattle.std.proofs.Common.{[], ◌∷◌, codes}
use Rattle.cube_lex.specs.Written.{sign_token, word_token}
use Rattle.rule_printer.proofs.WrittenParts.{then_adds}
use Rattle.rule_printer.specs.Spelled.{ended_spelled}
use Rattle.rule_printer.proofs.printing.write_leaf.Goals as goal

pub returns : goal.returns
returns c =
    then_adds c.write_ended.result c.args.out.now.items c.write_word.new.out.items c.write_ended.new.out.items (word_token (codes "N") ∷ []) (sign_token (codes ":") ∷ ended_spelled c.args.tree.now) c.in_ok-write_word.ensures.spaced
    (then_adds c.write_ended.result c.write_word.new.out.items c.write_sign.new.out.items c.write_ended.new.out.items (sign_token (codes ":") ∷ []) (ended_spelled c.args.tree.now) c.in_ok-write_sign.ensures.spaced c.write_ended.ensures)
