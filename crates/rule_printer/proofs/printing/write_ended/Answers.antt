use Rattle.std.proofs.Common.{[], ◌∷◌, codes}
use Rattle.cube_lex.specs.Written.{sign_token}
use Rattle.rule_printer.proofs.WrittenParts.{then_adds}
use Rattle.rule_printer.specs.Spelled.{tree_spelled}
use Rattle.rule_printer.proofs.printing.write_ended.Goals as goal

pub returns : goal.returns
returns c = then_adds c.write_sign.result c.args.out.now.items c.write_tree.new.out.items c.write_sign.new.out.items (tree_spelled c.args.tree.now) (sign_token (codes ";") ∷ []) c.in_ok-write_tree.ensures c.write_sign.ensures.spaced
