use Rattle.std.proofs.Common.{[], ◌∷◌, codes}
use Rattle.cube_lex.proofs.Adding.{then_spaces}
use Rattle.cube_lex.specs.Written.{word_token}
use Rattle.model_text.specs.Spelled.{list_spelled}
use Rattle.model_text.proofs.order_printing.write_lists.Goals as goal

pub returns : goal.returns
returns c =
    then_spaces c.write_list-2.result c.args.out.now.items c.write_list.new.out.items c.write_list-2.new.out.items (list_spelled c.args.leaves.now) (word_token (codes "TOTALS") ∷ list_spelled c.args.totals.now) c.in_ok-write_list.ensures
    (then_spaces c.write_list-2.result c.write_list.new.out.items c.write_pieces.new.out.items c.write_list-2.new.out.items (word_token (codes "TOTALS") ∷ []) (list_spelled c.args.totals.now) c.in_ok-write_pieces.ensures.ok c.write_list-2.ensures)
