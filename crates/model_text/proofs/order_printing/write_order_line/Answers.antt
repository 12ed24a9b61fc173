use Rattle.std.proofs.Common.{[], ◌∷◌, ◌++◌, codes}
use Rattle.cube_lex.proofs.Adding.{then_ends}
use Rattle.cube_lex.specs.Written.{word_token, sign_token}
use Rattle.model_text.specs.Spelled.{positions_spelled}
use Rattle.model_text.proofs.order_printing.write_order_line.Goals as goal

pub returns : goal.returns
returns c =
    then_ends c.write_line.result c.args.out.now.items c.write_pieces.new.out.items c.write_line.new.out.items (word_token (codes "ORDER") ∷ []) (positions_spelled c.args.positions.now ++ sign_token (codes ";") ∷ []) c.in_ok-write_pieces.ensures.ok
    (then_ends c.write_line.result c.write_pieces.new.out.items c.write_positions.new.out.items c.write_line.new.out.items (positions_spelled c.args.positions.now) (sign_token (codes ";") ∷ []) c.in_ok-write_positions.ensures c.write_line.ensures.ok)
