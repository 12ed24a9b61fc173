use Rattle.std.proofs.Common.{[], ◌∷◌, ◌++◌, codes}
use Rattle.cube_lex.proofs.Adding.{then_spaces}
use Rattle.cube_lex.specs.Written.{sign_token}
use Rattle.model_text.specs.Spelled.{ranks_spelled}
use Rattle.model_text.proofs.order_printing.write_list.Goals as goal

pub returns : goal.returns
returns c =
    then_spaces c.write_pieces-2.result c.args.out.now.items c.write_pieces.new.out.items c.write_pieces-2.new.out.items (sign_token (codes "(") ∷ []) (ranks_spelled c.args.ranks.now ++ sign_token (codes ")") ∷ []) c.in_ok-write_pieces.ensures.ok
    (then_spaces c.write_pieces-2.result c.write_pieces.new.out.items c.write_ranks.new.out.items c.write_pieces-2.new.out.items (ranks_spelled c.args.ranks.now) (sign_token (codes ")") ∷ []) c.in_ok-write_ranks.ensures c.write_pieces-2.ensures.ok)
