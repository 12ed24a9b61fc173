use Rattle.std.proofs.Common.{[], ◌∷◌, codes}
use Rattle.cube_lex.proofs.Adding.{then_spaces}
use Rattle.cube_lex.specs.Written.{sign_token}
use Rattle.model_text.specs.Spelled.{rank_spelled}
use Rattle.model_text.proofs.order_printing.write_next_rank.Goals as goal

pub returns : goal.returns
returns c = then_spaces c.write_rank.result c.args.out.now.items c.write_pieces.new.out.items c.write_rank.new.out.items (sign_token (codes ",") ∷ []) (rank_spelled c.args.rank.now) c.in_ok-write_pieces.ensures.ok c.write_rank.ensures
