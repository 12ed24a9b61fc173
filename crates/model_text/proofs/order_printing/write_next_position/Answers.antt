use Rattle.std.proofs.Common.{[], ◌∷◌, codes}
use Rattle.cube_lex.proofs.Adding.{then_spaces}
use Rattle.cube_lex.specs.Written.{sign_token}
use Rattle.model_text.specs.Spelled.{position_spelled}
use Rattle.model_text.proofs.order_printing.write_next_position.Goals as goal

pub returns : goal.returns
returns c = then_spaces c.write_position.result c.args.out.now.items c.write_pieces.new.out.items c.write_position.new.out.items (sign_token (codes ",") ∷ []) (position_spelled c.args.position.now) c.in_ok-write_pieces.ensures.ok c.write_position.ensures
