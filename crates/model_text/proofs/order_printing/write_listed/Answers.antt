use Rattle.std.proofs.Common.{[], ◌∷◌, subst}
use Rattle.cube_lex.specs.Written.{Spaces}
use Rattle.cube_lex.proofs.Adding.{then_spaces}
use Rattle.cube_lex.specs.Written.{text_token}
use Rattle.model_text.specs.Spelled.{list_spelled}
use Rattle.model_text.proofs.order_printing.write_listed.Goals as goal

pub returns : goal.returns
returns c =
    then_spaces c.write_list.result c.args.out.now.items c.write_pieces.new.out.items c.write_list.new.out.items (text_token c.args.name.now ∷ []) (list_spelled c.args.ranks.now)
    (subst (λ n. Spaces c.args.out.now.items c.write_pieces.new.out.items (text_token n ∷ [])) c.shown.ensures.value c.in_ok-write_pieces.ensures.ok)
    c.write_list.ensures
