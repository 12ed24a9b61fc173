use Rattle.std.proofs.Common.{[], ◌∷◌, ◌++◌, codes, subst}
use Rattle.cube_lex.specs.Written.{Spaces}
use Rattle.cube_lex.proofs.Adding.{then_spaces}
use Rattle.cube_lex.specs.Written.{text_token, word_token}
use Rattle.model_text.specs.Spelled.{list_spelled}
use Rattle.model_text.proofs.order_printing.write_by_kind.Goals as goal

pub returns : goal.returns
returns c =
    then_spaces c.write_lists.result c.args.out.now.items c.write_pieces.new.out.items c.write_lists.new.out.items (text_token c.args.name.now ∷ []) (list_spelled c.args.leaves.now ++ word_token (codes "TOTALS") ∷ list_spelled c.args.totals.now)
    (subst (λ n. Spaces c.args.out.now.items c.write_pieces.new.out.items (text_token n ∷ [])) c.shown.ensures.value c.in_ok-write_pieces.ensures.ok)
    c.write_lists.ensures
