use Rattle.std.proofs.Common.{[], ◌∷◌, ◌++◌, codes}
use Rattle.cube_lex.proofs.Adding.{then_spaces}
use Rattle.cube_lex.specs.Written.{word_token}
use Rattle.model_text.specs.Spelled.{totals_spelled, lag_spelled}
use Rattle.model_text.proofs.order_printing.write_auto.Goals as goal

pub returns : goal.returns
returns c =
    then_spaces c.write_lag.result c.args.out.now.items c.write_pieces.new.out.items c.write_lag.new.out.items (word_token (codes "AUTO") ∷ []) (totals_spelled c.args.totals ++ lag_spelled c.args.lag.now) c.in_ok-write_pieces.ensures.ok
    (then_spaces c.write_lag.result c.write_pieces.new.out.items c.write_totals.new.out.items c.write_lag.new.out.items (totals_spelled c.args.totals) (lag_spelled c.args.lag.now) c.in_ok-write_totals.ensures c.write_lag.ensures)
