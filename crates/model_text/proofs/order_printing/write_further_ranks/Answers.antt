use Rattle.std.proofs.Common.{subst, ap}
use Rattle.std.proofs.lemmas.List.{take_all}
use Rattle.std.specs.List.{flat_map}
use Rattle.cube_lex.specs.Written.{Spaces}
use Rattle.cube_lex.proofs.Spaced.{spaces-more}
use Rattle.model_text.specs.Spelled.{next_rank_spelled}
use Rattle.model_text.proofs.order_printing.write_further_ranks.Goals as goal

pub loop-rank-preserved : goal.loop-rank-preserved
loop-rank-preserved c = spaces-more next_rank_spelled c.args.out.now.items c.loop-rank.out.items c.write_next_rank.new.out.items c.args.ranks.now c.loop-rank.rank-index c.rank-item.result c.loop-rank-test.true c.loop-rank.invariant
    (subst (λ x. Spaces c.loop-rank.out.items c.write_next_rank.new.out.items (next_rank_spelled x)) c.rank-item.is c.in_ok-write_next_rank.ensures)

pub returns : goal.returns
returns c = subst (Spaces c.args.out.now.items c.loop-rank.out.items) (ap (flat_map next_rank_spelled) (take_all c.loop-rank.rank-index c.args.ranks.now c.loop-rank-test.false)) c.loop-rank.invariant
