use Rattle.std.proofs.Common.{◌-◌, length, take, drop, get_or, refl, subst}
use Rattle.std.specs.List.{flat_map}
use Rattle.cube_lex.specs.Written.{Spaces}
use Rattle.cube_lex.proofs.Adding.{spaces_same, then_spaces}
use Rattle.model_text.proofs.Adding.{first_and_rest}
use Rattle.model_text.specs.Spelled.{rank_spelled, next_rank_spelled, ranks_spelled}
use Rattle.model_text.proofs.order_printing.write_ranks.Goals as goal

pub returns : goal.returns
returns c =
    spaces_same c.write_further_ranks.result c.args.out.now.items c.write_further_ranks.new.out.items _ (ranks_spelled c.args.ranks.now)
    (first_and_rest rank_spelled next_rank_spelled ranks_spelled (λ x rest. refl) c.args.ranks.now c.first-item.result c.in-len1-up.len_at_least)
    (then_spaces c.write_further_ranks.result c.args.out.now.items c.write_rank.new.out.items c.write_further_ranks.new.out.items
    (rank_spelled (get_or c.args.ranks.now 0 c.first-item.result)) (flat_map next_rank_spelled (take (length c.args.ranks.now - 1) (drop 1 c.args.ranks.now)))
    (subst (λ x. Spaces c.args.out.now.items c.write_rank.new.out.items (rank_spelled x)) c.first-item.is c.in_ok-write_rank.ensures)
    c.write_further_ranks.ensures)
