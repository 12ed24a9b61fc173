use Rattle.std.proofs.Common.{take}
use Rattle.std.specs.List.{flat_map}
use Rattle.cube_lex.specs.Written.{Spaces}
use Rattle.model_text.specs.Spelled.{next_rank_spelled}
use Rattle.model_text.proofs.order_printing.write_further_ranks.Given as goal

abbrev pub invariant-loop-rank : goal.invariant-loop-rank
invariant-loop-rank l = Spaces l.fn.out.items l.out.items (flat_map next_rank_spelled (take l.rank-index l.ranks))
