use Rattle.std.proofs.Common.{slice_index, rules}
use Rattle.std.proofs.lemmas.List.Sorted.{IsNonDecreasingBy-from_sort_by_key}
use Rattle.std.proofs.lemmas.Fn.{always_returns_same}
use Rattle.dim_weights.proofs.levels.sort_by_level.Goals as goal

pub returns : goal.returns
returns c =
    let stable = c.in_ok-sort_by_key.ensures.stable (slice_index c.args.levels.now) (always_returns_same _ _ _ (λ a r q called. search rules)) in
    record {
      moved = c.in_ok-sort_by_key.ensures.permutation;
      rising = IsNonDecreasingBy-from_sort_by_key (slice_index c.args.levels.now) _ c.in_ok-sort_by_key.ensures.sorted (λ a r q k. search rules);
      stable = stable;
    }
