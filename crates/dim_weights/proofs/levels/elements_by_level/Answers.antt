use Rattle.std.proofs.Common.{length}
use Rattle.std.specs.List.{range_with_len}
use Rattle.dim_weights.specs.Inside.Levels.{IsSortedByLevel}
use Rattle.dim_weights.proofs.ByLevel.{IsByLevel-sorted}
use Rattle.dim_weights.proofs.levels.elements_by_level.Goals as goal

pub returns : goal.returns
returns c =
    let sorted : IsSortedByLevel c.levels.result.now (range_with_len 0 (length c.args.dimension.now.elements)) c.sort_by_level.new.elements.items =
    rw (c.in_ok-elements.ensures, c.len.ensures.len) at c.in_ok-sort_by_level.ensures in
    IsByLevel-sorted c.args.dimension.now c.len.ensures.valid c.levels.result.now c.sort_by_level.new.elements.items c.levels.ensures sorted
