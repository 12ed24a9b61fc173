use Rattle.std.proofs.Common.{◌++◌, ◌+◌}
use Rattle.std.specs.List.{flat_map, range_with_len}
use Rattle.feed_find.specs.Found.{picked_if}
use Rattle.feed_find.proofs.Gathering.{gathered-same, range-more}
use Rattle.feed_find.proofs.search.find.Goals as goal

pub each-preserved : goal.each-preserved
each-preserved c =
    let f = picked_if c.args.model.now c.args.wanted.now in
    let k = c.each.cube in
    record {
      added =
          gathered-same (flat_map f (range_with_len 0 k) ++ f k) (flat_map f (range_with_len 0 (k + 1))) c.gather_if.new.gathered (range-more f k)
          (c.in_ok-gather_if.ensures.added (flat_map f (range_with_len 0 k)) c.each.invariant.added);
      valid = c.in_ok-gather_if.ensures.valid;
    }
