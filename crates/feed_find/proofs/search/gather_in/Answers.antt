use Rattle.std.proofs.Common.{◌++◌, ◌+◌}
use Rattle.std.specs.List.{flat_map, range_with_len}
use Rattle.feed_find.specs.Found.{picked_at}
use Rattle.feed_find.proofs.Gathering.{gathered-same, behind-more}
use Rattle.feed_find.proofs.search.gather_in.Goals as goal

pub each-preserved : goal.each-preserved
each-preserved c =
    let f = picked_at c.args.model.now c.args.cube in
    let k = c.each.place in
    record {
      added = λ picked so.
          gathered-same ((picked ++ flat_map f (range_with_len 0 k)) ++ f k) (picked ++ flat_map f (range_with_len 0 (k + 1))) c.gather_at.new.gathered (behind-more f picked k)
          (c.in_ok-gather_at.ensures.added (picked ++ flat_map f (range_with_len 0 k)) (c.each.invariant.added picked so));
      valid = c.in_ok-gather_at.ensures.valid;
      kept = c.in_ok-gather_at.ensures.kept;
    }
