use Rattle.std.proofs.Common.{ap, arith, length}
use Rattle.std.proofs.lemmas.List.{length-append}
use Rattle.feed_find.specs.Added.{numbered}
use Rattle.feed_find.proofs.Adding.{length-numbered}
use Rattle.feed_find.proofs.added.with_feeders.Goals as goal

pub returns-clause-few : goal.returns-clause-few
returns-clause-few c =
    let more = numbered c.feeder_statements-first.result c.args.group.items in
    omega (
      arith,
      ap length c.new-3.ensures,
      ap length c.in_ok-add_group.ensures,
      length-append c.into_vec-feeders.result.items more,
      length-numbered c.feeder_statements-first.result c.args.group.items,
      ap length c.into_vec-feeders.ensures,
      ap length c.replace-own.ensures.value,
      c.len-more.ensures,
      c.if-count-more-gt-MOST_FEEDERS.false,
      ap length c.as_slice.ensures,
      c.args.group.ok,
    )
