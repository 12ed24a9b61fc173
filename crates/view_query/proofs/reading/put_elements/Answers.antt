use Rattle.std.proofs.Common.{◌<◌, length, rules}
use Rattle.view_query.specs.Views.{element_at}
use Rattle.view_query.proofs.LoopFacts.{put_more}
use Rattle.view_query.proofs.reading.put_elements.Goals as goal

pub loop-place-preserved : goal.loop-place-preserved
loop-place-preserved c =
    let low : c.loop-place.place < length c.loop-place.at = search rules in
    put_more (element_at c.args.view.now c.args.row.now c.args.column.now) c.loop-place.at c.loop-place.place c.element_at.result low c.element_at.ensures c.loop-place.invariant
