use Rattle.std.proofs.lemmas.List.{take_more}
use Rattle.std.proofs.lemmas.Slice.Zip.{all_zipped_more}
use Rattle.dim_core.specs.Draft.{IsResolved}
use Rattle.dim_core.proofs.resolve.resolve_all.Goals as goal

pub loop-list-preserved : goal.loop-list-preserved
loop-list-preserved c =
    let item = take_more c.args.lists.now c.loop-list.list-index c.list-item.result c.loop-list-test.true in
    rw (item, ← c.list-item.is, c.in_ok-push.ensures.items)
    (all_zipped_more (IsResolved c.args.names.now.keys) _ _ _ _ c.loop-list.invariant (rw c.as_slice.ensures at c.in_ok-resolve.ensures))
