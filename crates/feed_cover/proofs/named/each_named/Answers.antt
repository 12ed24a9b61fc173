use Rattle.feed_cover.proofs.Ways.{move-at, fixed-at}
use Rattle.feed_cover.proofs.named.each_named.Goals as goal

pub passes-requires : goal.passes-requires
passes-requires g c =
    c.requires.test c.in-Fixed.target (fixed-at c.args.model.now.space c.args.view.cube c.args.view.reference.now c.as_slice.result.now c.args.place c.in-Fixed.target c.index-as_slice-place.result c.requires.view.reference c.as_slice.ensures c.requires.place c.index-as_slice-place.is c.in-Fixed.is)

pub each_narrow-requires-clause-dim : goal.each_narrow-requires-clause-dim
each_narrow-requires-clause-dim g c = (move-at c.args.model.now.space c.args.view.cube c.args.view.reference.now c.as_slice.result.now c.args.place c.in-Moved.from c.in-Moved.to c.index-as_slice-place.result c.requires.view.reference c.as_slice.ensures c.requires.place c.index-as_slice-place.is c.in-Moved.is).followed

pub each_narrow-requires-clause-test : goal.each_narrow-requires-clause-test
each_narrow-requires-clause-test g c element low target sends =
    c.requires.test target ((move-at c.args.model.now.space c.args.view.cube c.args.view.reference.now c.as_slice.result.now c.args.place c.in-Moved.from c.in-Moved.to c.index-as_slice-place.result c.requires.view.reference c.as_slice.ensures c.requires.place c.index-as_slice-place.is c.in-Moved.is).below element target sends)
