use Rattle.cube_space.specs.Layout.{axes}
use Rattle.bind_areas.specs.Areas.{set_at, sets_at}
use Rattle.bind_areas.proofs.EntryFacts.{each_more}
use Rattle.bind_areas.proofs.area.sets_at.Goals as goal

pub loop-place-preserved : goal.loop-place-preserved
loop-place-preserved c =
    each_more (set_at c.args.entries.now c.args.places.now) c.loop-place.sets.items c.push.new.self.items (sets_at c.args.entries.now c.args.places.now (axes c.args.space.now c.args.cube))
    c.in_ok-set_at.field-0 c.loop-place.place (axes c.args.space.now c.args.cube) c.axis-dimension.result.now c.axis-dimension.ensures c.in_ok-push.ensures.items c.in_ok-set_at.ensures c.loop-place.invariant
