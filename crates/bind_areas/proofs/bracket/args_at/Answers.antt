use Rattle.cube_space.specs.Layout.{axes}
use Rattle.bind_areas.specs.Areas.{arg_at, args_at}
use Rattle.bind_areas.proofs.EntryFacts.{each_more}
use Rattle.bind_areas.proofs.bracket.args_at.Goals as goal

pub loop-place-preserved : goal.loop-place-preserved
loop-place-preserved c =
    each_more (arg_at c.args.simples.now c.args.places.now) c.loop-place.args.items c.push.new.self.items (args_at c.args.simples.now c.args.places.now (axes c.args.space.now c.args.cube))
    c.arg_at.result c.loop-place.place (axes c.args.space.now c.args.cube) c.axis-dimension.result.now c.axis-dimension.ensures c.in_ok-push.ensures.items c.arg_at.ensures c.loop-place.invariant
