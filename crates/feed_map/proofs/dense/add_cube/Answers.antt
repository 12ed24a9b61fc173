use Rattle.std.proofs.Common.{[]}
use Rattle.cube_space.specs.Layout.{axes}
use Rattle.feed_map.specs.Inside.Leaves.{IsLeafCellOf, GoesOn}
use Rattle.feed_map.proofs.GainFacts.{gains-result, stops-result}
use Rattle.feed_map.proofs.LeafFacts.{goes-on-cube, cube-goes-on}
use Rattle.feed_map.proofs.LeafSteps.{leaf-roots}
use Rattle.feed_map.proofs.dense.add_cube.Goals as goal

pub add_product-requires-clause-roots : goal.add_product-requires-clause-roots
add_product-requires-clause-roots c = leaf-roots (axes c.args.model.now.space c.args.cube) c.deref.result.now (rw c.deref.ensures.value c.in_ok-leaves.ensures)

pub returns-clause-gains : goal.returns-clause-gains
returns-clause-gains c =
    let space = c.args.model.now.space in
    gains-result c.add_product.result (GoesOn space c.args.cube [] 0 (axes space c.args.cube) []) (IsLeafCellOf space c.args.cube) (goes-on-cube space c.args.cube) (cube-goes-on space c.args.cube)
    c.args.growth.now c.add_product.new.growth c.add_product.ensures.gains

pub returns-clause-stops : goal.returns-clause-stops
returns-clause-stops c =
    let space = c.args.model.now.space in
    stops-result c.add_product.result (GoesOn space c.args.cube [] 0 (axes space c.args.cube) []) (IsLeafCellOf space c.args.cube) (goes-on-cube space c.args.cube)
    c.args.growth.now c.add_product.new.growth c.add_product.ensures.stops
