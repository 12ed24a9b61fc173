use Rattle.std.proofs.Common.{sym, subst, ℕ, ◌<◌, length, List, []}
use Rattle.std.specs.List.{Contains}
use Rattle.cube_space.specs.Layout.{axes}
use Rattle.cube_space.specs.Cells.{cube_of}
use Rattle.cube_space.proofs.Places.{cell-place}
use Rattle.rule_laws.specs.Feeding.{leaves_of}
use Rattle.rule_model.specs.System.{system_of}
use Rattle.feed_map.specs.Inside.Leaves.{GoesOn, AreRoots}
use Rattle.feed_map.proofs.GainFacts.{gains-result, stops-result}
use Rattle.feed_map.proofs.LeafSteps.{cell-roots}
use Rattle.feed_map.proofs.StandFacts.{total-stands, stands-total}
use Rattle.feed_map.proofs.leaves.add_below.Goals as goal

pub add_product-requires-clause-cube : goal.add_product-requires-clause-cube
add_product-requires-clause-cube c =
    subst (λ (k : ℕ). k < length c.args.model.now.space.cubes) (sym c.requires.cube) (cell-place c.args.model.now.space c.args.cell c.requires.cell).place.there

pub add_product-requires-clause-roots : goal.add_product-requires-clause-roots
add_product-requires-clause-roots c =
    let space = c.args.model.now.space in
    subst (λ (k : ℕ). AreRoots c.args.elements.now [] 0 (axes space k)) (sym c.requires.cube)
    (subst (λ (es : List ℕ). AreRoots es [] 0 (axes space (cube_of space c.args.cell))) (sym c.requires.elements) (cell-roots space c.args.cell c.requires.cell))

pub returns-clause-gains : goal.returns-clause-gains
returns-clause-gains c =
    let m = c.args.model.now in
    gains-result c.add_product.result (GoesOn m.space c.args.cube c.args.elements.now 0 (axes m.space c.args.cube) []) (Contains (leaves_of (system_of m) c.args.cell))
    (total-stands m c.args.cell c.requires.cell c.requires.total c.args.cube c.requires.cube c.args.elements.now c.requires.elements)
    (stands-total m c.args.cell c.requires.cell c.requires.total c.args.cube c.requires.cube c.args.elements.now c.requires.elements)
    c.args.growth.now c.add_product.new.growth c.add_product.ensures.gains

pub returns-clause-stops : goal.returns-clause-stops
returns-clause-stops c =
    let m = c.args.model.now in
    stops-result c.add_product.result (GoesOn m.space c.args.cube c.args.elements.now 0 (axes m.space c.args.cube) []) (Contains (leaves_of (system_of m) c.args.cell))
    (total-stands m c.args.cell c.requires.cell c.requires.total c.args.cube c.requires.cube c.args.elements.now c.requires.elements)
    c.args.growth.now c.add_product.new.growth c.add_product.ensures.stops
