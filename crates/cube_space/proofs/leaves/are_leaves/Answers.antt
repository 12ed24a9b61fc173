use Rattle.std.proofs.Common.{◌<◌, ◌+◌, ◌&&◌, ◌∙◌, length, get_or, drop, arith, sym, ap}
use Rattle.cube_space.specs.Layout.{axes_of, sizes_of}
use Rattle.cube_space.specs.Cells.{are_leaves}
use Rattle.cube_space.proofs.AxisSizes.{length-axes_of}
use Rattle.cube_space.proofs.Radix.{digits-length}
use Rattle.cube_space.proofs.LeafTests.{is_leaf-test, digits-turn, leaves-turn}
use Rattle.cube_space.proofs.leaves.are_leaves.Goals as goal

pub bounds-elements-i : goal.bounds-elements-i
bounds-elements-i c =
    omega (arith, c.loop-i-test.true, digits-length (sizes_of (axes_of c.args.dimensions.now c.args.dims.now)) c.args.elements.now c.requires.elements, length-axes_of c.args.dimensions.now c.args.dims.now c.requires.in_range)

pub is_leaf-requires : goal.is_leaf-requires
is_leaf-requires c =
    let h : c.loop-i.i < length c.args.dims.now = omega (arith, c.loop-i-test.true) in
    let g : c.loop-i.i < length c.args.elements.now = omega (arith, h, digits-length (sizes_of (axes_of c.args.dimensions.now c.args.dims.now)) c.args.elements.now c.requires.elements, length-axes_of c.args.dimensions.now c.args.dims.now c.requires.in_range) in
    (digits-turn c.args.dimensions.now c.args.dims.now c.args.elements.now c.loop-i.i _ h g (c.requires.in_range c.loop-i.i 0 h) c.index-dimensions-dim.is c.loop-i.invariant.digits).0

pub returns-then-not-is_leaf : goal.returns-then-not-is_leaf
returns-then-not-is_leaf c =
    let h : c.loop-i.i < length c.args.dims.now = omega (arith, c.loop-i-test.true) in
    let g : c.loop-i.i < length c.args.elements.now = omega (arith, h, digits-length (sizes_of (axes_of c.args.dimensions.now c.args.dims.now)) c.args.elements.now c.requires.elements, length-axes_of c.args.dimensions.now c.args.dims.now c.requires.in_range) in
    let turn = leaves-turn c.args.dimensions.now c.args.dims.now c.args.elements.now c.loop-i.i _ h g (c.requires.in_range c.loop-i.i 0 h) c.index-dimensions-dim.is in
    let test = is_leaf-test c.index-dimensions-dim.result (get_or c.args.elements.now c.loop-i.i 0) c.is_leaf.result c.is_leaf.ensures in
    sym (c.loop-i.invariant.leaves ∙ turn ∙ ap (λ b. b && are_leaves (axes_of c.args.dimensions.now (drop (c.loop-i.i + 1) c.args.dims.now)) (drop (c.loop-i.i + 1) c.args.elements.now)) (sym test ∙ c.if-not-is_leaf.true))

pub loop-i-preserved : goal.loop-i-preserved
loop-i-preserved c =
    let h : c.loop-i.i < length c.args.dims.now = omega (arith, c.loop-i-test.true) in
    let g : c.loop-i.i < length c.args.elements.now = omega (arith, h, digits-length (sizes_of (axes_of c.args.dimensions.now c.args.dims.now)) c.args.elements.now c.requires.elements, length-axes_of c.args.dimensions.now c.args.dims.now c.requires.in_range) in
    let turn = leaves-turn c.args.dimensions.now c.args.dims.now c.args.elements.now c.loop-i.i _ h g (c.requires.in_range c.loop-i.i 0 h) c.index-dimensions-dim.is in
    let digits = digits-turn c.args.dimensions.now c.args.dims.now c.args.elements.now c.loop-i.i _ h g (c.requires.in_range c.loop-i.i 0 h) c.index-dimensions-dim.is c.loop-i.invariant.digits in
    let test = is_leaf-test c.index-dimensions-dim.result (get_or c.args.elements.now c.loop-i.i 0) c.is_leaf.result c.is_leaf.ensures in
    record {
      digits = digits.1;
      leaves = c.loop-i.invariant.leaves ∙ turn ∙ ap (λ b. b && are_leaves (axes_of c.args.dimensions.now (drop (c.loop-i.i + 1) c.args.dims.now)) (drop (c.loop-i.i + 1) c.args.elements.now)) (sym test ∙ c.if-not-is_leaf.false);
    }
