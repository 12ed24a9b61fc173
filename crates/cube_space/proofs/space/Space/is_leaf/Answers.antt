-- What is read of the cell is its own dimensions and elements.
use Rattle.std.proofs.Common.{◌∙◌, length, arith, sym, ap, subst}
use Rattle.std.proofs.lemmas.List.{length-take-le}
use Rattle.cube_space.specs.Layout.{Layout}
use Rattle.cube_space.specs.Cells.{IsSpace}
use Rattle.cube_space.proofs.Places.{cell-place}
use Rattle.cube_space.proofs.LeafCells.{IsRead, cell-read-as}
use Rattle.cube_space.proofs.space.Space.is_leaf.Goals as goal

pub shape-requires : goal.shape-requires
shape-requires c =
    let place = (cell-place c.args.self.now c.args.cell c.requires).place in
    omega (arith, place.there, c.place-cube.ensures.cube)

pub slice_bounds-at-end : goal.slice_bounds-at-end
slice_bounds-at-end c =
    let read = cell-read-as c.args.self.now c.args.cell c.place-cube.result c.shape.result.now c.deref.result.now c.as_slice-dims.result.now c.place-cube.new.at _ (subst IsSpace c.self.view_is c.self.invariant.valid) c.requires c.place-cube.ensures.cube c.shape.ensures (c.deref.ensures.value ∙ ap (λ (l : Layout). l.dimensions) c.self.view_is) c.as_slice-dims.ensures c.place-cube.ensures.elements in
    omega (arith, read.few, c.place-cube.array_long)

read-at : (c : goal.After-at-2-1) → IsRead c.args.self.now c.args.cell c.deref.result.now c.as_slice-dims.result.now c.place-cube.new.at
read-at c = cell-read-as c.args.self.now c.args.cell c.place-cube.result c.shape.result.now c.deref.result.now c.as_slice-dims.result.now c.place-cube.new.at _ (subst IsSpace c.self.view_is c.self.invariant.valid) c.requires c.place-cube.ensures.cube c.shape.ensures (c.deref.ensures.value ∙ ap (λ (l : Layout). l.dimensions) c.self.view_is) c.as_slice-dims.ensures c.place-cube.ensures.elements

pub slice_bounds-are_leaves-end : goal.slice_bounds-are_leaves-end
slice_bounds-are_leaves-end c = sym (length-take-le (length c.as_slice-dims.result.now) c.place-cube.new.at (omega (arith, (read-at c).few, c.place-cube.array_long)))

pub are_leaves-requires-clause-in_range : goal.are_leaves-requires-clause-in_range
are_leaves-requires-clause-in_range c = (read-at c).in_range

pub are_leaves-requires-clause-elements : goal.are_leaves-requires-clause-elements
are_leaves-requires-clause-elements c = (read-at c).digits

pub returns : goal.returns
returns c =
    let read = cell-read-as c.args.self.now c.args.cell c.place-cube.result c.shape.result.now c.deref.result.now c.as_slice-dims.result.now c.place-cube.new.at _ (subst IsSpace c.self.view_is c.self.invariant.valid) c.requires c.place-cube.ensures.cube c.shape.ensures (c.deref.ensures.value ∙ ap (λ (l : Layout). l.dimensions) c.self.view_is) c.as_slice-dims.ensures c.place-cube.ensures.elements in
    c.are_leaves.ensures ∙ read.leaves
