use Rattle.std.proofs.Common.{◌∙◌, sym, ap, subst}
use Rattle.cube_space.proofs.Places.{cell-place}
use Rattle.cube_space.specs.Cells.{IsSpace, elements_of}
use Rattle.rule_model.proofs.Shapes.{place_taken}
use Rattle.rule_model.proofs.places.place_of.Goals as goal

pub shape-requires : goal.shape-requires
shape-requires c =
    let has = cell-place c.space-space.result.now c.args.cell (rw c.space-space.ensures.space c.requires) in
    rw c.place-cube.ensures.cube has.place.there

pub returns-clause-elements : goal.returns-clause-elements
returns-clause-elements c =
    let space = c.space-space.result.now in
    place_taken space c.args.cell c.place-cube.result c.shape.result.now c.as_slice.result.now c.place-cube.new.at _ (subst IsSpace (sym c.space-space.ensures.space) c.space-space.ensures.valid)
    (rw c.space-space.ensures.space c.requires) c.place-cube.ensures.cube c.shape.ensures c.as_slice.ensures c.place-cube.ensures.elements
    ∙ ap (λ s. elements_of s c.args.cell) c.space-space.ensures.space
