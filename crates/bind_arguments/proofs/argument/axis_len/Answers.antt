use Rattle.std.proofs.Common.{◌<◌, ◌∙◌, ap, sym, subst, length, slice_index_or, All}
use Rattle.bind_arguments.proofs.Cubes.{dims_are, dims_within}
use Rattle.bind_arguments.proofs.Around.{found_dimension}
use Rattle.bind_arguments.proofs.Tables.{size_is}
use Rattle.bind_arguments.proofs.argument.axis_len.Goals as goal

pub returns : goal.returns
returns c =
    let valid = c.requires.valid in
    let are = dims_are c.args.space.now c.args.cube c.shape.result.now valid c.shape.ensures ∙ sym c.as_slice-dims.ensures in
    let all = subst (λ dims. All (λ dim. dim < length c.args.space.now.dimensions) dims) (sym c.as_slice-dims.ensures) (dims_within c.args.space.now c.args.cube c.shape.result.now valid c.shape.ensures) in
    let low : c.args.place < length c.as_slice-dims.result.now = subst (λ dims. c.args.place < length dims) are c.requires.place in
    c.len.ensures.len ∙ ap (λ d. length d.elements) (sym (found_dimension c.args.space.now (slice_index_or c.as_slice-dims.result.now c.args.place 0) c.dimension.result.now c.dimension.ensures))
    ∙ sym (size_is c.args.space.now c.args.cube c.as_slice-dims.result.now are all c.args.place low)
