use Rattle.std.proofs.Common.{◌<◌, ℕ, length, slice_index_or, sym, ap, ◌∙◌, subst, arith, All, position, List, Bool}
use Rattle.bind_arguments.specs.Bound.{dimension_at}
use Rattle.dim_name.specs.Name.{is_same_name}
use Rattle.cube_space.specs.Layout.{Layout}
use Rattle.bind_arguments.proofs.Cubes.{dims_are, dims_within, dims_count, placed}
use Rattle.bind_arguments.proofs.PartsBound.{current_bound, current_unknown}
use Rattle.bind_arguments.proofs.Around.{within_current}
use Rattle.bind_arguments.proofs.binding.bind_current.Goals as goal

abbrev has_the_name : Layout → List ℕ → ℕ → Bool
has_the_name space name dim = is_same_name name (dimension_at space dim).name

pub place_among-requires-clause-dims : goal.place_among-requires-clause-dims
place_among-requires-clause-dims c =
    subst (λ dims. All (λ dim. dim < length c.args.space.now.dimensions) dims) (sym c.as_slice-dims.ensures) (dims_within c.args.space.now c.args.cube c.shape.result.now c.size-cells.ensures.valid c.shape.ensures)

pub place_among-requires-clause-few : goal.place_among-requires-clause-few
place_among-requires-clause-few c =
    let few = dims_count c.args.space.now c.args.cube c.shape.result.now c.size-cells.ensures.valid c.shape.ensures in
    let same = ap length c.as_slice-dims.ensures in
    omega (arith, few.1, same)

pub returns-in-Some-clause-answered : goal.returns-in-Some-clause-answered
returns-in-Some-clause-answered c =
    let are = dims_are c.args.space.now c.args.cube c.shape.result.now c.size-cells.ensures.valid c.shape.ensures ∙ sym c.as_slice-dims.ensures in
    current_bound c.args.space.now c.args.cube c.args.name.now c.in-Some.place _ (ap (position (has_the_name c.args.space.now c.args.name.now)) are ∙ sym c.in-Some.ensures.place) (ap (λ l. slice_index_or l c.in-Some.place 0) are)

pub returns-in-Some-clause-within : goal.returns-in-Some-clause-within
returns-in-Some-clause-within c =
    let valid = c.size-cells.ensures.valid in
    let are = dims_are c.args.space.now c.args.cube c.shape.result.now valid c.shape.ensures ∙ sym c.as_slice-dims.ensures in
    let all = subst (λ dims. All (λ dim. dim < length c.args.space.now.dimensions) dims) (sym c.as_slice-dims.ensures) (dims_within c.args.space.now c.args.cube c.shape.result.now valid c.shape.ensures) in
    within_current c.args.space.now c.args.cube c.in-Some.place _ ∙ placed c.args.space.now c.args.cube c.in-Some.place c.as_slice-dims.result.now are c.in-Some.ensures.within (all c.in-Some.place 0 c.in-Some.ensures.within)

pub returns-in-None-clause-answered : goal.returns-in-None-clause-answered
returns-in-None-clause-answered c =
    let are = dims_are c.args.space.now c.args.cube c.shape.result.now c.size-cells.ensures.valid c.shape.ensures ∙ sym c.as_slice-dims.ensures in
    current_unknown c.args.space.now c.args.cube c.args.name.now (ap (position (has_the_name c.args.space.now c.args.name.now)) are ∙ sym c.in-None.ensures.place)
