use Rattle.std.proofs.Common.{rules, w64, to_z, of_z, ◌≡◌, ◌∙◌, ap, subst, IfOk}
use Rattle.std.proofs.lemmas.Int.{to_z-of_z}
use Rattle.std.proofs.lemmas.Option.{slice_get-get_or}
use Rattle.rule_laws.specs.Maps.{identity}
use Rattle.bind_arguments.specs.Argument.{table_over}
use Rattle.bind_arguments.specs.Bound.{dimension_at}
use Rattle.bind_arguments.specs.Inside.Moves.{moved_by}
use Rattle.bind_arguments.proofs.Moves.{moved_table}
use Rattle.bind_arguments.proofs.Tables.{followed_low, own_table, cube_dims}
use Rattle.bind_arguments.proofs.argument.elements_from.Goals as goal

pub axis_len-len-requires-clause-place : goal.axis_len-len-requires-clause-place
axis_len-len-requires-clause-place c = followed_low c.args.space.now c.args.cube c.args.argument c.args.place c.requires.followed c.requires.within

pub returns-then-is_own-clause-to : goal.returns-then-is_own-clause-to
returns-then-is_own-clause-to c =
    let (own, is) = c.is_own.ensures c.if-is_own.true in
    let known = cube_dims c.args.space.now c.args.cube c.requires.valid c.requires.cube in
    c.identity.ensures ∙ ap identity c.axis_len-len.ensures
    ∙ own_table c.args.space.now c.args.cube c.args.dim c.args.argument own c.args.place known.dims _ known.are known.all
    (slice_get-get_or c.args.space.now.dimensions c.args.dim (dimension_at c.args.space.now c.args.dim) c.requires.dim)
    (c.requires.valid.dimensions c.args.dim (dimension_at c.args.space.now c.args.dim) c.requires.dim) c.requires.within is c.requires.followed

pub returns-in-Some-clause-to : goal.returns-in-Some-clause-to
returns-in-Some-clause-to c =
    let known = cube_dims c.args.space.now c.args.cube c.requires.valid c.requires.cube in
    let shift : to_z w64 (of_z w64 c.in-Some.shift) ≡ c.in-Some.shift = to_z-of_z w64 c.in-Some.shift (search rules) in
    c.moved_by.ensures ∙ ap (moved_by c.axis_len-len.result) shift ∙ ap (λ n. moved_by n c.in-Some.shift) c.axis_len-len.ensures
    ∙ moved_table c.args.space.now c.args.cube c.args.dim c.args.argument c.args.place c.in-Some.shift known.dims _ known.are known.all
    (slice_get-get_or c.args.space.now.dimensions c.args.dim (dimension_at c.args.space.now c.args.dim) c.requires.dim)
    (c.requires.valid.dimensions c.args.dim (dimension_at c.args.space.now c.args.dim) c.requires.dim) c.requires.within c.in-Some.ensures c.requires.followed

pub returns-in-None-clause-to : goal.returns-in-None-clause-to
returns-in-None-clause-to c =
    subst (λ n. IfOk c.map_of.result (λ to. to ≡ table_over c.args.space.now c.args.dim c.args.argument n)) c.axis_len-len.ensures c.map_of.ensures.map
