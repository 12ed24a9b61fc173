use Rattle.std.proofs.Common.{◌<◌, ◌∙◌, Some, not, length, ap, sym, subst, arith}
use Rattle.bind_arguments.specs.Inside.Families.{IsFamilyOf}
use Rattle.bind_arguments.proofs.Around.{found_dimension}
use Rattle.bind_arguments.proofs.FamilyFacts.{put_there, one_there, one_made}
use Rattle.bind_arguments.proofs.families.make.Goals as goal

pub returns-in_ok-family-clause-there : goal.returns-in_ok-family-clause-there
returns-in_ok-family-clause-there c =
    let low : c.args.dim < length c.make_room.new.made.items = omega (arith, c.in_ok-make_room.ensures.long, c.requires.dim) in
    (c.in_ok-family.family, put_there c.make_room.new.made.items c.args.dim (Some c.in_ok-family.family) low)

pub returns-in_ok-family-clause-families : goal.returns-in_ok-family-clause-families
returns-in_ok-family-clause-families c =
    let low : c.args.dim < length c.make_room.new.made.items = omega (arith, c.in_ok-make_room.ensures.long, c.requires.dim) in
    let at = found_dimension c.args.space.now c.args.dim c.dimension.result.now c.dimension.ensures in
    one_made c.args.space.now c.make_room.new.made.items c.args.dim c.in_ok-family.family low c.make_room.ensures.families
    (subst (λ d. IsFamilyOf d c.in_ok-family.family) (sym at) c.in_ok-family.ensures)

pub returns-else-is_none-clause-there : goal.returns-else-is_none-clause-there
returns-else-is_none-clause-there c =
    let low : c.args.dim < length c.make_room.new.made.items = omega (arith, c.in_ok-make_room.ensures.long, c.requires.dim) in
    one_there c.make_room.new.made.items c.args.dim c.index.result.now low c.index.ensures (c.is_none.ensures ∙ ap not c.if-is_none.false)
