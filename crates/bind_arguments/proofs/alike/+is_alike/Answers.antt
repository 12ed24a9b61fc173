use Rattle.std.proofs.Common.{rules, w64}
use Rattle.std.proofs.lemmas.Int.{to_z-of_z}
use mir.Val.{SFits}
use Rattle.bind_arguments.proofs.AlikeFacts.{alike_place, alike_attribute, alike_relative}
use Rattle.bind_arguments.proofs.alike.+is_alike.Goals as goal

pub returns-in-Some : goal.returns-in-Some
returns-in-Some t c alike =
    let fits : SFits w64 c.in-AtPlace.shift = search rules in
    let word = to_z-of_z w64 c.in-AtPlace.shift fits in
    alike_place c.args.argument.now c.args.other.now c.in-AtPlace.dim c.in-AtPlace.source c.in-AtPlace.of c.in-Some.own.now c.get.result.now c.in-AtPlace.shift c.in-AtPlace.is (rw word at c.in-Some.ensures)
    c.get.ensures (c.is_alike.ensures alike)

pub returns-in-Some-attribute_of : goal.returns-in-Some-attribute_of
returns-in-Some-attribute_of t c alike =
    let (name, same, also) = c.in-Some-attribute_of.ensures in
    alike_attribute c.args.argument.now c.args.other.now c.in-AttributeOf.dim c.in-AttributeOf.of c.in-Some-attribute_of.own.now c.get-in-Some-attribute_of.result.now c.in-AttributeOf.attribute name c.in-AttributeOf.is also
    same c.get-in-Some-attribute_of.ensures (c.is_alike-in-Some-attribute_of.ensures alike)

pub returns-in-Some-relative_of : goal.returns-in-Some-relative_of
returns-in-Some-relative_of t c alike =
    alike_relative c.args.argument.now c.args.other.now c.in-RelativeOf.dim c.in-RelativeOf.of c.in-Some-relative_of.own.now c.get-in-Some-relative_of.result.now c.in-RelativeOf.relative c.in-RelativeOf.is c.in-Some-relative_of.ensures
    c.get-in-Some-relative_of.ensures (c.is_alike-in-Some-relative_of.ensures alike)
