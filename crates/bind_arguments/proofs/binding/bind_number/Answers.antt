use Rattle.std.proofs.Common.{rules, ◌<◌, length, sym, ◌∙◌, subst, IfSome, w64}
use Rattle.std.proofs.lemmas.Int.{to_z-of_z}
use mir.Val.{SFits}
use Rattle.bind_arguments.proofs.PartsBound.{number_bound, number_unknown, number_dynamic}
use Rattle.bind_arguments.proofs.Around.{within_index, there}
use Rattle.bind_arguments.proofs.binding.bind_number.Goals as goal

pub returns-in-Some-2-clause-answered : goal.returns-in-Some-2-clause-answered
returns-in-Some-2-clause-answered c =
    let fits : SFits w64 c.in-Some.index = search rules in
    rw (to_z-of_z w64 c.in-Some.index fits) (number_bound c.args.space.now c.args.cube c.args.dim.now c.args.number c.in-Some.index c.in-Some-2.dim (sym c.in-Some.ensures.value) (sym c.in_ok-dim-in-Some.ensures.named ∙ c.in-Some-2.is))

pub returns-in-Some-2-clause-within : goal.returns-in-Some-2-clause-within
returns-in-Some-2-clause-within c =
    let low : c.in-Some-2.dim < length c.args.space.now.dimensions = subst (λ o. IfSome o (λ dim. dim < length c.args.space.now.dimensions)) c.in-Some-2.is c.in_ok-dim-in-Some.ensures.within in
    within_index c.args.space.now c.args.cube c.in-Some-2.dim _ ∙ there c.args.space.now c.in-Some-2.dim low

pub returns-in-None-2-clause-answered : goal.returns-in-None-2-clause-answered
returns-in-None-2-clause-answered c =
    number_unknown c.args.space.now c.args.cube c.args.dim.now c.args.number c.in-Some.index (sym c.in-Some.ensures.value) (sym c.in_ok-dim-in-Some.ensures.named ∙ c.in-None-2.is)

pub returns-in-None-clause-answered : goal.returns-in-None-clause-answered
returns-in-None-clause-answered c = number_dynamic c.args.space.now c.args.cube c.args.dim.now c.args.number (sym c.in-None.ensures.value)
