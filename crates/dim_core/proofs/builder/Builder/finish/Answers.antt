use Rattle.std.proofs.Common.{Option, subst, None}
use Rattle.dim_core.specs.declared.fault.DimFault.{DimFault}
use Rattle.dim_core.specs.Refusal.{IsAnsweredBy}
use Rattle.dim_core.specs.Draft.{first_bad_attribute, first_loop}
use Rattle.dim_core.proofs.Answering.{unless_memory, causes_left}
use Rattle.dim_core.proofs.CallerLemmas.{first_unknown-earlier}
use Rattle.dim_core.proofs.InOrder.{first_loop-earlier}
use Rattle.dim_core.proofs.builder.Builder.finish.Goals as goal

pub returns-in-Some-clause-earlier : goal.returns-in-Some-clause-earlier
returns-in-Some-clause-earlier c earlier good =
    let none = first_unknown-earlier c.args.self earlier in
    absurd (cc)

pub returns-clause-earlier : goal.returns-clause-earlier
returns-clause-earlier c earlier good =
    let A : Option DimFault → Type 0 = λ cause. IsAnsweredBy cause c.resolved.result in
    unless_memory c.resolved.result (subst A (causes_left (first_bad_attribute c.args.self) (first_loop c.args.self) None good (first_loop-earlier c.args.self earlier)) c.resolved.ensures.answered)
