use Rattle.std.proofs.Common.{◌≡◌, ◌∙◌, sym, subst, Some, None}
use Rattle.check_order.specs.Verdict.{IsOrderFault}
use Rattle.check_order.proofs.LateFacts.{first-late-is}
use Rattle.check_order.proofs.HeightFacts.{none-low, low-none}
use Rattle.check_order.proofs.OrderedFacts.{none-ordered_by_place, place-none}
use Rattle.check_order.proofs.check.check_order.Goals as goal

pub returns-in-None-clause-ordered : goal.returns-in-None-clause-ordered
returns-in-None-clause-ordered c =
    none-ordered_by_place c.args.model.now c.first_late.ensures.valid c.first_late.ensures.rules (sym c.first_late.ensures.value ∙ c.in-None.is)

pub returns-in-None-clause-low : goal.returns-in-None-clause-low
returns-in-None-clause-low c = none-low c.args.model.now (sym c.too_high.ensures ∙ c.in_default.is)

pub returns-in-Some-clause-refused : goal.returns-in-Some-clause-refused
returns-in-Some-clause-refused c = λ ordered low.
    absurd (let wrong : Some c.in-Some.height ≡ None = sym c.in-Some.is ∙ c.too_high.ensures ∙ low-none c.args.model.now low in cc)

pub returns-in-Some-first_late-clause-refused : goal.returns-in-Some-first_late-clause-refused
returns-in-Some-first_late-clause-refused c = λ ordered low.
    absurd (let wrong : Some c.in-Some-first_late.fault ≡ None =
    sym c.in-Some-first_late.is ∙ c.first_late.ensures.value ∙ place-none c.args.model.now c.first_late.ensures.valid c.first_late.ensures.rules ordered in cc)

pub returns-in-Some-clause-fault : goal.returns-in-Some-clause-fault
returns-in-Some-clause-fault c = sym c.too_high.ensures ∙ c.in-Some.is

pub returns-in-Some-first_late-clause-fault : goal.returns-in-Some-first_late-clause-fault
returns-in-Some-first_late-clause-fault c =
    let m = c.args.model.now in
    let late = first-late-is m c.first_late.ensures.valid c.first_late.ensures.rules c.in-Some-first_late.fault (sym c.first_late.ensures.value ∙ c.in-Some-first_late.is) in
    subst (IsOrderFault m) (sym late.is) (sym c.too_high.ensures ∙ c.in_default.is, late.first)
