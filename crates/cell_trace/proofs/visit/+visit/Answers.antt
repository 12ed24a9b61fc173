use Rattle.std.proofs.Common.{◌≡◌, sym, ◌∙◌, subst, refl, OnOk}
use Rattle.rule_laws.specs.declared.formula.Formula.TheVariants.{If}
use Rattle.rule_laws.specs.declared.formula.Truth.TheVariants.{And, Or}
use Rattle.cell_trace.specs.Inside.Place.{given_at}
use Rattle.cell_trace.specs.Visits.{Given}
use Rattle.cell_trace.proofs.VisitParts.{and_false, behind_three, behind_two, if_false, if_true, or_false, or_true}
use Rattle.cell_trace.proofs.visit.+visit.Goals as goal

pub visit-returns-in_ok-pass_formula-in-If-clause-items : goal.visit-returns-in_ok-pass_formula-in-If-clause-items
visit-returns-in_ok-pass_formula-in-If-clause-items t c =
    let g : Given = given_at c.args.here.now c.args.rest.now in
    let is : c.args.formula.now ≡ If c.get-in-If.result.now c.get-then-branch.result.now c.get-then-branch-2.result.now =
    cc (c.in-If.is, c.get-in-If.ensures, c.get-then-branch.ensures, c.get-then-branch-2.ensures) in
    let holds = sym c.in_ok-holds-in-If.ensures.holds ∙ c.if-branch.true in
    behind_three c.args.items.now.items _ _ _ _ _ _ _ c.in_ok-holds-in-If.ensures.items c.in_ok-value-in-If.ensures.items
    (c.in_ok-pass_formula-in-If.ensures g) (if_true g c.args.formula.now _ _ _ is holds)

pub visit-returns-in_ok-pass_formula-in-If-2-clause-items : goal.visit-returns-in_ok-pass_formula-in-If-2-clause-items
visit-returns-in_ok-pass_formula-in-If-2-clause-items t c =
    let g : Given = given_at c.args.here.now c.args.rest.now in
    let is : c.args.formula.now ≡ If c.get-in-If.result.now c.get-else-branch.result.now c.get-else-branch-2.result.now =
    cc (c.in-If.is, c.get-in-If.ensures, c.get-else-branch.ensures, c.get-else-branch-2.ensures) in
    let holds = sym c.in_ok-holds-in-If.ensures.holds ∙ c.if-branch.false in
    subst (λ xs. OnOk c.visit-else-branch.result (c.visit-else-branch.new.items.items ≡ xs))
    (behind_three c.args.items.now.items _ _ _ _ _ _ _ c.in_ok-holds-in-If.ensures.items (c.in_ok-pass_formula-in-If-2.ensures g)
    refl (if_false g c.args.formula.now _ _ _ is holds))
    c.visit-else-branch.ensures.items

pub holds-returns-in_ok-pass_truth-in-And-clause-items : goal.holds-returns-in_ok-pass_truth-in-And-clause-items
holds-returns-in_ok-pass_truth-in-And-clause-items t c =
    let g : Given = given_at c.args.here.now c.args.rest.now in
    let is : c.args.truth.now ≡ And c.get.result.now c.get-else-branch.result.now = cc (c.in-And.is, c.get.ensures, c.get-else-branch.ensures) in
    let holds = sym c.in_ok-holds-in-And.ensures.holds ∙ c.if-branch.false in
    behind_two c.args.items.now.items _ _ _ _ _ c.in_ok-holds-in-And.ensures.items (c.in_ok-pass_truth-in-And.ensures g)
    (and_false g c.args.truth.now _ _ is holds)

pub holds-returns-in_ok-pass_truth-in-Or-clause-items : goal.holds-returns-in_ok-pass_truth-in-Or-clause-items
holds-returns-in_ok-pass_truth-in-Or-clause-items t c =
    let g : Given = given_at c.args.here.now c.args.rest.now in
    let is : c.args.truth.now ≡ Or c.get-in-Or.result.now c.get-then-branch-2.result.now = cc (c.in-Or.is, c.get-in-Or.ensures, c.get-then-branch-2.ensures) in
    let holds = sym c.in_ok-holds-in-Or.ensures.holds ∙ c.if-branch-2.true in
    behind_two c.args.items.now.items _ _ _ _ _ c.in_ok-holds-in-Or.ensures.items (c.in_ok-pass_truth-in-Or.ensures g)
    (or_true g c.args.truth.now _ _ is holds)

pub holds-returns-else-branch-2-clause-items : goal.holds-returns-else-branch-2-clause-items
holds-returns-else-branch-2-clause-items t c =
    let g : Given = given_at c.args.here.now c.args.rest.now in
    let is : c.args.truth.now ≡ Or c.get-in-Or.result.now c.get-else-branch-2.result.now = cc (c.in-Or.is, c.get-in-Or.ensures, c.get-else-branch-2.ensures) in
    let holds = sym c.in_ok-holds-in-Or.ensures.holds ∙ c.if-branch-2.false in
    subst (λ xs. OnOk c.holds-else-branch-2.result (c.holds-else-branch-2.new.items.items ≡ xs))
    (behind_two c.args.items.now.items _ _ _ _ _ c.in_ok-holds-in-Or.ensures.items refl (or_false g c.args.truth.now _ _ is holds))
    c.holds-else-branch-2.ensures.items
