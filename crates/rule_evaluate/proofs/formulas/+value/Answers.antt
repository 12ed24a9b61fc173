use Rattle.std.proofs.Common.{rules, ◌≡◌, ◌+◌, true, false, sym, ap, ◌∙◌, subst}
use Rattle.rule_evaluate.specs.Inside.Scene.{sources_at, course_at, trial_at}
use Rattle.rule_evaluate.proofs.FormulaWeights.{weight, truth_weight, weight_binary, weight_unary, weight_if, weight_compare, weight_and, weight_or, weight_not}
use Rattle.rule_evaluate.proofs.Parts.{binary_passes, unary_passes, compare_passes, not_passes, and_passes, or_passes, if_passes, binary_value, compare_holds, and_true, or_false, if_true, if_false, ok_by, ok_is}
use Rattle.rule_evaluate.proofs.formulas.+value.Goals as goal

pub holds-value_of-left-requires : goal.holds-value_of-left-requires
holds-value_of-left-requires g t c =
    let u = g.R.Refs.terms c.args.refs.now c.args.memory.now in
    let s = sources_at c.args.here.now (g.R.Refs.readings u) in
    let may = g.R.Refs.may_ask u in
    let p = (compare_passes s c.args.rest.now may c.args.truth.now c.in-Compare.rel c.in-Compare.left c.in-Compare.right c.in-Compare.is c.requires).0 in
    let parts : truth_weight c.args.truth.now ≡ 1 + (weight c.in-Compare.left + weight c.in-Compare.right) = weight_compare c.args.truth.now c.in-Compare.rel c.in-Compare.left c.in-Compare.right c.in-Compare.is in
    search rules

pub holds-value_of-right-requires : goal.holds-value_of-right-requires
holds-value_of-right-requires g t c =
    let u = g.R.Refs.terms c.args.refs.now c.args.memory.now in
    let s = sources_at c.args.here.now (g.R.Refs.readings u) in
    let may = g.R.Refs.may_ask u in
    let p = (compare_passes s c.args.rest.now may c.args.truth.now c.in-Compare.rel c.in-Compare.left c.in-Compare.right c.in-Compare.is c.requires).1 in
    let q = subst (λ v. (course_at c.args.here.now (g.R.Refs.readings v) c.args.rest.now c.in-Compare.right).passes (g.R.Refs.may_ask v) ≡ true) (sym c.value_of-left.ensures.terms) p in
    let parts : truth_weight c.args.truth.now ≡ 1 + (weight c.in-Compare.left + weight c.in-Compare.right) = weight_compare c.args.truth.now c.in-Compare.rel c.in-Compare.left c.in-Compare.right c.in-Compare.is in
    search rules

pub holds-holds-requires-in-And : goal.holds-holds-requires-in-And
holds-holds-requires-in-And g t c =
    let u = g.R.Refs.terms c.args.refs.now c.args.memory.now in
    let s = sources_at c.args.here.now (g.R.Refs.readings u) in
    let may = g.R.Refs.may_ask u in
    let p = (and_passes s c.args.rest.now may c.args.truth.now c.in-And.left c.in-And.right c.in-And.is c.requires).0 in
    let q = subst (λ x. (trial_at c.args.here.now (g.R.Refs.readings u) c.args.rest.now x).passes may ≡ true) (sym c.get.ensures) p in
    let parts : truth_weight c.args.truth.now ≡ 1 + (truth_weight c.get.result.now + truth_weight c.in-And.right) = weight_and c.args.truth.now c.in-And.left c.in-And.right c.in-And.is ∙ ap (λ x. 1 + (truth_weight x + truth_weight c.in-And.right)) (sym c.get.ensures) in
    search rules

pub holds-holds-requires-then-branch : goal.holds-holds-requires-then-branch
holds-holds-requires-then-branch g t c =
    let u = g.R.Refs.terms c.args.refs.now c.args.memory.now in
    let s = sources_at c.args.here.now (g.R.Refs.readings u) in
    let may = g.R.Refs.may_ask u in
    let on : (trial_at c.args.here.now (g.R.Refs.readings u) c.args.rest.now c.in-And.left).holds ≡ true = sym (c.in_ok-holds-in-And.ensures.value ∙ ap (λ x. (trial_at c.args.here.now (g.R.Refs.readings u) c.args.rest.now x).holds) c.get.ensures) ∙ c.if-branch.true in
    let p = (and_passes s c.args.rest.now may c.args.truth.now c.in-And.left c.in-And.right c.in-And.is c.requires).1 on in
    let q = subst (λ x. (trial_at c.args.here.now (g.R.Refs.readings u) c.args.rest.now x).passes may ≡ true) (sym c.get-then-branch.ensures) p in
    let r = subst (λ v. (trial_at c.args.here.now (g.R.Refs.readings v) c.args.rest.now c.get-then-branch.result.now).passes (g.R.Refs.may_ask v) ≡ true) (sym c.holds-in-And.ensures.terms) q in
    let parts : truth_weight c.args.truth.now ≡ 1 + (truth_weight c.in-And.left + truth_weight c.get-then-branch.result.now) = weight_and c.args.truth.now c.in-And.left c.in-And.right c.in-And.is ∙ ap (λ x. 1 + (truth_weight c.in-And.left + truth_weight x)) (sym c.get-then-branch.ensures) in
    search rules

pub holds-holds-requires-in-Or : goal.holds-holds-requires-in-Or
holds-holds-requires-in-Or g t c =
    let u = g.R.Refs.terms c.args.refs.now c.args.memory.now in
    let s = sources_at c.args.here.now (g.R.Refs.readings u) in
    let may = g.R.Refs.may_ask u in
    let p = (or_passes s c.args.rest.now may c.args.truth.now c.in-Or.left c.in-Or.right c.in-Or.is c.requires).0 in
    let q = subst (λ x. (trial_at c.args.here.now (g.R.Refs.readings u) c.args.rest.now x).passes may ≡ true) (sym c.get-in-Or.ensures) p in
    let parts : truth_weight c.args.truth.now ≡ 1 + (truth_weight c.get-in-Or.result.now + truth_weight c.in-Or.right) = weight_or c.args.truth.now c.in-Or.left c.in-Or.right c.in-Or.is ∙ ap (λ x. 1 + (truth_weight x + truth_weight c.in-Or.right)) (sym c.get-in-Or.ensures) in
    search rules

pub holds-holds-requires-else-branch-2 : goal.holds-holds-requires-else-branch-2
holds-holds-requires-else-branch-2 g t c =
    let u = g.R.Refs.terms c.args.refs.now c.args.memory.now in
    let s = sources_at c.args.here.now (g.R.Refs.readings u) in
    let may = g.R.Refs.may_ask u in
    let off : (trial_at c.args.here.now (g.R.Refs.readings u) c.args.rest.now c.in-Or.left).holds ≡ false = sym (c.in_ok-holds-in-Or.ensures.value ∙ ap (λ x. (trial_at c.args.here.now (g.R.Refs.readings u) c.args.rest.now x).holds) c.get-in-Or.ensures) ∙ c.if-branch-2.false in
    let p = (or_passes s c.args.rest.now may c.args.truth.now c.in-Or.left c.in-Or.right c.in-Or.is c.requires).1 off in
    let q = subst (λ x. (trial_at c.args.here.now (g.R.Refs.readings u) c.args.rest.now x).passes may ≡ true) (sym c.get-else-branch-2.ensures) p in
    let r = subst (λ v. (trial_at c.args.here.now (g.R.Refs.readings v) c.args.rest.now c.get-else-branch-2.result.now).passes (g.R.Refs.may_ask v) ≡ true) (sym c.holds-in-Or.ensures.terms) q in
    let parts : truth_weight c.args.truth.now ≡ 1 + (truth_weight c.in-Or.left + truth_weight c.get-else-branch-2.result.now) = weight_or c.args.truth.now c.in-Or.left c.in-Or.right c.in-Or.is ∙ ap (λ x. 1 + (truth_weight c.in-Or.left + truth_weight x)) (sym c.get-else-branch-2.ensures) in
    search rules

pub holds-holds-requires-in-Not : goal.holds-holds-requires-in-Not
holds-holds-requires-in-Not g t c =
    let u = g.R.Refs.terms c.args.refs.now c.args.memory.now in
    let s = sources_at c.args.here.now (g.R.Refs.readings u) in
    let may = g.R.Refs.may_ask u in
    let p = not_passes s c.args.rest.now may c.args.truth.now c.in-Not.inner c.in-Not.is c.requires in
    let q = subst (λ x. (trial_at c.args.here.now (g.R.Refs.readings u) c.args.rest.now x).passes may ≡ true) (sym c.get-in-Not.ensures) p in
    let parts : truth_weight c.args.truth.now ≡ 1 + truth_weight c.get-in-Not.result.now = weight_not c.args.truth.now c.in-Not.inner c.in-Not.is ∙ ap (λ x. 1 + truth_weight x) (sym c.get-in-Not.ensures) in
    search rules

pub holds-returns-in_ok-left-in-Compare-clause-value : goal.holds-returns-in_ok-left-in-Compare-clause-value
holds-returns-in_ok-left-in-Compare-clause-value g t c =
    let u = g.R.Refs.terms c.args.refs.now c.args.memory.now in
    let s = sources_at c.args.here.now (g.R.Refs.readings u) in
    let may = g.R.Refs.may_ask u in
    let pair = c.in_ok-left-in-Compare.ensures.values in
    let left = ok_is c.value_of-left.result _ _ pair.0 c.value_of-left.ensures.value in
    let right = ok_is c.value_of-right.result _ _ pair.1 c.value_of-right.ensures.value
    ∙ ap (λ v. (course_at c.args.here.now (g.R.Refs.readings v) c.args.rest.now c.in-Compare.right).value) c.value_of-left.ensures.terms in
    c.holds.ensures ∙ compare_holds s c.args.rest.now c.args.truth.now c.in-Compare.rel c.in-Compare.left c.in-Compare.right c.in_ok-left-in-Compare.left c.in_ok-left-in-Compare.right c.in-Compare.is left right

pub holds-returns-then-branch-clause-value : goal.holds-returns-then-branch-clause-value
holds-returns-then-branch-clause-value g t c =
    let u = g.R.Refs.terms c.args.refs.now c.args.memory.now in
    let s = sources_at c.args.here.now (g.R.Refs.readings u) in
    let may = g.R.Refs.may_ask u in
    let on : (trial_at c.args.here.now (g.R.Refs.readings u) c.args.rest.now c.in-And.left).holds ≡ true = sym (c.in_ok-holds-in-And.ensures.value ∙ ap (λ x. (trial_at c.args.here.now (g.R.Refs.readings u) c.args.rest.now x).holds) c.get.ensures) ∙ c.if-branch.true in
    let same = ap (λ v. (trial_at c.args.here.now (g.R.Refs.readings v) c.args.rest.now c.get-then-branch.result.now).holds) c.holds-in-And.ensures.terms ∙ ap (λ x. (trial_at c.args.here.now (g.R.Refs.readings u) c.args.rest.now x).holds) c.get-then-branch.ensures ∙ and_true s c.args.rest.now c.args.truth.now c.in-And.left c.in-And.right c.in-And.is on in
    ok_by c.holds-then-branch.result _ _ same c.holds-then-branch.ensures.value

pub holds-returns-else-branch-2-clause-value : goal.holds-returns-else-branch-2-clause-value
holds-returns-else-branch-2-clause-value g t c =
    let u = g.R.Refs.terms c.args.refs.now c.args.memory.now in
    let s = sources_at c.args.here.now (g.R.Refs.readings u) in
    let may = g.R.Refs.may_ask u in
    let off : (trial_at c.args.here.now (g.R.Refs.readings u) c.args.rest.now c.in-Or.left).holds ≡ false = sym (c.in_ok-holds-in-Or.ensures.value ∙ ap (λ x. (trial_at c.args.here.now (g.R.Refs.readings u) c.args.rest.now x).holds) c.get-in-Or.ensures) ∙ c.if-branch-2.false in
    let same = ap (λ v. (trial_at c.args.here.now (g.R.Refs.readings v) c.args.rest.now c.get-else-branch-2.result.now).holds) c.holds-in-Or.ensures.terms ∙ ap (λ x. (trial_at c.args.here.now (g.R.Refs.readings u) c.args.rest.now x).holds) c.get-else-branch-2.ensures ∙ or_false s c.args.rest.now c.args.truth.now c.in-Or.left c.in-Or.right c.in-Or.is off in
    ok_by c.holds-else-branch-2.result _ _ same c.holds-else-branch-2.ensures.value

pub value_of-value_of-left-requires : goal.value_of-value_of-left-requires
value_of-value_of-left-requires g t c =
    let u = g.R.Refs.terms c.args.refs.now c.args.memory.now in
    let s = sources_at c.args.here.now (g.R.Refs.readings u) in
    let may = g.R.Refs.may_ask u in
    let p = (binary_passes s c.args.rest.now may c.args.formula.now c.in-Binary.op c.in-Binary.left c.in-Binary.right c.in-Binary.is c.requires).0 in
    let q = subst (λ x. (course_at c.args.here.now (g.R.Refs.readings u) c.args.rest.now x).passes may ≡ true) (sym c.get.ensures) p in
    let parts : weight c.args.formula.now ≡ 1 + (weight c.get.result.now + weight c.in-Binary.right) = weight_binary c.args.formula.now c.in-Binary.op c.in-Binary.left c.in-Binary.right c.in-Binary.is ∙ ap (λ x. 1 + (weight x + weight c.in-Binary.right)) (sym c.get.ensures) in
    search rules

pub value_of-value_of-right-requires : goal.value_of-value_of-right-requires
value_of-value_of-right-requires g t c =
    let u = g.R.Refs.terms c.args.refs.now c.args.memory.now in
    let s = sources_at c.args.here.now (g.R.Refs.readings u) in
    let may = g.R.Refs.may_ask u in
    let p = (binary_passes s c.args.rest.now may c.args.formula.now c.in-Binary.op c.in-Binary.left c.in-Binary.right c.in-Binary.is c.requires).1 in
    let q = subst (λ x. (course_at c.args.here.now (g.R.Refs.readings u) c.args.rest.now x).passes may ≡ true) (sym c.get-in-Binary.ensures) p in
    let r = subst (λ v. (course_at c.args.here.now (g.R.Refs.readings v) c.args.rest.now c.get-in-Binary.result.now).passes (g.R.Refs.may_ask v) ≡ true) (sym c.value_of-left.ensures.terms) q in
    let parts : weight c.args.formula.now ≡ 1 + (weight c.in-Binary.left + weight c.get-in-Binary.result.now) = weight_binary c.args.formula.now c.in-Binary.op c.in-Binary.left c.in-Binary.right c.in-Binary.is ∙ ap (λ x. 1 + (weight c.in-Binary.left + weight x)) (sym c.get-in-Binary.ensures) in
    search rules

pub value_of-value_of-requires : goal.value_of-value_of-requires
value_of-value_of-requires g t c =
    let u = g.R.Refs.terms c.args.refs.now c.args.memory.now in
    let s = sources_at c.args.here.now (g.R.Refs.readings u) in
    let may = g.R.Refs.may_ask u in
    let p = unary_passes s c.args.rest.now may c.args.formula.now c.in-Unary.fun c.in-Unary.inner c.in-Unary.is c.requires in
    let q = subst (λ x. (course_at c.args.here.now (g.R.Refs.readings u) c.args.rest.now x).passes may ≡ true) (sym c.get-in-Unary.ensures) p in
    let parts : weight c.args.formula.now ≡ 1 + weight c.get-in-Unary.result.now = weight_unary c.args.formula.now c.in-Unary.fun c.in-Unary.inner c.in-Unary.is ∙ ap (λ x. 1 + weight x) (sym c.get-in-Unary.ensures) in
    search rules

pub value_of-holds-requires : goal.value_of-holds-requires
value_of-holds-requires g t c =
    let u = g.R.Refs.terms c.args.refs.now c.args.memory.now in
    let s = sources_at c.args.here.now (g.R.Refs.readings u) in
    let may = g.R.Refs.may_ask u in
    let p = (if_passes s c.args.rest.now may c.args.formula.now c.in-If.truth c.in-If.left c.in-If.right c.in-If.is c.requires).0 in
    let q = subst (λ x. (trial_at c.args.here.now (g.R.Refs.readings u) c.args.rest.now x).passes may ≡ true) (sym c.get-in-If.ensures) p in
    let parts : weight c.args.formula.now ≡ 1 + (truth_weight c.get-in-If.result.now + (weight c.in-If.left + weight c.in-If.right)) = weight_if c.args.formula.now c.in-If.truth c.in-If.left c.in-If.right c.in-If.is ∙ ap (λ x. 1 + (truth_weight x + (weight c.in-If.left + weight c.in-If.right))) (sym c.get-in-If.ensures) in
    search rules

pub value_of-value_of-requires-then-branch : goal.value_of-value_of-requires-then-branch
value_of-value_of-requires-then-branch g t c =
    let u = g.R.Refs.terms c.args.refs.now c.args.memory.now in
    let s = sources_at c.args.here.now (g.R.Refs.readings u) in
    let may = g.R.Refs.may_ask u in
    let told : (trial_at c.args.here.now (g.R.Refs.readings u) c.args.rest.now c.in-If.truth).holds ≡ true = sym (c.in_ok-holds-in-If.ensures.value ∙ ap (λ x. (trial_at c.args.here.now (g.R.Refs.readings u) c.args.rest.now x).holds) c.get-in-If.ensures) ∙ c.if-branch.true in
    let p = (if_passes s c.args.rest.now may c.args.formula.now c.in-If.truth c.in-If.left c.in-If.right c.in-If.is c.requires).1.0 told in
    let q = subst (λ x. (course_at c.args.here.now (g.R.Refs.readings u) c.args.rest.now x).passes may ≡ true) (sym c.get-then-branch.ensures) p in
    let r = subst (λ v. (course_at c.args.here.now (g.R.Refs.readings v) c.args.rest.now c.get-then-branch.result.now).passes (g.R.Refs.may_ask v) ≡ true) (sym c.holds.ensures.terms) q in
    let parts : weight c.args.formula.now ≡ 1 + (truth_weight c.in-If.truth + (weight c.get-then-branch.result.now + weight c.in-If.right)) = weight_if c.args.formula.now c.in-If.truth c.in-If.left c.in-If.right c.in-If.is ∙ ap (λ x. 1 + (truth_weight c.in-If.truth + (weight x + weight c.in-If.right))) (sym c.get-then-branch.ensures) in
    search rules

pub value_of-value_of-requires-else-branch : goal.value_of-value_of-requires-else-branch
value_of-value_of-requires-else-branch g t c =
    let u = g.R.Refs.terms c.args.refs.now c.args.memory.now in
    let s = sources_at c.args.here.now (g.R.Refs.readings u) in
    let may = g.R.Refs.may_ask u in
    let told : (trial_at c.args.here.now (g.R.Refs.readings u) c.args.rest.now c.in-If.truth).holds ≡ false = sym (c.in_ok-holds-in-If.ensures.value ∙ ap (λ x. (trial_at c.args.here.now (g.R.Refs.readings u) c.args.rest.now x).holds) c.get-in-If.ensures) ∙ c.if-branch.false in
    let p = (if_passes s c.args.rest.now may c.args.formula.now c.in-If.truth c.in-If.left c.in-If.right c.in-If.is c.requires).1.1 told in
    let q = subst (λ x. (course_at c.args.here.now (g.R.Refs.readings u) c.args.rest.now x).passes may ≡ true) (sym c.get-else-branch.ensures) p in
    let r = subst (λ v. (course_at c.args.here.now (g.R.Refs.readings v) c.args.rest.now c.get-else-branch.result.now).passes (g.R.Refs.may_ask v) ≡ true) (sym c.holds.ensures.terms) q in
    let parts : weight c.args.formula.now ≡ 1 + (truth_weight c.in-If.truth + (weight c.in-If.left + weight c.get-else-branch.result.now)) = weight_if c.args.formula.now c.in-If.truth c.in-If.left c.in-If.right c.in-If.is ∙ ap (λ x. 1 + (truth_weight c.in-If.truth + (weight c.in-If.left + weight x))) (sym c.get-else-branch.ensures) in
    search rules

pub value_of-returns-in_ok-left-in-Binary-clause-value : goal.value_of-returns-in_ok-left-in-Binary-clause-value
value_of-returns-in_ok-left-in-Binary-clause-value g t c =
    let u = g.R.Refs.terms c.args.refs.now c.args.memory.now in
    let s = sources_at c.args.here.now (g.R.Refs.readings u) in
    let may = g.R.Refs.may_ask u in
    let pair = c.in_ok-left-in-Binary.ensures.values in
    let left = ok_is c.value_of-left.result _ _ pair.0 c.value_of-left.ensures.value ∙ ap (λ x. (course_at c.args.here.now (g.R.Refs.readings u) c.args.rest.now x).value) c.get.ensures in
    let right = ok_is c.value_of-right.result _ _ pair.1 c.value_of-right.ensures.value
    ∙ ap (λ v. (course_at c.args.here.now (g.R.Refs.readings v) c.args.rest.now c.get-in-Binary.result.now).value) c.value_of-left.ensures.terms
    ∙ ap (λ x. (course_at c.args.here.now (g.R.Refs.readings u) c.args.rest.now x).value) c.get-in-Binary.ensures in
    c.apply.ensures ∙ binary_value s c.args.rest.now c.args.formula.now c.in-Binary.op c.in-Binary.left c.in-Binary.right c.in_ok-left-in-Binary.left c.in_ok-left-in-Binary.right c.in-Binary.is left right

pub value_of-returns-then-branch-clause-value : goal.value_of-returns-then-branch-clause-value
value_of-returns-then-branch-clause-value g t c =
    let u = g.R.Refs.terms c.args.refs.now c.args.memory.now in
    let s = sources_at c.args.here.now (g.R.Refs.readings u) in
    let may = g.R.Refs.may_ask u in
    let told : (trial_at c.args.here.now (g.R.Refs.readings u) c.args.rest.now c.in-If.truth).holds ≡ true = sym (c.in_ok-holds-in-If.ensures.value ∙ ap (λ x. (trial_at c.args.here.now (g.R.Refs.readings u) c.args.rest.now x).holds) c.get-in-If.ensures) ∙ c.if-branch.true in
    let same = ap (λ v. (course_at c.args.here.now (g.R.Refs.readings v) c.args.rest.now c.get-then-branch.result.now).value) c.holds.ensures.terms ∙ ap (λ x. (course_at c.args.here.now (g.R.Refs.readings u) c.args.rest.now x).value) c.get-then-branch.ensures ∙ if_true s c.args.rest.now c.args.formula.now c.in-If.truth c.in-If.left c.in-If.right c.in-If.is told in
    ok_by c.value_of-then-branch.result _ _ same c.value_of-then-branch.ensures.value

pub value_of-returns-else-branch-clause-value : goal.value_of-returns-else-branch-clause-value
value_of-returns-else-branch-clause-value g t c =
    let u = g.R.Refs.terms c.args.refs.now c.args.memory.now in
    let s = sources_at c.args.here.now (g.R.Refs.readings u) in
    let may = g.R.Refs.may_ask u in
    let told : (trial_at c.args.here.now (g.R.Refs.readings u) c.args.rest.now c.in-If.truth).holds ≡ false = sym (c.in_ok-holds-in-If.ensures.value ∙ ap (λ x. (trial_at c.args.here.now (g.R.Refs.readings u) c.args.rest.now x).holds) c.get-in-If.ensures) ∙ c.if-branch.false in
    let same = ap (λ v. (course_at c.args.here.now (g.R.Refs.readings v) c.args.rest.now c.get-else-branch.result.now).value) c.holds.ensures.terms ∙ ap (λ x. (course_at c.args.here.now (g.R.Refs.readings u) c.args.rest.now x).value) c.get-else-branch.ensures ∙ if_false s c.args.rest.now c.args.formula.now c.in-If.truth c.in-If.left c.in-If.right c.in-If.is told in
    ok_by c.value_of-else-branch.result _ _ same c.value_of-else-branch.ensures.value
