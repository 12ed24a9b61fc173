use Rattle.std.proofs.Common.{rules, arith, ◌≡◌, inr, true, false, ◌+◌, ◌≤◌, ◌<◌, sym, ap, ◌∙◌, subst, None, IfOk}
use Rattle.std.specs.Prelude.{if◌then◌else◌}
use Rattle.cube_fixed.specs.Arithmetic.{zero_value}
use Rattle.rule_laws.specs.declared.formula.Formula.TheVariants.{If}
use Rattle.rule_model.specs.Input.{has_continue}
use Rattle.rule_evaluate.specs.Inside.Scene.{sources_at, course_from, value_from, entered_from, entered_after, IsReady, IsEnd}
use Rattle.rule_evaluate.proofs.FormulaWeights.{weight, weight_if}
use Rattle.rule_evaluate.proofs.SceneFacts.{cost_from, cost-some, value-none, value-some, entered-none, entered-some, passes-none, passes-some}
use Rattle.rule_evaluate.proofs.EndFacts.{entered_none, ok_any, plain_same, whole_if, whole_plain, then_stands, else_stands, test_passes, ready_by, end_by, entered_same}
use Rattle.rule_evaluate.proofs.Parts.{ok_by}
use Rattle.rule_evaluate.proofs.statements.+statements.Goals as goal

pub whole-value_of-requires : goal.whole-value_of-requires
whole-value_of-requires g t' c =
    let s = c.args.here.now in
    let u = g.R.Refs.terms c.args.refs.now c.args.memory.now in
    let t = g.R.Refs.readings u in
    let may = g.R.Refs.may_ask u in
    let off : has_continue c.args.formula.now ≡ false = sym c.continues.ensures ∙ c.if-not-continues.true in
    subst (λ x. x.passes may ≡ true) (plain_same s t (value_from s t c.args.next) _ c.args.formula.now off) c.requires.ready.passes

pub whole-returns-then-not-continues-clause-end : goal.whole-returns-then-not-continues-clause-end
whole-returns-then-not-continues-clause-end g t' c =
    let s = c.args.here.now in
    let t = g.R.Refs.readings (g.R.Refs.terms c.args.refs.now c.args.memory.now) in
    let off : has_continue c.args.formula.now ≡ false = sym c.continues.ensures ∙ c.if-not-continues.true in
    let none : entered_after s t c.args.next c.args.formula.now ≡ 0 = entered_none (course_from s t c.args.next c.args.formula.now) (entered_from s t c.args.next) (c.requires.same ∙ off) in
    (c.in_ok-value.ensures.value ∙ ap (λ x. x.value) (plain_same s t _ (value_from s t c.args.next) c.args.formula.now off), omega (arith, none))

pub end_of-whole-requires : goal.end_of-whole-requires
end_of-whole-requires g t' c =
    let s = c.args.here.now in
    let t = g.R.Refs.readings (g.R.Refs.terms c.args.refs.now c.args.memory.now) in
    let is : c.args.formula.now ≡ If c.get-truth.result.now c.in-If.left c.in-If.right = cc (c.in-If.is, c.get-truth.ensures) in
    let told = sym c.truth_continues.ensures ∙ c.if-truth_continues.true in
    let same : (course_from s t c.args.next c.args.formula.now).goes_on ≡ has_continue c.args.formula.now = whole_if s t (value_from s t c.args.next) c.args.formula.now c.get-truth.result.now c.in-If.left c.in-If.right is told in
    search rules

pub end_of-whole-requires-in_default : goal.end_of-whole-requires-in_default
end_of-whole-requires-in_default g t' c =
    let s = c.args.here.now in
    let t = g.R.Refs.readings (g.R.Refs.terms c.args.refs.now c.args.memory.now) in
    let same : (course_from s t c.args.next c.args.formula.now).goes_on ≡ has_continue c.args.formula.now = whole_plain s t (value_from s t c.args.next) c.args.formula.now c.in_default.not-If in
    search rules

pub end_of-holds-requires : goal.end_of-holds-requires
end_of-holds-requires g t' c =
    let s = c.args.here.now in
    let u = g.R.Refs.terms c.args.refs.now c.args.memory.now in
    let t = g.R.Refs.readings u in
    let may = g.R.Refs.may_ask u in
    let is : c.args.formula.now ≡ If c.get-truth.result.now c.in-If.left c.in-If.right = cc (c.in-If.is, c.get-truth.ensures) in
    let told = sym c.truth_continues.ensures ∙ c.if-truth_continues.false in
    test_passes s t zero_value (value_from s t c.args.next) c.args.formula.now c.get-truth.result.now c.in-If.left c.in-If.right is told may c.requires.ready.passes

pub end_of-end_of-requires : goal.end_of-end_of-requires
end_of-end_of-requires g t' c =
    let s = c.args.here.now in
    let u = g.R.Refs.terms c.args.refs.now c.args.memory.now in
    let t = g.R.Refs.readings u in
    let may = g.R.Refs.may_ask u in
    let is : c.args.formula.now ≡ If c.get-truth.result.now c.get.result.now c.in-If.right = cc (c.in-If.is, c.get-truth.ensures, c.get.ensures) in
    let told = sym c.truth_continues.ensures ∙ c.if-truth_continues.false in
    let holds = sym c.in_ok-holds-in-If.ensures.value ∙ c.if-branch.true in
    let stands = then_stands s t zero_value (value_from s t c.args.next) c.args.formula.now c.get-truth.result.now c.get.result.now c.in-If.right is told holds in
    let parts = weight_if c.args.formula.now c.get-truth.result.now c.get.result.now c.in-If.right is in
    let ready = subst (λ v. IsReady s (g.R.Refs.readings v) (g.R.Refs.may_ask v) c.args.next c.get.result.now) (sym c.holds.ensures.terms) (ready_by s t c.args.next _ _ stands may c.requires.ready) in
    search rules

pub end_of-returns-then-branch : goal.end_of-returns-then-branch
end_of-returns-then-branch g t' c =
    let s = c.args.here.now in
    let t = g.R.Refs.readings (g.R.Refs.terms c.args.refs.now c.args.memory.now) in
    let is : c.args.formula.now ≡ If c.get-truth.result.now c.get.result.now c.in-If.right = cc (c.in-If.is, c.get-truth.ensures, c.get.ensures) in
    let told = sym c.truth_continues.ensures ∙ c.if-truth_continues.false in
    let holds = sym c.in_ok-holds-in-If.ensures.value ∙ c.if-branch.true in
    let stands = then_stands s t zero_value (value_from s t c.args.next) c.args.formula.now c.get-truth.result.now c.get.result.now c.in-If.right is told holds in
    let end = subst (λ v. IfOk c.end_of.result (IsEnd s (g.R.Refs.readings v) c.args.next c.get.result.now c.args.steps.now c.end_of.new.steps)) c.holds.ensures.terms c.end_of.ensures.end in
    let most = subst (λ v. c.end_of.new.steps ≤ c.args.steps.now + entered_after s (g.R.Refs.readings v) c.args.next c.get.result.now) c.holds.ensures.terms c.end_of.ensures.most in
    record {
      end = end_by s t c.args.next _ _ stands c.args.steps.now c.end_of.new.steps c.end_of.result end;
      fault = search rules;
      terms = search rules;
      later = search (rules, g.met.R.Refs.later_later);
      from = search rules;
      most = subst (λ n. c.end_of.new.steps ≤ c.args.steps.now + n) (entered_same s t c.args.next _ _ stands) most;
    }

pub end_of-end_of-requires-else-branch : goal.end_of-end_of-requires-else-branch
end_of-end_of-requires-else-branch g t' c =
    let s = c.args.here.now in
    let u = g.R.Refs.terms c.args.refs.now c.args.memory.now in
    let t = g.R.Refs.readings u in
    let may = g.R.Refs.may_ask u in
    let is : c.args.formula.now ≡ If c.get-truth.result.now c.in-If.left c.get-else-branch.result.now = cc (c.in-If.is, c.get-truth.ensures, c.get-else-branch.ensures) in
    let told = sym c.truth_continues.ensures ∙ c.if-truth_continues.false in
    let holds = sym c.in_ok-holds-in-If.ensures.value ∙ c.if-branch.false in
    let stands = else_stands s t zero_value (value_from s t c.args.next) c.args.formula.now c.get-truth.result.now c.in-If.left c.get-else-branch.result.now is told holds in
    let parts = weight_if c.args.formula.now c.get-truth.result.now c.in-If.left c.get-else-branch.result.now is in
    let ready = subst (λ v. IsReady s (g.R.Refs.readings v) (g.R.Refs.may_ask v) c.args.next c.get-else-branch.result.now) (sym c.holds.ensures.terms) (ready_by s t c.args.next _ _ stands may c.requires.ready) in
    search rules

pub end_of-returns-else-branch : goal.end_of-returns-else-branch
end_of-returns-else-branch g t' c =
    let s = c.args.here.now in
    let t = g.R.Refs.readings (g.R.Refs.terms c.args.refs.now c.args.memory.now) in
    let is : c.args.formula.now ≡ If c.get-truth.result.now c.in-If.left c.get-else-branch.result.now = cc (c.in-If.is, c.get-truth.ensures, c.get-else-branch.ensures) in
    let told = sym c.truth_continues.ensures ∙ c.if-truth_continues.false in
    let holds = sym c.in_ok-holds-in-If.ensures.value ∙ c.if-branch.false in
    let stands = else_stands s t zero_value (value_from s t c.args.next) c.args.formula.now c.get-truth.result.now c.in-If.left c.get-else-branch.result.now is told holds in
    let end = subst (λ v. IfOk c.end_of-else-branch.result (IsEnd s (g.R.Refs.readings v) c.args.next c.get-else-branch.result.now c.args.steps.now c.end_of-else-branch.new.steps)) c.holds.ensures.terms c.end_of-else-branch.ensures.end in
    let most = subst (λ v. c.end_of-else-branch.new.steps ≤ c.args.steps.now + entered_after s (g.R.Refs.readings v) c.args.next c.get-else-branch.result.now) c.holds.ensures.terms c.end_of-else-branch.ensures.most in
    record {
      end = end_by s t c.args.next _ _ stands c.args.steps.now c.end_of-else-branch.new.steps c.end_of-else-branch.result end;
      fault = search rules;
      terms = search rules;
      later = search (rules, g.met.R.Refs.later_later);
      from = search rules;
      most = subst (λ n. c.end_of-else-branch.new.steps ≤ c.args.steps.now + n) (entered_same s t c.args.next _ _ stands) most;
    }

pub statements-end_of-requires : goal.statements-end_of-requires
statements-end_of-requires g t' c =
    let s = c.args.here.now in
    let u = g.R.Refs.terms c.args.refs.now c.args.memory.now in
    let t = g.R.Refs.readings u in
    let may = g.R.Refs.may_ask u in
    let cost = cost-some s c.each.from (c.in-Some.place, c.in-Some.formula) c.in-Some.ensures in
    let ready = subst (λ v. IsReady s (g.R.Refs.readings v) (g.R.Refs.may_ask v) (c.in-Some.place + 1) c.in-Some.formula.now) (sym c.each.invariant.terms) (passes-some s t may c.each.from _ c.in-Some.ensures c.each.invariant.passes) in
    let less : weight c.in-Some.formula.now + (2 + cost_from s (c.in-Some.place + 1)) < cost_from s c.args.first = omega (arith, cost, c.each.invariant.behind) in
    search rules

pub statements-returns-in_err-value-clause-most : goal.statements-returns-in_err-value-clause-most
statements-returns-in_err-value-clause-most g t' c =
    let s = c.args.here.now in
    let t = g.R.Refs.readings (g.R.Refs.terms c.args.refs.now c.args.memory.now) in
    let here = entered-some s t c.each.from (c.in-Some.place, c.in-Some.formula) c.in-Some.ensures in
    let same = ap (λ (v : g.R.Refs.Terms). entered_after s (g.R.Refs.readings v) (c.in-Some.place + 1) c.in-Some.formula.now) c.each.invariant.terms in
    omega (arith, here, same, c.each.invariant.counted, c.end_of.ensures.most, c.tick.ensures)

pub statements-returns-in-Some-2-clause-value : goal.statements-returns-in-Some-2-clause-value
statements-returns-in-Some-2-clause-value g t' c =
    let s = c.args.here.now in
    let t = g.R.Refs.readings (g.R.Refs.terms c.args.refs.now c.args.memory.now) in
    let end = rw c.in-Some-2.is at c.in_ok-value.ensures.end in
    let moved = ap (λ v. (course_from s (g.R.Refs.readings v) (c.in-Some.place + 1) c.in-Some.formula.now).value) c.each.invariant.terms in
    end.0 ∙ moved ∙ value-some s t c.each.from _ c.in-Some.ensures ∙ c.each.invariant.value

pub statements-returns-in-Some-2-clause-counted : goal.statements-returns-in-Some-2-clause-counted
statements-returns-in-Some-2-clause-counted g t' c =
    let s = c.args.here.now in
    let t = g.R.Refs.readings (g.R.Refs.terms c.args.refs.now c.args.memory.now) in
    let here = entered-some s t c.each.from (c.in-Some.place, c.in-Some.formula) c.in-Some.ensures in
    let same = ap (λ (v : g.R.Refs.Terms). entered_after s (g.R.Refs.readings v) (c.in-Some.place + 1) c.in-Some.formula.now) c.each.invariant.terms in
    let end = rw c.in-Some-2.is at c.in_ok-value.ensures.end in
    omega (arith, here, same, c.each.invariant.counted, end.1, c.tick.ensures)

pub statements-returns-in-Some-2-clause-most : goal.statements-returns-in-Some-2-clause-most
statements-returns-in-Some-2-clause-most g t' c =
    let s = c.args.here.now in
    let t = g.R.Refs.readings (g.R.Refs.terms c.args.refs.now c.args.memory.now) in
    let here = entered-some s t c.each.from (c.in-Some.place, c.in-Some.formula) c.in-Some.ensures in
    let same = ap (λ (v : g.R.Refs.Terms). entered_after s (g.R.Refs.readings v) (c.in-Some.place + 1) c.in-Some.formula.now) c.each.invariant.terms in
    let end = rw c.in-Some-2.is at c.in_ok-value.ensures.end in
    omega (arith, here, same, c.each.invariant.counted, end.1, c.tick.ensures)

pub statements-each-smaller : goal.statements-each-smaller
statements-each-smaller g t' c =
    let s = c.args.here.now in
    let cost = cost-some s c.each.from (c.in-Some.place, c.in-Some.formula) c.in-Some.ensures in
    omega (arith, cost)

pub statements-each-preserved : goal.statements-each-preserved
statements-each-preserved g t' c =
    let s = c.args.here.now in
    let u = g.R.Refs.terms c.args.refs.now c.args.memory.now in
    let t = g.R.Refs.readings u in
    let may = g.R.Refs.may_ask u in
    let cost = cost-some s c.each.from (c.in-Some.place, c.in-Some.formula) c.in-Some.ensures in
    let here = entered-some s t c.each.from (c.in-Some.place, c.in-Some.formula) c.in-Some.ensures in
    let none = rw c.in_default-2.is at c.in_ok-value.ensures.end in
    let end = subst (λ v. IsEnd s (g.R.Refs.readings v) (c.in-Some.place + 1) c.in-Some.formula.now c.tick.new.self c.end_of.new.steps None) c.each.invariant.terms none in
    let ready = passes-some s t may c.each.from _ c.in-Some.ensures c.each.invariant.passes in
    let all : entered_after s t (c.in-Some.place + 1) c.in-Some.formula.now ≡ entered_from s t (c.in-Some.place + 1) = ap (λ h. if h then entered_from s t (c.in-Some.place + 1) else 0) end.1 in
    record {
      passes = ready.rest end.1;
      value = end.0 ∙ value-some s t c.each.from _ c.in-Some.ensures ∙ c.each.invariant.value;
      counted = omega (arith, here, all, c.each.invariant.counted, end.2, c.tick.ensures);
      grown = inr (omega (arith, end.2, c.tick.ensures, c.each.invariant.least));
      least = omega (arith, end.2, c.tick.ensures, c.each.invariant.least);
      terms = c.end_of.ensures.terms ∙ c.each.invariant.terms;
      later = search (rules, g.met.R.Refs.later_later);
      behind = omega (arith, cost, c.each.invariant.behind);
    }

pub statements-stet-requires : goal.statements-stet-requires
statements-stet-requires g t' c =
    let s = c.args.here.now in
    let u = g.R.Refs.terms c.args.refs.now c.args.memory.now in
    let t = g.R.Refs.readings u in
    let may = g.R.Refs.may_ask u in
    let p = passes-none s t may c.each.from c.in_default.ensures c.each.invariant.passes in
    subst (λ v. (sources_at s (g.R.Refs.readings v)).stet.passes (g.R.Refs.may_ask v) ≡ true) (sym c.each.invariant.terms) p

pub statements-returns-clause-value : goal.statements-returns-clause-value
statements-returns-clause-value g t' c =
    let s = c.args.here.now in
    let t = g.R.Refs.readings (g.R.Refs.terms c.args.refs.now c.args.memory.now) in
    let moved = ap (λ v. (sources_at s (g.R.Refs.readings v)).stet.value) c.each.invariant.terms in
    ok_by c.stet.result _ _ (moved ∙ value-none s t c.each.from c.in_default.ensures ∙ c.each.invariant.value) c.stet.ensures.value

pub statements-returns-clause-counted : goal.statements-returns-clause-counted
statements-returns-clause-counted g t' c =
    let s = c.args.here.now in
    let t = g.R.Refs.readings (g.R.Refs.terms c.args.refs.now c.args.memory.now) in
    let none = entered-none s t c.each.from c.in_default.ensures in
    ok_any c.stet.result (c.each.steps ≡ c.args.steps.now + entered_from s t c.args.first) (omega (arith, none, c.each.invariant.counted))
