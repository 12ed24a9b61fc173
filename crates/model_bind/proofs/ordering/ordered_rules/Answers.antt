use Rattle.std.proofs.Common.{rules, ◌≡◌, ◌<◌, ◌≤◌, ◌+◌, ◌++◌, ◌∷◌, [], ◌∙◌, length, length-append, sym, ap, subst, arith}
use Rattle.std.specs.Vec.Iter.{into_iter_items}
use Rattle.std.proofs.lemmas.List.{append-nil}
use Rattle.dim_core.proofs.BadAttributes.{taken_front, nothing_left}
use Rattle.rule_model.specs.BoundModel.{no_rules}
use Rattle.rule_model.specs.Conditions.{AreCubeRules}
use Rattle.model_bind.specs.Rules.{order_stage}
use Rattle.model_bind.proofs.CubeRules.{one_more}
use Rattle.model_bind.proofs.Stages.{all-found, comes-refused, one-more, seam-at, seam-low}
use Rattle.model_bind.proofs.ordering.ordered_rules.Goals as goal

pub by_line-requires-clause-rules : goal.by_line-requires-clause-rules
by_line-requires-clause-rules c =
    let space = c.args.found.now.space in
    let before = c.loop-rules.yielded in
    let x = c.in-Some.rules in
    let rest = into_iter_items c.next.new.self in
    let parts : c.args.rules ≡ before ++ x ∷ rest =
    sym c.into_vec-rules-items.ensures ∙ sym c.into_iter-rules-iterator.ensures.into_iter_gives.0 ∙ taken_front c.into_iter-rules-iterator.result before c.loop-rules.rules-iterator c.loop-rules.yielded_by ∙ ap (λ l. before ++ l) c.in-Some.ensures.steps.0 in
    let low : length before < length space.cubes = omega (arith, seam-low c.args.rules before rest x parts, c.requires.rules.each_cube) in
    let own = c.requires.rules.cube (length before) low in
    let here : AreCubeRules space (length before) x = subst (λ r. AreCubeRules space (length before) r) (seam-at c.args.rules before rest x no_rules parts) own in
    subst (λ n. AreCubeRules space n x) (sym c.loop-rules.invariant.place) here

pub returns-in_err-rules-clause-comes : goal.returns-in_err-rules-clause-comes
returns-in_err-rules-clause-comes c =
    let before = c.loop-rules.yielded in
    let x = c.in-Some.rules in
    let rest = into_iter_items c.next.new.self in
    let parts : c.args.rules ≡ before ++ x ∷ rest =
    sym c.into_vec-rules-items.ensures ∙ sym c.into_iter-rules-iterator.ensures.into_iter_gives.0 ∙ taken_front c.into_iter-rules-iterator.result before c.loop-rules.rules-iterator c.loop-rules.yielded_by ∙ ap (λ l. before ++ l) c.in-Some.ensures.steps.0 in
    comes-refused (order_stage c.args.found.now.space c.args.found.now.orders) c.args.rules before rest c.loop-rules.ordered.items x c.loop-rules.cube c.in_err-rules.field-0.0 c.from_residual-in_err-rules.result
    parts c.loop-rules.invariant.place c.loop-rules.invariant.found c.in_err-rules.ensures.comes c.from_residual-in_err-rules.ensures.1

pub overflow_add-cube : goal.overflow_add-cube
overflow_add-cube c =
    let before = c.loop-rules.yielded in
    let x = c.in-Some.rules in
    let rest = into_iter_items c.next.new.self in
    let parts : c.args.rules ≡ before ++ x ∷ rest =
    sym c.into_vec-rules-items.ensures ∙ sym c.into_iter-rules-iterator.ensures.into_iter_gives.0 ∙ taken_front c.into_iter-rules-iterator.result before c.loop-rules.rules-iterator c.loop-rules.yielded_by ∙ ap (λ l. before ++ l) c.in-Some.ensures.steps.0 in
    let low : c.loop-rules.cube + 1 ≤ c.cubes.result = omega (arith, seam-low c.args.rules before rest x parts, c.requires.rules.each_cube, c.loop-rules.invariant.place, c.cubes.ensures) in
    search rules

pub loop-rules-preserved : goal.loop-rules-preserved
loop-rules-preserved c =
    let space = c.args.found.now.space in
    let stage = order_stage space c.args.found.now.orders in
    let before = c.loop-rules.yielded in
    let x = c.in-Some.rules in
    let y = c.in_ok-rules.rules in
    let start : c.loop-rules.cube ≡ 0 + length before = omega (arith, c.loop-rules.invariant.place) in
    let here = subst (λ n. (stage n x).finds y) start c.in_ok-rules.ensures.comes in
    record {
      next = tt;
      finite = tt;
      place = omega (arith, c.loop-rules.invariant.place, length-append before (x ∷ []));
      found = rw c.in_ok-push.ensures.items (one-more stage 0 before c.loop-rules.ordered.items x y c.loop-rules.invariant.found here);
      rules = one_more space c.loop-rules.ordered.items c.push.new.self.items y c.loop-rules.cube c.loop-rules.invariant.rules c.in_ok-rules.ensures.rules c.in_ok-push.ensures.items;
    }

pub returns-clause-comes : goal.returns-clause-comes
returns-clause-comes c =
    let stage = order_stage c.args.found.now.space c.args.found.now.orders in
    let seen = c.loop-rules.yielded in
    let parts : c.args.rules ≡ seen ++ into_iter_items c.loop-rules.rules-iterator =
    sym c.into_vec-rules-items.ensures ∙ sym c.into_iter-rules-iterator.ensures.into_iter_gives.0 ∙ taken_front c.into_iter-rules-iterator.result seen c.loop-rules.rules-iterator c.loop-rules.yielded_by in
    let all : c.args.rules ≡ seen = parts ∙ ap (λ l. seen ++ l) (nothing_left (into_iter_items c.loop-rules.rules-iterator) (sym c.loop-rules.rules-iterator.rest.ok.0 ∙ c.in-None.ensures.steps.0)) ∙ append-nil seen in
    rw (all, c.new.ensures) (all-found stage 0 seen c.loop-rules.ordered.items c.loop-rules.invariant.found)
