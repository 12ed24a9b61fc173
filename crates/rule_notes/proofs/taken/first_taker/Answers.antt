use Rattle.std.proofs.Common.{◌≡◌, ◌∙◌, ◌+◌, ◌-◌, arith, ap, sym, suc, cond, Some}
use Rattle.std.specs.List.{find, range_with_len}
use Rattle.rule_notes.specs.Inside.Reached.{takes}
use Rattle.rule_notes.proofs.Ranges.{find-more}
use Rattle.rule_notes.proofs.taken.first_taker.Goals as goal

pub returns-then-takes-clause-value : goal.returns-then-takes-clause-value
returns-then-takes-clause-value c =
    let test = takes c.args.model.now c.args.cube c.args.kind c.args.area.now in
    let more : c.args.count - c.each.by ≡ suc (c.args.count - (c.each.by + 1)) = omega (arith, c.each-test.true) in
    sym (find-more test c.each.by (c.args.count - c.each.by) (c.args.count - (c.each.by + 1)) more
    ∙ ap (λ t. cond t (Some c.each.by) (find test (range_with_len (c.each.by + 1) (c.args.count - (c.each.by + 1))))) (sym c.takes.ensures ∙ c.if-takes.true)) ∙ c.each.invariant

pub each-preserved : goal.each-preserved
each-preserved c =
    let test = takes c.args.model.now c.args.cube c.args.kind c.args.area.now in
    let more : c.args.count - c.each.by ≡ suc (c.args.count - (c.each.by + 1)) = omega (arith, c.each-test.true) in
    sym (find-more test c.each.by (c.args.count - c.each.by) (c.args.count - (c.each.by + 1)) more
    ∙ ap (λ t. cond t (Some c.each.by) (find test (range_with_len (c.each.by + 1) (c.args.count - (c.each.by + 1))))) (sym c.takes.ensures ∙ c.if-takes.false)) ∙ c.each.invariant

pub returns-clause-value : goal.returns-clause-value
returns-clause-value c =
    let test = takes c.args.model.now c.args.cube c.args.kind c.args.area.now in
    let none : c.args.count - c.each.by ≡ 0 = omega (arith, c.each-test.false) in
    sym (ap (λ n. find test (range_with_len c.each.by n)) none) ∙ c.each.invariant
