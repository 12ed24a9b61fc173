use Rattle.std.proofs.Common.{◌≡◌, ◌∙◌, sym, ap, arith, suc, ◌+◌, ◌-◌, Some, None, List, length, slice_get}
use Rattle.rule_model.specs.declared.rules.CubeRules.{CubeRules}
use Rattle.rule_model.specs.declared.rules.Statement.{Statement}
use Rattle.check_order.specs.References.{late_in, late_of}
use Rattle.check_order.specs.Inside.Walk.{late_statements}
use Rattle.check_order.proofs.Firsts.{option-first, option-past, late_there, none_there}
use Rattle.check_order.proofs.late.late_in_cube.Goals as goal

pub each-init : goal.each-init
each-init c =
    let ss : List Statement = c.as_slice-statements.result.now in
    let all : length ss - 0 ≡ length ss = omega arith in
    record {
      first = ap (λ n. slice_get (late_statements c.args.model.now c.args.cube ss 0 n) 0) all;
      known = c.none-known.ensures c.args.model.now c.args.cube;
    }

pub returns-in-Some : goal.returns-in-Some
unfolding late_of
returns-in-Some c =
    let ss : List Statement = c.as_slice-statements.result.now in
    let late : late_in c.args.model.now c.args.cube ss c.each.n ≡ Some _ =
    late_there c.args.model.now c.args.cube ss c.each.n c.index-statements-n.result c.each-test.true c.index-statements-n.is c.in-Some.reference (sym c.late_in_statement.ensures.late ∙ c.in-Some.is) in
    let more : length ss - c.each.n ≡ suc (length ss - (c.each.n + 1)) = omega (arith, c.each-test.true) in
    option-first (late_in c.args.model.now c.args.cube ss) c.each.n (length ss - c.each.n) (length ss - (c.each.n + 1)) _ more late ∙ c.each.invariant.first
    ∙ ap (λ (l : List Statement). slice_get (late_statements c.args.model.now c.args.cube l 0 (length l)) 0) (c.as_slice-statements.ensures ∙ ap (λ (r : CubeRules). r.statements) c.rules.ensures)

pub each-preserved : goal.each-preserved
each-preserved c =
    let ss : List Statement = c.as_slice-statements.result.now in
    let none : late_in c.args.model.now c.args.cube ss c.each.n ≡ None =
    none_there c.args.model.now c.args.cube ss c.each.n c.index-statements-n.result c.each-test.true c.index-statements-n.is (sym c.late_in_statement.ensures.late ∙ c.in_default.is) in
    let more : length ss - c.each.n ≡ suc (length ss - (c.each.n + 1)) = omega (arith, c.each-test.true) in
    record {
      first = option-past (late_in c.args.model.now c.args.cube ss) c.each.n (length ss - c.each.n) (length ss - (c.each.n + 1)) more none ∙ c.each.invariant.first;
      known = c.late_in_statement.ensures.known;
    }
