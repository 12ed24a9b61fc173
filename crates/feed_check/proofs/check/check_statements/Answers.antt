use Rattle.std.proofs.Common.{◌∙◌, ◌+◌, ap, refl, arith, length}
use Rattle.rule_model.specs.declared.rules.CubeRules.{CubeRules}
use Rattle.feed_check.proofs.Verdicts.{next-covered, all-covered, statement-at}
use Rattle.feed_check.proofs.check.check_statements.Goals as goal

pub each-preserved : goal.each-preserved
each-preserved c =
    let same = c.as_slice-statements.ensures ∙ ap (λ (r : CubeRules). r.statements) c.rules.ensures in
    let at = statement-at c.args.model.now c.args.cube c.each.n c.as_slice-statements.result.now c.index-statements-n.result same c.each-test.true c.index-statements-n.is in
    record {
      covered = next-covered c.args.model.now c.args.cube c.each.n (c.each.n + 1) c.index-statements-n.result at (c.blamed_in.ensures.covered c.in_default.is) c.each.invariant.covered refl;
      answers = c.blamed_in.ensures.answers;
    }

pub returns-clause-sound : goal.returns-clause-sound
returns-clause-sound c =
    let same = c.as_slice-statements.ensures ∙ ap (λ (r : CubeRules). r.statements) c.rules.ensures in
    all-covered c.args.model.now c.args.cube c.each.n (omega (arith, ap length same, c.each-test.false)) c.each.invariant.covered
