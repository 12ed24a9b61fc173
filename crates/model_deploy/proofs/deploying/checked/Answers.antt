use Rattle.std.proofs.Common.{Result, Ok, Err, ◌∙◌, sym, subst, []}
use Rattle.accepted.specs.Checks.{IsAccepted}
use Rattle.feed_map.specs.FedCells.{AreFedCells}
use Rattle.cube_space.specs.Cells.{IsSpace}
use Rattle.rule_model.specs.BoundModel.{BoundModel}
use Rattle.rule_model.specs.Conditions.{AreRules}
use Rattle.model_bind.specs.Stages.{Comes}
use Rattle.model_deploy.specs.Deployment.{fed_stage}
use Rattle.model_deploy.proofs.InStages.{late, late-fed, overfed, passes}
use Rattle.model_deploy.proofs.deploying.checked.Goals as goal

pub returns-in_err-check_ordered-clause-comes : goal.returns-in_err-check_ordered-clause-comes
returns-in_err-check_ordered-clause-comes c =
    late c.args.files.now c.args.model c.in_err-check_ordered.field-0.0 c.from_residual.result c.from_residual.ensures.1 c.in_err-check_ordered.ensures.comes

pub returns-in_err-check_covered-clause-comes : goal.returns-in_err-check_covered-clause-comes
returns-in_err-check_covered-clause-comes c =
    late-fed c.args.files.now c.args.model c.in_err-check_covered.field-0.0 c.from_residual-in_err-check_covered.result c.from_residual-in_err-check_covered.ensures.1
    c.in_ok-check_ordered.ensures.comes c.in_err-check_covered.ensures.comes

pub returns-in_err-feeding-clause-comes : goal.returns-in_err-feeding-clause-comes
returns-in_err-feeding-clause-comes c =
    overfed c.args.files.now c.args.model c.in_err-feeding.field-0.0 c.from_residual-in_err-feeding.result c.from_residual-in_err-feeding.ensures.1
    c.in_ok-check_ordered.ensures.comes c.in_ok-check_covered.ensures.comes (subst (λ (m : BoundModel). Comes (fed_stage m) (Err c.in_err-feeding.field-0.0)) c.in_ok-sources.ensures c.in_err-feeding.ensures.refused)

pub returns-clause-comes : goal.returns-clause-comes
returns-clause-comes c =
    passes c.args.files.now c.args.model c.new.result (c.new.ensures ∙ c.in_ok-sources.ensures) c.in_ok-check_ordered.ensures.comes
    c.in_ok-check_covered.ensures.comes (c.in_ok-feeding.feeding.fed, (subst (λ (m : BoundModel). AreFedCells m [] c.in_ok-feeding.feeding.fed) c.in_ok-sources.ensures c.in_ok-feeding.ensures.fed.fed), c.in_ok-feeding.ensures.few)

pub new-requires-clause-accepted : goal.new-requires-clause-accepted
new-requires-clause-accepted c =
    subst IsAccepted (sym c.in_ok-sources.ensures) (record {
      valid = subst (λ (m : BoundModel). IsSpace m.space) c.in_ok-sources.ensures c.space-space.ensures.valid;
      rules = subst (λ (m : BoundModel). AreRules m.space m.rules) c.in_ok-sources.ensures c.space-space.ensures.rules;
      ordered = c.in_ok-check_ordered.ensures.ordered;
      covered = c.in_ok-check_covered.ensures.covered;
      few_fed = (c.in_ok-feeding.feeding.fed, subst (λ (m : BoundModel). AreFedCells m [] c.in_ok-feeding.feeding.fed) c.in_ok-sources.ensures c.in_ok-feeding.ensures.fed.fed, c.in_ok-feeding.ensures.few);
    })
