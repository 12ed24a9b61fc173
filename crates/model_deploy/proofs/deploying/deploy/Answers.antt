use Rattle.std.proofs.Common.{subst}
use Rattle.rule_model.specs.BoundModel.{BoundModel}
use Rattle.model_bind.specs.Binding.{binding}
use Rattle.model_bind.specs.Stages.{Comes}
use Rattle.model_bind.specs.declared.bound.Bound.{Bound}
use Rattle.model_bind.proofs.Stages.{stopped, goes-on}
use Rattle.model_deploy.specs.Deployment.{checked, deployment, fed_model}
use Rattle.model_deploy.proofs.deploying.deploy.Goals as goal

pub returns-in_err-bound-clause-comes : goal.returns-in_err-bound-clause-comes
unfolding deployment
returns-in_err-bound-clause-comes c =
    let files = c.args.rules.now in
    stopped Bound BoundModel (binding c.args.text files) (λ bound. checked files (fed_model bound)) c.in_err-bound.field-0.0 c.from_residual.result
    c.from_residual.ensures.1 c.in_err-bound.ensures.comes

pub returns-clause-comes : goal.returns-clause-comes
unfolding deployment
returns-clause-comes c =
    let files = c.args.rules.now in
    goes-on Bound BoundModel (binding c.args.text files) (λ bound. checked files (fed_model bound)) c.in_ok-bound.bound c.checked.result c.in_ok-bound.ensures.comes
    (subst (λ (m : BoundModel). Comes (checked files m) c.checked.result) c.in_ok-model.ensures c.checked.ensures.comes)
