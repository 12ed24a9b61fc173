use Rattle.model_deploy.proofs.InStages.{unordered}
use Rattle.model_deploy.proofs.checks.check_ordered.Goals as goal

pub returns-in-Err-clause-comes : goal.returns-in-Err-clause-comes
returns-in-Err-clause-comes c = unordered c.args.files.now c.args.model.now c.in-Err.fault c.order_fault.result c.in-Err.ensures.fault c.order_fault.ensures
