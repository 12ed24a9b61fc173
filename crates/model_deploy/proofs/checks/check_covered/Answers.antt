use Rattle.model_deploy.proofs.InStages.{uncovered}
use Rattle.model_deploy.proofs.checks.check_covered.Goals as goal

pub returns-in-Err-clause-comes : goal.returns-in-Err-clause-comes
returns-in-Err-clause-comes c = uncovered c.args.files.now c.args.model.now c.in-Err.fault c.feeders_fault.result c.in-Err.ensures.fault c.feeders_fault.ensures
