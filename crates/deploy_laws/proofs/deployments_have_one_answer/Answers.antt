use Rattle.deploy_laws.proofs.Deployments.{single-deployment}
use Rattle.deploy_laws.proofs.deployments_have_one_answer.Goals as goal

pub returns : goal.returns
returns g text files = single-deployment text files
