use Rattle.std.proofs.Common.{◌≡◌}
use Rattle.feed_map.specs.declared.fault.FedFault.TheVariants.{FedLimit}
use Rattle.model_deploy.proofs.InStages.{overfed-by}
use Rattle.model_deploy.proofs.checks.fed_over_nothing.Goals as goal

pub returns-in-Err-FedLimit-clause-refused : goal.returns-in-Err-FedLimit-clause-refused
returns-in-Err-FedLimit-clause-refused c =
    let told = c.in-Err-FedLimit in
    let is : told.field-0 ≡ FedLimit told.count = cc (told.field-0-is) in
    overfed-by c.args.model.now told.field-0 told.count c.in_model.result c.new.result is c.new.ensures told.ensures.fault (rw c.text_begin.ensures at c.in_model.ensures)
