use Rattle.dim_weights.proofs.MadeRows.{IsBuilding-none}
use Rattle.dim_weights.proofs.table.TableBuilder.new.Goals as goal

pub invariant_of-result : goal.invariant_of-result
invariant_of-result c = IsBuilding-none c.rows.rows.items c.rows.invariant.none
