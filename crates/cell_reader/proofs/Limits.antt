-- Where no limit is passed the answer is Ok.
use Rattle.std.proofs.Common.{arith, ◌≤◌, List, length, Ok}
use Rattle.cell_store.specs.StoreLimit.{most_cells}
use Rattle.cell_store.specs.declared.entry.Entry.{Entry}
use Rattle.feed_map.specs.FedCells.{most_fed}
use Rattle.rule_model.specs.BoundModel.{BoundModel}
use Rattle.cell_reader.specs.FedCount.{fed_count}
use Rattle.cell_reader.specs.Limits.{IsLimitAnswer}

pub within-answers : {T : Type 0} (model : BoundModel) (stored : List Entry) (ok : T) → length stored ≤ most_cells → fed_count model stored ≤ most_fed → IsLimitAnswer model stored (Ok ok)
within-answers model stored ok short few = record {
  within = λ less fed. tt;
  past_store = λ past. absurd (omega (arith, past, short));
  past_fed = λ less past. absurd (omega (arith, past, few));
}
