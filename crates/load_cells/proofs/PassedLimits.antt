-- Which limit is passed: none where both are kept.
use Rattle.std.proofs.Common.{◌≡◌, ◌∙◌, ap, arith, suc, false, if◌then◌else◌, List, length, Some, None}
use Rattle.std.specs.Prelude.{nat_lt}
use Rattle.std.proofs.lemmas.Bool.Decides.{nat_tests}
use Rattle.cell_reader.specs.FedCount.{fed_count}
use Rattle.cell_reader.specs.Limits.{IsWithinLimits}
use Rattle.cell_store.specs.StoreLimit.{most_cells}
use Rattle.cell_store.specs.declared.entry.Entry.{Entry}
use Rattle.feed_map.specs.FedCells.{most_fed}
use Rattle.rule_model.specs.BoundModel.{BoundModel}
use Rattle.script_values.specs.declared.load_reason.LoadReason.TheVariants.{StoreLimit, FedLimit}
use Rattle.load_cells.specs.Loads.{passed}

pub none_passed : (model : BoundModel) (stored : List Entry) → IsWithinLimits model stored → passed model stored ≡ None
none_passed model stored within =
    let short = within.few_stored in
    let few = within.few_fed in
    let store : nat_lt most_cells (length stored) ≡ false = grind (arith, nat_tests, short) in
    let fed : nat_lt most_fed (fed_count model stored) ≡ false = grind (arith, nat_tests, few) in
    ap (λ b. if b then Some (StoreLimit (length stored)) else if nat_lt most_fed (fed_count model stored) then Some (FedLimit (suc most_fed)) else None) store
    ∙ ap (λ b. if b then Some (FedLimit (suc most_fed)) else None) fed
