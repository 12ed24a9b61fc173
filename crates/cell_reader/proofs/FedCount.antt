-- As there is a list of the fed cells, they are few or many, and a version has as many as it lists.
use Rattle.std.proofs.Common.{◌≡◌, ap, ℕ, ◌<◌, ◌≤◌, List, length}
use Rattle.std.proofs.lemmas.List.Elements.{All-contains_itself}
use Rattle.cell_store.specs.declared.entry.Entry.{Entry}
use Rattle.cube_space.specs.Cells.{IsSpace}
use Rattle.fed_laws.specs.FedCells.{fed_cells}
use Rattle.fed_laws.proofs.Reached.{fed_list, list_fed, list_rises}
use Rattle.feed_map.specs.FedCells.{AreFedCells, HasFewFed, HasManyFed, most_fed}
use Rattle.model_laws.proofs.Formed.{well_formed}
use Rattle.lists.proofs.Members.{same_members}
use Rattle.rule_model.specs.BoundModel.{BoundModel}
use Rattle.rule_model.specs.Conditions.{AreRules}
use Rattle.rule_model.specs.System.{system_of}
use Rattle.stored_laws.specs.Stored.{stored_in}
use Rattle.cell_reader.specs.FedCount.{fed_count}

pub few_fed : (m : BoundModel) (es : List Entry) → IsSpace m.space → AreRules m.space m.rules → fed_count m es ≤ most_fed → HasFewFed m es
unfolding fed_count
few_fed m es valid rules le =
    let cells = fed_cells (system_of m) (stored_in es) in (
      cells,
      record {
        rising = list_rises (system_of m) (stored_in es);
        fed = λ c. (list_fed (system_of m) (stored_in es) c, fed_list (system_of m) (stored_in es) (well_formed m valid rules) c);
      },
      le,
    )

pub many_fed : (m : BoundModel) (es : List Entry) → most_fed < fed_count m es → HasManyFed m es
unfolding fed_count
many_fed m es less =
    let cells = fed_cells (system_of m) (stored_in es) in
    (cells, list_rises (system_of m) (stored_in es), less, λ k d low. list_fed (system_of m) (stored_in es) _ (All-contains_itself cells k d low))

pub count_of : (m : BoundModel) (es : List Entry) (fed : List ℕ) → IsSpace m.space → AreRules m.space m.rules → AreFedCells m es fed → fed_count m es ≡ length fed
unfolding fed_count
count_of m es fed valid rules are =
    let system = system_of m in
    ap length
    (same_members (fed_cells system (stored_in es)) fed (list_rises system (stored_in es)) are.rising
    (λ c. (λ has. (are.fed c).1 (list_fed system (stored_in es) c has), λ has. fed_list system (stored_in es) (well_formed m valid rules) c ((are.fed c).0 has))))
