use Rattle.rule_laws.proofs.PlaceFacts.{ordered-by_place}
use Rattle.rule_laws.proofs.SparseFacts.{unfed-zero}
use Rattle.rule_model.specs.System.{system_of, positions_of}
use Rattle.model_laws.proofs.Formed.{well_formed}
use Rattle.model_laws.proofs.Ranks.{ranked}
use Rattle.stored_laws.specs.Stored.{stored_in}
use Rattle.feed_map.proofs.laws.cells_off_the_map_are_zero.Goals as goal

pub returns : goal.returns
returns c m entries cells valid rules ordered covered are cell leaf none off =
    let formed = well_formed m valid rules in
    unfed-zero (system_of m) (stored_in entries) formed (ordered-by_place (system_of m) (positions_of m) formed (ranked m) ordered) covered cell leaf none
    (λ fed. off ((are.fed cell).1 fed))
