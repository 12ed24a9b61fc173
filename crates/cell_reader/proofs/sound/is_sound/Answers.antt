use Rattle.std.proofs.Common.{◌≤◌, ℕ, List, length, subst, sym}
use Rattle.cell_store.specs.StoreLimit.{most_cells}
use Rattle.cell_store.specs.declared.entry.Entry.{Entry}
use Rattle.cube_space.specs.Cells.{IsSpace}
use Rattle.feed_map.specs.FedCells.{most_fed}
use Rattle.rule_model.specs.BoundModel.{BoundModel}
use Rattle.rule_model.specs.Conditions.{AreRules}
use Rattle.cell_reader.proofs.FedCount.{count_of}
use Rattle.cell_reader.proofs.sound.is_sound.Goals as goal

pub returns-clause-within : goal.returns-clause-within
returns-clause-within c =
    let version = c.args.version.now in
    let few_stored : length version.stored ≤ most_cells =
    subst (λ (stored : List Entry). length stored ≤ most_cells) c.store.ensures.stored (subst (λ n. n ≤ most_cells) c.len-stored.ensures.len c.len-stored.ensures.within) in
    let few_fed : length version.fed ≤ most_fed =
    subst (λ (fed : List ℕ). length fed ≤ most_fed) c.fed.ensures.fed (subst (λ n. n ≤ most_fed) c.count-fed.ensures.count c.count-fed.ensures.within) in
    let valid : IsSpace version.model.space = subst (λ (m : BoundModel). IsSpace m.space) c.model.ensures.model c.space-space.ensures.valid in
    let rules : AreRules version.model.space version.model.rules = subst (λ (m : BoundModel). AreRules m.space m.rules) c.model.ensures.model c.space-space.ensures.rules in
    record {
      few_stored = few_stored;
      few_fed = subst (λ n. n ≤ most_fed) (sym (count_of version.model version.stored version.fed valid rules c.store.ensures.valid.fed)) few_fed;
    }
