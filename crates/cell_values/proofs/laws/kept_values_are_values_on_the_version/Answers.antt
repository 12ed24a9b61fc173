use Rattle.std.proofs.Common.{◌∙◌, ap, List}
use Rattle.cell_store.specs.declared.entry.Entry.{Entry}
use Rattle.memo_cells.specs.Values.{cell_value}
use Rattle.rule_laws.specs.RuleSystem.{dense_value}
use Rattle.rule_model.specs.BoundModel.{BoundModel}
use Rattle.rule_model.specs.System.{system_of}
use Rattle.stored_laws.specs.Stored.{stored_in}
use Rattle.cell_values.specs.Reading.{value_on}
use Rattle.cell_values.proofs.laws.kept_values_are_values_on_the_version.Goals as goal

pub returns : goal.returns
unfolding cell_value value_on
returns c kept version model stored =
    ap (λ (m : BoundModel). dense_value (system_of m) (stored_in kept.stored.value)) model
    ∙ ap (λ (entries : List Entry). dense_value (system_of version.model) (stored_in entries)) stored
