-- Values that are told without work.
use Rattle.std.proofs.Common.{◌≡◌, ◌∙◌, ℕ, true, None}
use Rattle.accepted.specs.Checks.{IsAccepted}
use Rattle.cell_store.specs.Entries.{number_at}
use Rattle.cell_versions.specs.Versions.{NumberedVersion}
use Rattle.cube_fixed.specs.declared.value.Value.TheVariants.{Num}
use Rattle.cube_space.specs.Cells.{IsSpace, IsCell, is_leaf_cell}
use Rattle.rule_model.specs.Conditions.{AreRules}
use Rattle.rule_model.specs.Governing.{governing_from}
use Rattle.cell_values.specs.Reading.{value_on}
use Rattle.cell_values.proofs.Values.{ungoverned-value, leaf-base}

pub stored-value : (v : NumberedVersion) (c : ℕ) (valid : IsSpace v.model.space) (rules : AreRules v.model.space v.model.rules) (accepted : IsAccepted v.model)
    → IsCell v.model.space c → is_leaf_cell v.model.space c ≡ true → governing_from v.model c 0 ≡ None → value_on v c ≡ Num (number_at v.stored c)
stored-value v c valid rules accepted is_cell leaf none = ungoverned-value v valid rules accepted c is_cell none ∙ leaf-base v valid rules accepted c is_cell leaf
