-- A leaf cell that no statement governs has what is stored there.
use Rattle.std.proofs.Common.{◌≡◌, ℕ, ◌<◌, List, ap, ap₂, ◌∙◌}
use native.Mathlib.Numerals.{add-one}
use Rattle.cube_fixed.specs.declared.value.Value.{Value}
use Rattle.cube_fixed.specs.declared.value.Value.TheVariants.{Num}
use Rattle.cube_fixed.specs.Arithmetic.{zero_value}
use Rattle.cell_store.specs.declared.entry.Entry.{Entry}
use Rattle.cell_store.specs.Entries.{number_at}
use Rattle.cube_space.specs.Cells.{size_of}
use Rattle.equations.specs.Equations.{round}
use Rattle.rule_laws.specs.RuleSystem.{RuleSystem, Stored, IsCell, dense_value, right_side, depth}
use Rattle.rule_model.specs.BoundModel.{BoundModel}
use Rattle.rule_model.specs.System.{system_of}
use Rattle.stored_laws.specs.Stored.{stored_in}
use Rattle.memo_cells.specs.declared.version.Version.{Version}
use Rattle.memo_cells.specs.Values.{cell_value}

pub is-cell : (m : BoundModel) (c : ℕ) → c < size_of m.space → IsCell (system_of m) c
unfolding system_of
is-cell m c below = below

-- the value of the last round is that of the right side
last-round : (w : RuleSystem) (stored : Stored) (c : ℕ) (value : Value)
    → ((table : ℕ → Value) → right_side w stored table c ≡ value) → dense_value w stored c ≡ value
last-round w stored c value right =
    ap (λ n. round zero_value (right_side w stored) n c) (add-one (depth w c)) ∙
    right (round zero_value (right_side w stored) (depth w c))

pub leaf-value : (version : Version) (m : BoundModel) (entries : List Entry) (c : ℕ) → version.model.value ≡ m
    → version.stored.value ≡ entries
    → ((table : ℕ → Value) → right_side (system_of m) (stored_in entries) table c ≡ Num (number_at entries c))
    → cell_value version c ≡ Num (number_at entries c)
unfolding cell_value
leaf-value version m entries c model stored right =
    ap₂ (λ (m : BoundModel) (s : List Entry). dense_value (system_of m) (stored_in s) c) model stored ∙
    last-round (system_of m) (stored_in entries) c (Num (number_at entries c)) right
