-- A 0 is written into each open cell, and passes no limit.
use Rattle.std.proofs.Common.{◌≡◌, ◌∙◌, ap, ℕ, ℤ, pos, if◌then◌else◌, List, [], ◌∷◌, ◌++◌, Option, Some, None, Result}
use Rattle.std.specs.Prelude.{is_none}
use Rattle.cell_reader.specs.Limits.{IsWithinLimits}
use Rattle.cell_reader.specs.WritePermission.{why_closed}
use Rattle.cell_reader.specs.declared.write_permission.Closed.{Closed}
use Rattle.cell_store.specs.Entries.{after_writes}
use Rattle.cell_store.specs.declared.entry.Entry.{Entry}
use Rattle.rule_model.specs.BoundModel.{BoundModel}
use Rattle.script_values.specs.Cells.{unless_refused, with_zeros}
use Rattle.script_values.specs.declared.load_reason.LoadReason.{LoadReason}
use Rattle.load_cells.specs.Loads.{open_among, store_of}
use Rattle.load_cells.proofs.PassedLimits.{none_passed}

module _ (model : BoundModel) (stored : List Entry) (writes : List (ℕ × ℤ)) (cell : ℕ) (cells : List ℕ) where
  abbrev zeros : List (ℕ × ℤ) → List ℕ → Result (List (ℕ × ℤ)) LoadReason
  zeros = with_zeros (store_of model stored)

  -- by why a cell is closed
  abbrev zeros_by : Option Closed → Result (List (ℕ × ℤ)) LoadReason
  zeros_by why = zeros writes (if is_none why then cell ∷ open_among model cells else open_among model cells)

  pub zero_written : why_closed model cell ≡ None → IsWithinLimits model (after_writes stored (writes ++ (cell, pos 0) ∷ []))
      → zeros writes (open_among model (cell ∷ cells)) ≡ zeros (writes ++ (cell, pos 0) ∷ []) (open_among model cells)
  zero_written takes within =
      ap zeros_by takes
      ∙ ap (λ limit. unless_refused limit (zeros (writes ++ (cell, pos 0) ∷ []) (open_among model cells))) (none_passed model (after_writes stored (writes ++ (cell, pos 0) ∷ [])) within)

  pub passed_over : (why : Closed) → why_closed model cell ≡ Some why → zeros writes (open_among model (cell ∷ cells)) ≡ zeros writes (open_among model cells)
  passed_over why closed = ap zeros_by closed
