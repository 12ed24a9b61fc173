-- The lines that explain a refusal by the model that it refuses.
use Rattle.std.specs.Prelude.{◌≡◌, ◌≤◌, ℕ, List, [], ◌∷◌, ◌++◌, Option, Some, None, codes, decimal}
use Rattle.std.specs.Option.{option_map_or, option_map}
use Rattle.cell_names.specs.CellNames.{cell_named}
use Rattle.check_order.specs.Verdict.{IsOrderFault}
use Rattle.check_order.specs.declared.fault.OrderFault.{OrderFault}
use Rattle.check_order.specs.declared.fault.OrderFault.TheVariants as orders
use Rattle.cube_space.specs.Layout.{Layout}
use Rattle.cube_space.specs.Radix.{product}
use Rattle.dim_name.specs.Bytes.{newline}
use Rattle.file_passes.specs.Pass.{Readings}
use Rattle.file_passes.specs.declared.refusal.Cause.{Cause}
use Rattle.file_passes.specs.declared.refusal.Cause.TheVariants as causes
use Rattle.late_example.specs.Example.{IsAnswer}
use Rattle.late_example.specs.declared.example.LateExample.{LateExample}
use Rattle.model_bind.specs.declared.bound.Bound.{Bound}
use Rattle.rule_laws.specs.OrderByPlace.{IsOrderedByPlace}
use Rattle.rule_model.specs.BoundModel.{BoundModel}
use Rattle.rule_model.specs.Order.{most_height, position_sizes}
use Rattle.rule_model.specs.System.{system_of, positions_of}
use Rattle.explained_model.specs.Files.{binding_pass, Ends}

-- a word, a cell, and its number at the position that decides
abbrev pub cell_line : List ℕ → Layout → ℕ → ℕ → List ℕ
cell_line word space cell number = word ++ cell_named space cell ++ codes " " ++ decimal number ++ newline ∷ []

-- the cell of the statement's area, and the one that it reads
abbrev pub example_lines : Layout → LateExample → List ℕ
example_lines space e =
    cell_line (codes "  from ") space e.from e.from_rank ++ cell_line (codes "  to ") space e.to e.to_rank

-- what the order check finds wrong with a model
abbrev pub IsOrderVerdict : BoundModel → Option OrderFault → Type 0
IsOrderVerdict model (Some fault) = IsOrderFault model fault
IsOrderVerdict model None =
    IsOrderedByPlace (system_of model) (positions_of model) × (product (position_sizes model) ≤ most_height)

-- of a reference that isn't earlier, its example
abbrev pub AreFaultLines : BoundModel → Option OrderFault → List ℕ → Type 0
AreFaultLines model (Some (orders.NotEarlier cube statement reference)) lines =
    (example : Option LateExample) × IsAnswer model cube statement reference example
    × (lines ≡ option_map_or (example_lines model.space) example [])
AreFaultLines model (Some (orders.TooHigh height)) lines = lines ≡ []
AreFaultLines model None lines = lines ≡ []

abbrev pub AreOrderLines : BoundModel → List ℕ → Type 0
AreOrderLines model lines = (fault : Option OrderFault) × IsOrderVerdict model fault × AreFaultLines model fault lines

-- the lines of the model that the files are bound to, and none where they aren't bound to one
abbrev pub AreBoundLines : Option Bound → List ℕ → Type 0
AreBoundLines (Some bound) lines = AreOrderLines bound.model lines
AreBoundLines None lines = lines ≡ []

-- of a reference that isn't earlier, the example in the model of the model file of this name
abbrev pub AreLateLines : List ℕ → Readings → Cause → List ℕ → Type 0
AreLateLines name readings (causes.NotEarlier reference) lines =
    (bound : Option Bound) × Ends (binding_pass name) readings bound × AreBoundLines bound lines
AreLateLines name readings _ lines = lines ≡ []
