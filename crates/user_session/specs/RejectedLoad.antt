-- What a rejected load prints, and a load that passed over records.
use Rattle.std.specs.Prelude.{ℕ, List, [], ◌∷◌, ◌++◌, length, codes, decimal, Option, Some, None}
use Rattle.std.specs.List.{flat_map}
use Rattle.dim_name.specs.Bytes.{newline}
use Rattle.script_run.specs.declared.reject.Reject.{Reject}
use Rattle.script_tree.specs.declared.script.Section.{Section}
use Rattle.script_tree.specs.declared.script.Section.TheVariants as sections
use Rattle.script_values.specs.declared.load_reason.LoadReason as scripts
use Rattle.script_values.specs.declared.load_reason.LoadReason.TheVariants as stops

-- the name of a section of a script
abbrev pub section_text : Section → List ℕ
section_text sections.Prolog = codes "Prolog"
section_text sections.Body = codes "Data"
section_text sections.Epilog = codes "Epilog"

-- the name of why a load is stopped
abbrev pub cause_text : scripts.LoadReason → List ℕ
cause_text stops.UnknownName = codes "UnknownName"
cause_text stops.NotALeaf = codes "NotALeaf"
cause_text stops.RuleDerived = codes "RuleDerived"
cause_text stops.NotANumber = codes "NotANumber"
cause_text stops.OverWrite = codes "OverWrite"
cause_text stops.ProcessError = codes "ProcessError"
cause_text stops.StepLimit = codes "StepLimit"
cause_text (stops.StoreLimit count) = codes "StoreLimit"
cause_text (stops.FedLimit count) = codes "FedLimit"
cause_text stops.UnsetVariable = codes "UnsetVariable"
cause_text stops.TypeMismatch = codes "TypeMismatch"
cause_text stops.TextLimit = codes "TextLimit"

-- `SECTION record R statement S REASON`
abbrev pub place_text : Section → ℕ → ℕ → scripts.LoadReason → List ℕ
place_text section row statement reason =
    section_text section ++ codes " record " ++ decimal row
    ++ codes " statement " ++ decimal statement ++ codes " " ++ cause_text reason

-- `rejected SECTION record R statement S REASON`
abbrev pub stopped_text : Section → ℕ → ℕ → scripts.LoadReason → List ℕ
stopped_text section row statement reason = codes "rejected " ++ place_text section row statement reason

-- a line of a record that was passed over: `Data record R statement S REASON`
abbrev pub reject_line : Reject → List ℕ
reject_line reject = newline ∷ place_text sections.Body reject.row reject.statement reject.reason

-- ` rejects N`, and a line for each of the records that were passed over
abbrev pub rejects_text : List Reject → List ℕ
rejects_text rejects = codes " rejects " ++ decimal (length rejects) ++ flat_map reject_line rejects

-- what stands behind `committed N` where so many records might be passed over, or where nothing is said of that
abbrev pub told_rejects : Option ℕ → List Reject → List ℕ
told_rejects None rejects = []
told_rejects (Some most) rejects = rejects_text rejects
