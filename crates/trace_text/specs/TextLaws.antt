-- The text of a trace has as many lines as it says.
use Rattle.std.specs.Prelude.{◌≡◌, ℕ, ◌==◌, List, ◌∷◌, ◌++◌, length, codes, decimal}
use Rattle.std.specs.List.{slice_split}
use Rattle.cell_store.specs.declared.entry.Entry.{Entry}
use Rattle.cube_space.specs.Cells.{IsCell}
use Rattle.dim_name.specs.Bytes.{newline}
use Rattle.rule_model.specs.BoundModel.{BoundModel}
use Rattle.rule_model.specs.Conditions.{AreRules}
use Rattle.trace_text.specs.TraceText.{reply_text}

-- between its line ends the text has `trace N`, and N more lines
pub record HasTheLinesItSays (text : List ℕ) : Type 0 where
  pub lines : List (List ℕ)
  pub between : slice_split (λ byte. byte == newline) text ≡ (codes "trace " ++ decimal (length lines)) ∷ lines

abbrev pub TracesHaveTheLinesTheySay : Type 0
TracesHaveTheLinesTheySay =
    (model : BoundModel) (stored : List Entry) (files : List (List ℕ)) (cell : ℕ)
    → HasTheLinesItSays (reply_text model stored files cell)

-- after the one text and after the other a line ends: then both are the same, and what follows too
abbrev pub EndAlike : List ℕ → List ℕ → Type 0
EndAlike a b = (x y : List ℕ) → a ++ newline ∷ x ≡ b ++ newline ∷ y → (a ≡ b) × (x ≡ y)

abbrev pub TracesEndAlike : Type 0
TracesEndAlike =
    (model : BoundModel) (stored stored_too : List Entry) (files : List (List ℕ)) (cell : ℕ)
    → AreRules model.space model.rules → IsCell model.space cell
    → EndAlike (reply_text model stored files cell) (reply_text model stored_too files cell)
