-- The states of the work on a question.
use Rattle.std.specs.Prelude.{◌≡◌, ℕ, ◌≤◌, Bool, false, not, ◌&&◌, ℤ, List, ◌∷◌, filter, All, Option, Some, None}
use Rattle.std.specs.Prelude.{is_some, unsigned_abs}
use Rattle.std.specs.Option.{option_map_or}
use Rattle.cell_store.specs.Entries.{cells_of}
use Rattle.cell_versions.specs.Versions.{NumberedVersion}
use Rattle.cube_fixed.specs.Total.{Total}
use Rattle.cube_space.specs.Cells.{IsCell}
use Rattle.rule_evaluate.specs.declared.ask.Ask.{Ask}
use Rattle.rule_evaluate.specs.declared.ask.Ask.TheVariants.{Value as of_value}
use Rattle.rule_evaluate.specs.Known.{Known, listed, is_same}
use Rattle.rule_model.specs.Governing.{governing_from}
use Rattle.rule_model.specs.Weights.{most_weight_product}
use Rattle.sparse_sum.specs.Walking.{left}
use Rattle.cell_values.specs.declared.frames.Evaluation.{Evaluation}
use Rattle.cell_values.specs.declared.frames.LeafSum.{LeafSum}
use Rattle.cell_values.specs.declared.frames.ComponentSum.{ComponentSum}
use Rattle.cell_values.specs.declared.frames.Frame.{Frame}
use Rattle.cell_values.specs.declared.frames.Frame.TheVariants as frame
use Rattle.cell_values.specs.Reading.{AreValuesOn}
use Rattle.cell_values.specs.Inside.Questions.{Setting, IsQuestion, answer_on, asks_on, components_on, cost_on}
use Rattle.cell_values.specs.Inside.Questions.{values_of, LeadsTo}
use Rattle.cell_values.specs.Inside.Sums.{IsSum}

-- the listed answers are right
abbrev pub AreRight : NumberedVersion → Known → Type 0
AreRight version known = All (λ entry. entry.1 ≡ answer_on version entry.0) known

-- a question is open: no answer to it is listed, and it isn't asked right now
abbrev pub is_open : Known → Option Ask → Ask → Bool
is_open known asked question =
    not (is_some (listed known question)) && not (option_map_or (λ ask. is_same ask question) asked false)

unfoldable pub open_asks : NumberedVersion → Known → Option Ask → ℕ → List Ask
open_asks version known asked cell = filter (is_open known asked) (asks_on version (of_value cell))

-- the leaf cells and the components that are still to come
abbrev pub leaves_left : NumberedVersion → LeafSum → List (ℕ × ℤ)
leaves_left version sum = left version.model.space (cells_of version.stored) version.fed sum.walk

abbrev pub components_left : NumberedVersion → ComponentSum → List (ℕ × ℤ)
components_left version sum = components_on version sum.cell sum.dim sum.next

-- an evaluation of a cell's statements, from the one that governs it on, with right answers, and with questions that
-- it leads to
pub record IsEvaluating (version : NumberedVersion) (evaluation : Evaluation) (question : Ask) : Type 0 where
  pub asked : question ≡ of_value evaluation.cell
  pub is_cell : IsCell version.model.space evaluation.cell
  pub governs : governing_from version.model evaluation.cell 0 ≡ Some evaluation.statement
  pub right : AreRight version evaluation.known.items
  pub pending : All (LeadsTo version evaluation.cell) evaluation.pending.items

-- the frame is a state of the work on the question
abbrev pub IsWork : NumberedVersion → Frame → Ask → Type 0
IsWork version (frame.Evaluation e) question = IsEvaluating version e question × (e.asked ≡ None)
IsWork version (frame.Leaves s) question =
    IsCell version.model.space s.walk.cell × IsSum version s.walk.total (leaves_left version s) question
IsWork version (frame.Components s) question =
    IsCell version.model.space s.cell × IsSum version s.sum (components_left version s) question

-- a sum waits for the value of a cell that counts so often
abbrev pub IsSumBut : NumberedVersion → Total → ℤ → List (ℕ × ℤ) → Ask → Ask → Type 0
IsSumBut version total weight pairs question next =
    (unsigned_abs weight ≤ most_weight_product)
    × ((cell : ℕ) × (next ≡ of_value cell) × IsSum version total ((cell, weight) ∷ pairs) question)

-- the frame is a state of the work on the first question, and waits for the answer to the second
abbrev pub IsWaiting : NumberedVersion → Frame → Ask → Ask → Type 0
IsWaiting version (frame.Evaluation e) question next = IsEvaluating version e question × (e.asked ≡ Some next)
IsWaiting version (frame.Leaves s) question next =
    IsCell version.model.space s.walk.cell
    × IsSumBut version s.walk.total s.weight (leaves_left version s) question next
IsWaiting version (frame.Components s) question next =
    IsCell version.model.space s.cell × IsSumBut version s.sum s.weight (components_left version s) question next

abbrev pub Serves : Setting → Frame → Ask → Type 0
Serves w f question = AreValuesOn w.version w.values × IsWork w.version f question

abbrev pub Waits : Setting → Frame → Ask → Ask → Type 0
Waits w f question next = IsQuestion w next × IsWaiting w.version f question next

-- the work that a frame has left
abbrev pub work_left : NumberedVersion → Frame → ℕ
work_left version (frame.Evaluation e) = cost_on version (open_asks version e.known.items e.asked e.cell)
work_left version (frame.Leaves s) = cost_on version (values_of (leaves_left version s))
work_left version (frame.Components s) = cost_on version (values_of (components_left version s))
