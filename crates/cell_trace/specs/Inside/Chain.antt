-- The statements of the cell's cube from a place on.
use Rattle.std.specs.Prelude.{◌≡◌, ◌+◌, ◌<◌, ◌≤◌, ◌^◌, ℕ, suc, Bool, Some, All, length, drop, reverse, slice_get}
use Rattle.std.specs.Prelude.{List, [], ◌∷◌, ◌++◌, ◌&&◌, ◌||◌, if◌then◌else◌}
use Rattle.cube_fixed.specs.declared.value.Value.{Value}
use Rattle.cube_space.specs.Cells.{is_leaf_cell}
use Rattle.rule_laws.specs.Meaning.{precedents}
use Rattle.rule_model.specs.declared.rules.Statement.{Statement}
use Rattle.rule_model.specs.Governing.{governing_from, formula_at}
use Rattle.cell_trace.specs.declared.chain.Chain.{Chain}
use Rattle.cell_trace.specs.declared.chain.Found.{Found}
use Rattle.cell_trace.specs.declared.entered.Entered.{Entered}
use Rattle.cell_trace.specs.declared.next.Next.{Next}
use Rattle.cell_trace.specs.Trace.{first_number, reaches_own, reaches_rest, statements, takes_own, value_of}
use Rattle.cell_trace.specs.Visits.{Visit, visit}
use Rattle.cell_trace.specs.Inside.Entering.{entered}
use Rattle.cell_trace.specs.Inside.Items.{IsListable}
use Rattle.cell_trace.specs.Inside.Place.{Place, given_at, scene_at}

abbrev pub statements_from : Place → ℕ → List Statement
statements_from p place = drop place (statements (scene_at p))

-- what they give the cell, those that are entered, and whether the cell's own value is taken
unfoldable pub value_from : Place → ℕ → Value
value_from p place = value_of (scene_at p) (statements_from p place)

unfoldable pub entered_from : Place → ℕ → List Entered
entered_from p place = entered (scene_at p) place (statements_from p place)

unfoldable pub takes_from : Place → ℕ → Bool
takes_from p place = takes_own (scene_at p) (statements_from p place)

-- the statement at its place has this part for the cell
pub record IsPart (p : Place) (next : Next) : Type 0 where
  pub formula : formula_at p.version.model p.cell next.place ≡ Some next.formula.now
  pub first : (statement : Statement) → slice_get (statements (scene_at p)) next.place ≡ Some statement
      → next.first ≡ first_number (is_leaf_cell p.version.model.space p.cell) statement
  pub within : next.place < length (statements (scene_at p))
  pub few_statements : length (statements (scene_at p)) < 2 ^ 32
  pub from_one : 0 < next.first
  pub few_references : next.first + length (precedents next.formula.now) ≤ 2 ^ 32

-- it is the first from this place on that has a part for the cell
pub record IsNext (p : Place) (from : ℕ) (next : Next) : Type 0 where
  pub governs : governing_from p.version.model p.cell from ≡ Some next.place
  pub part : IsPart p next

-- what its formula gives before the statements after it, and what evaluation reaches in it
abbrev pub visit_at : Place → Next → Visit
visit_at p next = visit (given_at p (value_from p (suc next.place))) next.formula.now

-- that was found
pub record IsFound (v : Visit) (found : Found) : Type 0 where
  pub value : found.value ≡ v.value
  pub visited : found.visited ≡ v.items

-- whether the cell's own value is taken by a statement of which this is found or by those after it, and which of these
-- are entered, the last first
abbrev pub takes_with : Found → Chain → Bool
takes_with found later = reaches_own found.visited || (reaches_rest found.visited && later.takes_own)

abbrev pub entered_with : Next → Found → Chain → List Entered
entered_with next found later =
    (if reaches_rest found.visited then later.entered.items else [])
    ++ record { place = next.place; first = next.first; visited = found.visited } ∷ []

-- what is found of the statements from a place on; those that are entered are found last first
pub record IsChain (p : Place) (place : ℕ) (chain : Chain) : Type 0 where
  pub value : chain.value ≡ value_from p place
  pub takes_own : chain.takes_own ≡ takes_from p place
  pub entered : reverse chain.entered.items ≡ entered_from p place
  pub listable : All (IsListable p) chain.entered.items
