-- What the statements of a load do.
use Rattle.std.specs.Prelude.{ℕ, zero, suc, Bool, true, false, List, [], ◌∷◌, map, Option, Some, None, slice_set}
use Rattle.std.specs.Prelude.{Result, Ok, Err}
use Rattle.cube_fixed.specs.declared.value.Value.{Value}
use Rattle.cube_fixed.specs.Arithmetic.{sum_of}
use Rattle.script_tree.specs.declared.script.Section.{Section}
use Rattle.script_tree.specs.declared.script.Section.TheVariants.{Prolog, Body, Epilog}
use Rattle.script_bound.specs.declared.term.Term.{Term}
use Rattle.script_bound.specs.declared.statement.Case.{Case}
use Rattle.script_bound.specs.declared.statement.Case.TheFolds.{fold-Case, fold-Statement}
use Rattle.script_bound.specs.declared.statement.Case.TheOpen.{Case-F, Statement-F}
use Rattle.script_bound.specs.declared.statement.Statement.{Statement}
use Rattle.script_values.specs.declared.datum.Datum.{Datum}
use Rattle.script_values.specs.declared.datum.Datum.TheVariants as data_of
use Rattle.script_values.specs.declared.kept.Kept.{Kept}
use Rattle.script_values.specs.declared.kept.Kept.TheVariants as kept
use Rattle.script_values.specs.declared.load_reason.LoadReason.{LoadReason}
use Rattle.script_values.specs.declared.load_reason.LoadReason.TheVariants.{UnknownName, ProcessError, StepLimit}
use Rattle.script_values.specs.declared.load_reason.LoadReason.TheVariants.{TypeMismatch}
use Rattle.script_values.specs.Cells.{Store, Write, writing, zeroing, refusal, writes_after}
use Rattle.script_values.specs.Scene.{Scene}
use Rattle.script_values.specs.Values.{amount, truth, taken, one_and_other, cell_value, each_text, value_of}
use Rattle.script_run.specs.declared.ending.Ending.{Ending}
use Rattle.script_run.specs.declared.ending.Ending.TheVariants.{Next, Skipped, Broken, Stopped}
use Rattle.script_run.specs.declared.execution_place.ExecutionPlace.{ExecutionPlace}
use Rattle.script_run.specs.Setting.{Setting, Progress}

-- how a part of a load ended, how far the load has come by then, and its writes so far
pub data Outcome : Type 0 where
  Ended : Ending → Progress → List Write → Outcome

-- what is done from here on
abbrev pub Doing : Type 0
Doing = Progress → List Write → Outcome

-- what a statement does
abbrev pub Deed : Type 0
Deed = Store → Setting → Doing

abbrev pub stopped : LoadReason → Doing
stopped reason p w = Ended (Stopped reason) p w

-- and then
abbrev pub then_do : Outcome → Doing → Outcome
then_do (Ended Next p w) go = go p w
then_do (Ended Skipped p w) go = Ended Skipped p w
then_do (Ended Broken p w) go = Ended Broken p w
then_do (Ended (Stopped reason) p w) go = Ended (Stopped reason) p w

-- ---- executions

pub data Begun : Type 0 where
  Begins : Bool → Progress → Begun

abbrev pub begun_with : ℕ → ExecutionPlace → Progress → Begun
begun_with zero place p = Begins false p
begun_with (suc left) place p =
    Begins true (record { variables = p.variables; left = left; last = place; rejects = p.rejects })

-- one execution more, if one is left
abbrev pub begin : ExecutionPlace → Progress → Begun
begin place p = begun_with p.left place p

abbrev pub once : Begun → List Write → Doing → Outcome
once (Begins true p) w go = go p w
once (Begins false p) w go = Ended (Stopped StepLimit) p w

abbrev pub place_of : Setting → ℕ → ExecutionPlace
place_of here number = record { section = here.section; row = here.row; statement = number }

-- as one execution of the statement of this number
unfoldable pub executed : ℕ → Deed → Deed
executed number deed store here p w = once (begin (place_of here number) p) w (deed store here)

-- ---- what statements take of the cells and variables

-- outside of Data there is no record
abbrev pub columns_in : Section → List (List ℕ) → Option (List (List ℕ))
columns_in Prolog columns = None
columns_in Body columns = Some columns
columns_in Epilog columns = None

abbrev pub scene_of : Setting → Progress → Scene
scene_of here p = record {
  variables = p.variables;
  columns = columns_in here.section here.columns;
  decimal = here.decimal;
}

-- what a variable holds after this is assigned to it
abbrev pub as_kept : Datum → Result Kept LoadReason
as_kept (data_of.Number value) = Ok (kept.Number value)
as_kept (data_of.Text bytes) = Ok (kept.Text bytes)
as_kept (data_of.Column bytes decimal) = Ok (kept.Text bytes)
as_kept (data_of.Truth truth) = Err TypeMismatch

-- what an expression gives here
abbrev pub given : Term → Store → Setting → Progress → List Write → Result Datum LoadReason
given term store here p w = value_of term (scene_of here p) store w

abbrev pub kept_in : ℕ → Result Kept LoadReason → Doing
kept_in place (Ok value) p w = Ended Next (record {
  variables = slice_set p.variables place (Some value);
  left = p.left;
  last = p.last;
  rejects = p.rejects;
}) w
kept_in place (Err reason) p w = Ended (Stopped reason) p w

unfoldable pub assign : ℕ → Term → Deed
assign place term store here p w = kept_in place (taken as_kept (given term store here p w)) p w

-- a number and the names of a cell, from left to right
abbrev pub arguments : Term → List Term → Scene → Store → List Write → Result (Value × List (List ℕ)) LoadReason
arguments value names scene store w =
    one_and_other (λ number texts. (number, texts)) (amount (value_of value scene store w))
    (each_text (map value_of names) scene store w)

-- the writes with one more
abbrev pub with_write : Store → List Write → List (List ℕ) → Value → Result (List Write) LoadReason
with_write store w [] value = Err UnknownName
with_write store w (cube ∷ elements) value = writing store w cube elements value

abbrev pub put_arguments : Store → List Write → Value × List (List ℕ) → Result (List Write) LoadReason
put_arguments store w given = with_write store w given.1 given.0

-- the cell's value plus the number
abbrev pub increment_arguments : Store → List Write → Value × List (List ℕ) → Result (List Write) LoadReason
increment_arguments store w given =
    taken (λ before. with_write store w given.1 (sum_of before given.0)) (cell_value store w given.1)

abbrev pub ending_of : Option LoadReason → Ending
ending_of None = Next
ending_of (Some reason) = Stopped reason

-- a write is made or refused
abbrev pub wrote : Result (List Write) LoadReason → Doing
wrote written p w = Ended (ending_of (refusal written)) p (writes_after w written)

unfoldable pub put : Term → List Term → Deed
put value names store here p w =
    wrote (taken (put_arguments store w) (arguments value names (scene_of here p) store w)) p w

unfoldable pub increment : Term → List Term → Deed
increment value names store here p w =
    wrote (taken (increment_arguments store w) (arguments value names (scene_of here p) store w)) p w

-- the writes with those that zero out the cell of these names
abbrev pub zeroing_arguments : Store → List Write → List (List ℕ) → Result (List Write) LoadReason
zeroing_arguments store w [] = Err UnknownName
zeroing_arguments store w (cube ∷ elements) = zeroing store w cube elements

unfoldable pub zero_out : List Term → Deed
zero_out names store here p w =
    wrote (taken (zeroing_arguments store w) (each_text (map value_of names) (scene_of here p) store w)) p w

abbrev pub end_with : Ending → Deed
end_with ending store here p w = Ended ending p w

-- ---- statements in statements

-- statements, one behind the other
abbrev pub block : List Deed → Deed
block [] store here p w = Ended Next p w
block (deed ∷ deeds) store here p w = then_do (deed store here p w) (block deeds store here)

-- a block of an IF: whether it is the one, and what it does
pub record CaseDeed : Type 0 where
  pub holds : Store → Setting → Progress → List Write → Result Bool LoadReason
  pub deed : Deed

abbrev pub where_holds : Result Bool LoadReason → Doing → Doing → Doing
where_holds (Ok true) holding otherwise p w = holding p w
where_holds (Ok false) holding otherwise p w = otherwise p w
where_holds (Err reason) holding otherwise p w = Ended (Stopped reason) p w

-- the first case that holds
abbrev pub choose : List CaseDeed → Deed
choose [] store here p w = Ended Next p w
choose (case ∷ cases) store here p w =
    where_holds (case.holds store here p w) (case.deed store here) (choose cases store here) p w

-- A WHILE with at most so many tests: each is an execution, and where it holds the block and the WHILE again follow.
-- No more executions are begun than are left.
abbrev pub turns : ℕ → ℕ → Term → Deed → Deed
turns zero number test deed store here p w = Ended (Stopped StepLimit) p w
turns (suc most) number test deed store here p w =
    once (begin (place_of here number) p) w
    (λ q v. where_holds (truth (given test store here q v))
    (λ r u. then_do (deed store here r u) (turns most number test deed store here))
    (end_with Next store here) q v)

abbrev pub case_step : Case-F CaseDeed Deed → CaseDeed
case_step (Case-F.When test deeds) = record {
  holds = λ store here p w. truth (given test store here p w);
  deed = block deeds;
}
case_step (Case-F.Otherwise deeds) = record { holds = λ store here p w. Ok true; deed = block deeds }

abbrev pub statement_step : Statement-F CaseDeed Deed → Deed
statement_step (Statement-F.Assign number place term) = executed number (assign place term)
statement_step (Statement-F.Put number value names) = executed number (put value names)
statement_step (Statement-F.Increment number value names) = executed number (increment value names)
statement_step (Statement-F.ZeroOut number names) = executed number (zero_out names)
statement_step (Statement-F.Skip number) = executed number (end_with Skipped)
statement_step (Statement-F.Break number) = executed number (end_with Broken)
statement_step (Statement-F.Error number) = executed number (end_with (Stopped ProcessError))
statement_step (Statement-F.If number cases) = executed number (choose cases)
statement_step (Statement-F.While number test deeds) =
    λ store here p w. turns p.left number test (block deeds) store here p w

-- what a statement does
abbrev pub deed_of : Statement → Deed
deed_of = fold-Statement CaseDeed Deed case_step statement_step

abbrev pub case_deed : Case → CaseDeed
case_deed = fold-Case CaseDeed Deed case_step statement_step

abbrev pub block_of : List Statement → Deed
block_of statements = block (map deed_of statements)
