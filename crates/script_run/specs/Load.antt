-- A load: its sections, and how it ends.
use Rattle.std.specs.Prelude.{ℕ, nat_lt, ◌+◌, Bool, true, false, ◌&&◌, if◌then◌else◌}
use Rattle.std.specs.Prelude.{List, [], ◌∷◌, ◌++◌, length, map, Option, option_map}
use Rattle.cube_fixed.specs.declared.value.Value.TheVariants.{Num}
use Rattle.user_text.specs.UserText.{set_to}
use Rattle.user_text.specs.declared.command.ParamText.{ParamText}
use Rattle.user_text.specs.declared.command.ParamText.TheVariants as params_of
use Rattle.script_tree.specs.declared.script.Section.{Section}
use Rattle.script_tree.specs.declared.script.Section.TheVariants.{Prolog, Body, Epilog}
use Rattle.script_bound.specs.declared.script.BoundScript.{BoundScript}
use Rattle.script_values.specs.declared.kept.Kept.{Kept}
use Rattle.script_values.specs.declared.kept.Kept.TheVariants as kept
use Rattle.script_values.specs.declared.load_reason.LoadReason.{LoadReason}
use Rattle.script_values.specs.declared.load_reason.LoadReason.TheVariants as reasons
use Rattle.script_values.specs.Cells.{Store, Write}
use Rattle.script_run.specs.declared.ending.Ending.{Ending}
use Rattle.script_run.specs.declared.ending.Ending.TheVariants.{Next, Skipped, Broken, Stopped}
use Rattle.script_run.specs.declared.ran.Ran.{Ran}
use Rattle.script_run.specs.declared.ran.Ran.TheVariants.{Done, Rejected}
use Rattle.script_run.specs.Setting.{Setting, Progress}
use Rattle.script_run.specs.Meaning.{Outcome, Ended, Doing, Deed, then_do, block_of}

-- the most statements that a load executes
abbrev pub most_steps : ℕ
most_steps = 1000000

abbrev pub setting : ℕ → Section → ℕ → List (List ℕ) → Setting
setting decimal section row columns =
    record { section = section; row = row; columns = columns; decimal = decimal }

-- whether a reason lies in the record, so that the record may be passed over for it
abbrev pub is_of_record : LoadReason → Bool
is_of_record reasons.UnknownName = true
is_of_record reasons.NotALeaf = true
is_of_record reasons.RuleDerived = true
is_of_record reasons.NotANumber = true
is_of_record reasons.OverWrite = true
is_of_record reasons.ProcessError = false
is_of_record reasons.StepLimit = false
is_of_record (reasons.StoreLimit count) = false
is_of_record (reasons.FedLimit count) = false
is_of_record reasons.UnsetVariable = true
is_of_record reasons.TypeMismatch = true
is_of_record reasons.TextLimit = false

-- a record is passed over that was begun with this progress and stopped with that one for a reason: the variables are
-- what they were before it
abbrev pub passed_over : LoadReason → Progress → Progress → Progress
passed_over reason before stopped = record {
  variables = before.variables;
  left = stopped.left;
  last = stopped.last;
  rejects = before.rejects
      ++ record { row = stopped.last.row; statement = stopped.last.statement; reason = reason } ∷ [];
}

-- A record was begun with this progress and these writes, and ended so. Where it was stopped for a reason that lies in
-- it, and fewer than so many records were passed over, it is passed over too, and its writes are undone.
abbrev pub tried : ℕ → Progress → List Write → Outcome → Outcome
tried most p w (Ended Next q u) = Ended Next q u
tried most p w (Ended Skipped q u) = Ended Skipped q u
tried most p w (Ended Broken q u) = Ended Broken q u
tried most p w (Ended (Stopped reason) q u) =
    if is_of_record reason && nat_lt (length p.rejects) most then Ended Next (passed_over reason p q) w
    else Ended (Stopped reason) q u

-- Data goes on with the next record, also behind ItemSkip
abbrev pub next_record : Outcome → Doing → Outcome
next_record (Ended Next p w) go = go p w
next_record (Ended Skipped p w) go = go p w
next_record (Ended Broken p w) go = Ended Broken p w
next_record (Ended (Stopped reason) p w) go = Ended (Stopped reason) p w

-- Data, once for each record, which are numbered from here; at most so many are passed over
abbrev pub records : ℕ → ℕ → Deed → Store → ℕ → List (List (List ℕ)) → Doing
records decimal most body store row [] p w = Ended Next p w
records decimal most body store row (columns ∷ rows) p w =
    next_record (tried most p w (body store (setting decimal Body row columns) p w))
    (records decimal most body store (row + 1) rows)

-- the Epilog comes, unless the load was stopped
abbrev pub in_the_end : Outcome → Doing → Outcome
in_the_end (Ended Next p w) go = go p w
in_the_end (Ended Skipped p w) go = go p w
in_the_end (Ended Broken p w) go = go p w
in_the_end (Ended (Stopped reason) p w) go = Ended (Stopped reason) p w

-- Prolog, then Data for each record, then the Epilog
abbrev pub sections : BoundScript → Store → ℕ → ℕ → List (List (List ℕ)) → Doing
sections script store decimal most rows p w =
    in_the_end
    (then_do (block_of script.prolog store (setting decimal Prolog 0 []) p w)
    (records decimal most (block_of script.body) store 1 rows))
    (block_of script.epilog store (setting decimal Epilog 0 []))

abbrev pub param_value : ParamText → Kept
param_value (params_of.Number millionths) = kept.Number (Num millionths)
param_value (params_of.Text bytes) = kept.Text bytes

-- the parameter of this word, if there is one
abbrev pub param_of : List (List ℕ × ParamText) → List ℕ → Option Kept
param_of params word = option_map param_value (set_to params word)

-- before the Prolog the parameters are set, and no other variable is
abbrev pub start : BoundScript → List (List ℕ × ParamText) → Progress
start script params = record {
  variables = map (param_of params) script.variables;
  left = most_steps;
  last = record { section = Prolog; row = 0; statement = 0 };
  rejects = [];
}

-- a load over records whose numbers have this byte between units and decimals, of which at most so many are passed
-- over, from the writes before it
abbrev pub load : BoundScript → List (List ℕ × ParamText) → ℕ → ℕ → List (List (List ℕ)) → Store → List Write
    → Outcome
load script params decimal most rows store writes =
    sections script store decimal most rows (start script params) writes

-- how a load ended that has come so far: its reason says why
abbrev pub ran_at : Ending → Progress → Ran
ran_at Next p = Done p.rejects
ran_at Skipped p = Done p.rejects
ran_at Broken p = Done p.rejects
ran_at (Stopped reason) p = Rejected p.last.section p.last.row p.last.statement reason

abbrev pub ran_of : Outcome → Ran
ran_of (Ended ending p w) = ran_at ending p

abbrev pub writes_of : Outcome → List Write
writes_of (Ended ending p w) = w
