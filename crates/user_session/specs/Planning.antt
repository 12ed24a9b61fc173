-- What a planner's commands do on a version of the numbers.
use Rattle.std.specs.Prelude.{ℕ, nat_lt, ℤ, Bool, ◌&&◌, List, [], ◌∷◌, length, Option, Some, None, ◌++◌, codes}
use Rattle.std.specs.Prelude.{Result, Ok, Err}
use Rattle.std.specs.Prelude.{unwrap_or, if◌then◌else◌}
use Rattle.std.specs.List.{list_all}
use Rattle.std.specs.Arc.{arc_value}
use Rattle.cube_fixed.specs.declared.value.Value.{Value}
use Rattle.cube_fixed.specs.Arithmetic.{zero_value}
use Rattle.cell_reader.specs.FedCount.{fed_count}
use Rattle.cell_reader.specs.WritePermission.{why_closed}
use Rattle.cell_reader.specs.declared.write_permission.Closed.{Closed}
use Rattle.cell_reader.specs.declared.write_permission.Closed.TheVariants as closed
use Rattle.cell_spread.specs.Spread.{refusal_of, writes_of as shares_of}
use Rattle.cell_spread.specs.declared.fault.SpreadFault.{SpreadFault}
use Rattle.cell_spread.specs.declared.writes.How.{How}
use Rattle.cell_spread.specs.declared.writes.How.TheVariants as ways
use Rattle.cell_store.specs.declared.entry.Entry.{Entry}
use Rattle.cell_store.specs.Entries.{after_writes}
use Rattle.cell_store.specs.StoreLimit.{most_cells}
use Rattle.cell_writes.specs.Writes.{last_writes}
use Rattle.cube_space.specs.Cells.{is_leaf_cell, size_of}
use Rattle.cube_space.specs.Layout.{Layout}
use Rattle.feed_map.specs.FedCells.{most_fed}
use Rattle.history.specs.declared.effect.Effect.{Effect}
use Rattle.history.specs.declared.effect.Effect.TheVariants as effects
use Rattle.load_cells.specs.Loads.{store_of}
use Rattle.user_text.specs.Jobs.{rows_in}
use Rattle.user_text.specs.declared.load_job.LoadJob.{LoadJob}
use Rattle.rule_laws.specs.RuleSystem.{dense_value}
use Rattle.rule_model.specs.BoundModel.{BoundModel}
use Rattle.rule_model.specs.Named.{cell_named}
use Rattle.rule_model.specs.System.{system_of}
use Rattle.script_run.specs.Load.{load, ran_of, writes_of}
use Rattle.script_run.specs.declared.ran.Ran.{Ran}
use Rattle.script_run.specs.declared.ran.Ran.TheVariants.{Done, Rejected as Stopped}
use Rattle.script_bound.specs.declared.script.BoundScript.{BoundScript}
use Rattle.stored_laws.specs.Stored.{stored_in}
use Rattle.trace_text.specs.TraceText.{reply_text as traced_text}
use Rattle.user_session.specs.declared.content.Content.{Content}
use Rattle.user_session.specs.Replies.{fault_text, reply_text, spread_fault_text}
use Rattle.user_session.specs.RejectedLoad.{stopped_text, told_rejects}
use Rattle.user_session.specs.declared.command.PlanCommand.{PlanCommand}
use Rattle.user_session.specs.declared.command.PlanCommand.TheVariants.{Put, Get, Load, View, Spread, Trace, Fixed}
use Rattle.user_session.specs.declared.reply.CommandReason.{CommandReason}
use Rattle.user_session.specs.declared.reply.CommandReason.TheVariants.{UnknownName, NotALeaf, RuleDerived}
use Rattle.user_session.specs.declared.reply.CommandReason.TheVariants.{StoreLimit, FedLimit}
use Rattle.user_session.specs.declared.reply.Reply.TheVariants.{Committed, Rejected, Found, Refused}
use Rattle.user_text.specs.declared.command.CellText.{CellText}
use Rattle.user_text.specs.declared.command.SpreadWord.{SpreadWord}
use Rattle.user_text.specs.declared.command.SpreadWord.TheVariants as words
use Rattle.user_text.specs.declared.command.ViewText.{ViewText}
use Rattle.view_query.specs.Binding.{bound}
use Rattle.view_query.specs.Table.{table_text}
use Rattle.view_query.specs.declared.fault.ViewFault.{ViewFault}
use Rattle.view_query.specs.declared.shape.View as views

-- the cell that a command names
abbrev pub named_cell : BoundModel → CellText → Option ℕ
named_cell model text = cell_named model.space text.cube text.elements

-- the value of a cell by the rules: what plain rounds of evaluation over all cells give it
abbrev pub value_at : Content → ℕ → Value
value_at content = dense_value (system_of content.model) (stored_in content.stored)

-- the value of the cell of a number, 0 where there is none
abbrev pub cell_value : Content → ℕ → Value
cell_value content cell = if nat_lt cell (size_of content.model.space) then value_at content cell else zero_value

-- what a command does: the writes of cells and the text of the reply
abbrev pub PlanEffect : Type 0
PlanEffect = Effect (List (ℕ × ℤ)) (List ℕ)

abbrev pub rejected : CommandReason → PlanEffect
rejected reason = effects.Rejected (reply_text (Rejected reason))

abbrev pub committed : List (ℕ × ℤ) → PlanEffect
committed writes = effects.Commit writes (reply_text (Committed (length writes)))

-- the limit that is passed where this is stored, if one is: that of the stored cells goes before that of the fed ones
abbrev pub passed_limit : BoundModel → List Entry → Option CommandReason
passed_limit model stored =
    if nat_lt most_cells (length stored) then Some StoreLimit
    else if nat_lt most_fed (fed_count model stored) then Some FedLimit
    else None

-- the writes are committed, unless there is a reason against them
abbrev pub unless_reason : Option CommandReason → List (ℕ × ℤ) → PlanEffect
unless_reason None writes = committed writes
unless_reason (Some reason) writes = rejected reason

-- these writes, into leaf cells that take numbers: committed, unless more than may be are stored or fed with them
abbrev pub write_effect : Content → List (ℕ × ℤ) → PlanEffect
write_effect content writes = unless_reason (passed_limit content.model (after_writes content.stored writes)) writes

-- why a command that writes into a closed cell is rejected
abbrev pub reason_of : Closed → CommandReason
reason_of closed.NotALeaf = NotALeaf
reason_of closed.RuleDerived = RuleDerived

-- what comes of a write, unless the cell is closed
abbrev pub unless_closed : Option Closed → PlanEffect → PlanEffect
unless_closed None written = written
unless_closed (Some why) written = rejected (reason_of why)

-- a number that is put into a cell: the first reason that holds against it, or the one write
abbrev pub put_effect : Content → Option ℕ → ℤ → PlanEffect
put_effect content None number = rejected UnknownName
put_effect content (Some cell) number =
    unless_closed (why_closed content.model cell) (write_effect content ((cell, number) ∷ []))

-- a question for the value of a cell
abbrev pub get_effect : Content → Option ℕ → PlanEffect
get_effect content None = effects.Read (reply_text (Refused UnknownName))
get_effect content (Some cell) = effects.Read (reply_text (Found (value_at content cell)))

-- a load that ended so, where so many records might be passed over, if that was said: for each cell that it wrote, by
-- number, the last number written; or nothing
abbrev pub ended_effect : Option ℕ → Ran → List (ℕ × ℤ) → PlanEffect
ended_effect most (Done rejects) writes =
    effects.Commit (last_writes writes)
    (reply_text (Committed (length (last_writes writes))) ++ told_rejects most rejects)
ended_effect most (Stopped section row statement reason) writes =
    effects.Rejected (stopped_text section row statement reason)

-- a load of a script over records, from no writes
abbrev pub load_effect : Content → LoadJob → BoundScript → PlanEffect
load_effect content job script =
    let most = unwrap_or job.rejects 0 in
    let outcome = load script job.params job.decimal most (rows_in job) (store_of content.model content.stored) [] in
    ended_effect job.rejects (ran_of outcome) (writes_of outcome)

-- a question for a table: the table that its text means, or why it means none
abbrev pub table_effect : Content → Result views.View ViewFault → PlanEffect
table_effect content (Ok view) = effects.Read (table_text content.model.space view (value_at content))
table_effect content (Err fault) = effects.Read (codes "refused " ++ fault_text fault)

abbrev pub view_effect : Content → ViewText → PlanEffect
view_effect content text = table_effect content (bound content.model.space text)

-- what each leaf cell below gets, by the word of the command
abbrev pub how_of : SpreadWord → How
how_of words.Equal = ways.Equal
how_of words.Proportional = ways.Proportional

-- what comes of the shares of an amount, unless it can't be spread
abbrev pub unless_fault : Option SpreadFault → PlanEffect → PlanEffect
unless_fault None written = written
unless_fault (Some fault) written = effects.Rejected (codes "rejected " ++ spread_fault_text fault)

-- an amount that is spread over the leaf cells below a cell: the first reason that holds against it, or the write of
-- each share
abbrev pub spread_effect : Content → Option ℕ → ℤ → SpreadWord → PlanEffect
spread_effect content None amount how = rejected UnknownName
spread_effect content (Some cell) amount how =
    unless_fault (refusal_of content.model content.stored cell amount (how_of how))
    (write_effect content (shares_of content.model.space content.stored cell amount (how_of how)))

-- a question for why a cell has its value, where these are the names of the rule files, one of each cube
abbrev pub trace_effect : Content → List (List ℕ) → Option ℕ → PlanEffect
trace_effect content files None = effects.Read (reply_text (Refused UnknownName))
trace_effect content files (Some cell) = effects.Read (traced_text content.model content.stored files cell)

-- whether each of these writes is of a leaf cell
abbrev pub all_leaf_cells : Layout → List (ℕ × ℤ) → Bool
all_leaf_cells space writes =
    list_all (λ write. nat_lt write.0 (size_of space) && is_leaf_cell space write.0) writes

-- the first reason against these writes on this content: one is of no leaf cell, or a limit is passed with them
abbrev pub misfit : Content → List (ℕ × ℤ) → Option CommandReason
misfit content writes = if all_leaf_cells content.model.space writes
    then passed_limit content.model (after_writes content.stored writes) else Some UnknownName

-- writes that are fixed beforehand: just these, or none
abbrev pub fixed_effect : Content → List (ℕ × ℤ) → PlanEffect
fixed_effect content writes = unless_reason (misfit content writes) writes

-- what a command does on this content
abbrev pub effect : Content → PlanCommand → PlanEffect
effect content (Put text number) = put_effect content (named_cell content.model text) number
effect content (Get text) = get_effect content (named_cell content.model text)
effect content (Load job script) = load_effect content job (arc_value script)
effect content (View text) = view_effect content text
effect content (Spread text amount how) = spread_effect content (named_cell content.model text) amount how
effect content (Trace text files) = trace_effect content (arc_value files) (named_cell content.model text)
effect content (Fixed writes) = fixed_effect content writes
