-- A snapshot and a content may go to another thread, and several threads may share one.
use denote.RattleType.{RattleType}
use denote.Param.Send.{IsSend, IsSync, part_keyless, sendable}
use Rattle.std.proofs.Crossing.{crosses}
use Rattle.std.proofs.MapsCrossing.{BTreeMap-send, BTreeMap-sync}
use Rattle.std.proofs.option.Option.TheSendSync as option
use Rattle.lists.proofs.list.ListOf.TheSendSync as list
use Rattle.sqlite_items.proofs.boxed.Boxed.TheSendSync as boxed
use Rattle.cube_fixed.proofs.money.Money.TheSendSync as money
use Rattle.cube_fixed.proofs.value.Value.TheSendSync as value
use Rattle.rule_laws.proofs.formula.Formula.TheLaws.TheKnot as formula
use Rattle.rule_laws.proofs.operation.Op.TheSendSync as op
use Rattle.rule_laws.proofs.operation.Fun.TheSendSync as fun
use Rattle.rule_laws.proofs.operation.Rel.TheSendSync as rel
use Rattle.rule_laws.proofs.reference.Reference.TheSendSync as reference
use Rattle.rule_laws.specs.contracts.formula.Formula as Formula
use Rattle.rule_model.proofs.area.Area.TheSendSync as area
use Rattle.rule_model.proofs.order.Order.TheSendSync as order
use Rattle.rule_model.proofs.rules.Feeder.TheSendSync as feeder
use Rattle.rule_model.proofs.rules.Form.TheSendSync as form
use Rattle.rule_model.proofs.words.Words.TheSendSync as words
use Rattle.rule_model.specs.contracts.rules.Statement as Statement
use Rattle.rule_model.specs.contracts.rules.CubeRules as CubeRules
use Rattle.rule_model.specs.contracts.model.Model as Model
use Rattle.cube_space.proofs.space.Space.TheSendSync as space
use Rattle.dim_weights.proofs.weights.Weights.TheSendSync as weights
use Rattle.cell_store.proofs.store.Store.TheSendSync as store
use Rattle.feed_map.proofs.fed.Feeding.TheSendSync as feeding
use Rattle.feed_sources.proofs.above.Above.TheSendSync as above
use Rattle.feed_sources.specs.contracts.source_model.SourceModel as SourceModel
use Rattle.accepted.specs.contracts.accepted_model.Accepted as Accepted
use Rattle.cell_versions.specs.contracts.version.Version as Version
use Rattle.atomic_table.proofs.shared.Shared.TheSendSync as table
use Rattle.atomic_table.proofs.shared.Seat.TheSendSync as seat
use Rattle.atomic_table.proofs.send_lease.SendLease.TheSendSync as lease
use Rattle.atomic_table.specs.contracts.shared.Seat as Seat
use Rattle.memo_cells.specs.contracts.memo.Memo as Memo
use Rattle.memo_cells.specs.contracts.shared.SharedMemo as SharedMemo
use Rattle.cell_reader.specs.contracts.snapshot.Snapshot as Snapshot
use Rattle.user_session.specs.contracts.content.Content as Content
use Rattle.sqlite_items.proofs.items.Items.TheSendSync as items
use Rattle.script_bound.proofs.term.Term.TheLaws.TheKnot as term
use Rattle.script_bound.proofs.statement.Case.TheLaws.TheKnot as statements
use Rattle.script_bound.specs.contracts.term.Term as Term
use Rattle.script_bound.specs.contracts.statement.Statement as ScriptStatement
use Rattle.script_bound.specs.contracts.script.BoundScript as BoundScript
use Rattle.user_text.proofs.command.CellText.TheSendSync as cell_text
use Rattle.user_text.proofs.command.SpreadWord.TheSendSync as spread_word
use Rattle.user_text.proofs.command.ViewText.TheSendSync as view_text
use Rattle.user_text.proofs.command.ParamText.TheSendSync as param_text
use Rattle.user_text.specs.contracts.load_job.LoadJob as LoadJob
use Rattle.user_text.specs.contracts.load_params.LoadParams as LoadParams
use Rattle.word_table.specs.contracts.table.WordTable as WordTable
use Rattle.user_session.specs.contracts.command.PlanCommand as PlanCommand

-- each step is a lemma, since a `search` that goes down through all of them runs out of steps
ruleset parts = (sendable, crosses, option.the_send, option.the_sync, option.the_field_send, option.the_field_sync, list.the_send, list.the_sync)

Formula-send : IsSend Formula.the_row
Formula-send =
    search (parts, formula.send-Formula, money.the_send, op.the_field_send, fun.the_field_send, rel.the_field_send, reference.the_field_send, boxed.the_send) depth 20

Formula-sync : IsSync Formula.the_row
Formula-sync =
    search (parts, formula.sync-Formula, money.the_sync, op.the_field_sync, fun.the_field_sync, rel.the_field_sync, reference.the_field_sync, boxed.the_sync) depth 20

Statement-send : IsSend Statement.the_row
Statement-send = search (parts, Formula-send, area.the_field_send, form.the_field_send) depth 20

Statement-sync : IsSync Statement.the_row
Statement-sync = search (parts, Formula-sync, area.the_field_sync, form.the_field_sync) depth 20

CubeRules-send : IsSend CubeRules.the_row
CubeRules-send = search (parts, Statement-send, feeder.the_send, order.the_field_send) depth 20

CubeRules-sync : IsSync CubeRules.the_row
CubeRules-sync = search (parts, Statement-sync, feeder.the_sync, order.the_field_sync) depth 20

Model-send : IsSend Model.the_row
Model-send = search (parts, CubeRules-send, space.the_send, weights.the_send, words.the_field_send) depth 20

Model-sync : IsSync Model.the_row
Model-sync = search (parts, CubeRules-sync, space.the_sync, weights.the_sync, words.the_field_sync) depth 20

pub Content-send : IsSend Content.the_row
Content-send = search (parts, Model-send, store.the_send) depth 20

pub Content-sync : IsSync Content.the_row
Content-sync = search (parts, Model-sync, store.the_sync) depth 20

SourceModel-send : IsSend SourceModel.the_row
SourceModel-send = search (parts, Model-send, above.the_send) depth 20

SourceModel-sync : IsSync SourceModel.the_row
SourceModel-sync = search (parts, Model-sync, above.the_sync) depth 20

Accepted-send : IsSend Accepted.the_row
Accepted-send = search (parts, SourceModel-send, feeding.the_send, feeding.the_field_send) depth 20

Accepted-sync : IsSync Accepted.the_row
Accepted-sync = search (parts, SourceModel-sync, feeding.the_sync, feeding.the_field_sync) depth 20

Version-send : IsSend Version.the_row
Version-send = search (parts, Accepted-send, Accepted-sync, store.the_send, feeding.the_send, feeding.the_field_send) depth 20

Version-sync : IsSync Version.the_row
Version-sync = search (parts, Accepted-send, Accepted-sync, store.the_sync, feeding.the_sync, feeding.the_field_sync) depth 20

Memo-send : IsSend Memo.the_row
Memo-send = search (parts, table.the_send, lease.the_send) depth 20

Memo-sync : IsSync Memo.the_row
Memo-sync = search (parts, table.the_sync, lease.the_sync) depth 20

-- who shares a seat has no more of it than who was sent it
Seat-sync : (S V : RattleType) → IsSend S → IsSync (Seat.the_row S V)
Seat-sync S V s = record { shared = λ d b o κ q. part_keyless (Seat.the_row S V) (seat.the_send S V s) q d b o }

SharedMemo-send : IsSend SharedMemo.the_field.row
SharedMemo-send = search (parts, Memo-send, Memo-sync, seat.the_send, BTreeMap-send, value.the_send) depth 20

SharedMemo-sync : IsSync SharedMemo.the_field.row
SharedMemo-sync = search (parts, Memo-send, Memo-sync, Seat-sync, BTreeMap-sync, value.the_sync) depth 20

pub Snapshot-send : IsSend Snapshot.the_row
Snapshot-send = search (parts, Version-send, Version-sync, SharedMemo-send) depth 20

pub Snapshot-sync : IsSync Snapshot.the_row
Snapshot-sync = search (parts, Version-send, Version-sync, SharedMemo-sync) depth 20

-- ---- commands

Term-send : IsSend Term.the_row
Term-send = search (parts, term.send-Term, money.the_send, fun.the_field_send, op.the_field_send, rel.the_field_send, items.the_send, boxed.the_send) depth 20

Term-sync : IsSync Term.the_row
Term-sync = search (parts, term.sync-Term, money.the_sync, fun.the_field_sync, op.the_field_sync, rel.the_field_sync, items.the_sync, boxed.the_sync) depth 20

Term-field-send : IsSend Term.the_field.row
Term-field-send = search (parts, term.send-Term, money.the_send, fun.the_field_send, op.the_field_send, rel.the_field_send, items.the_send, boxed.the_send) depth 20

Term-field-sync : IsSync Term.the_field.row
Term-field-sync = search (parts, term.sync-Term, money.the_sync, fun.the_field_sync, op.the_field_sync, rel.the_field_sync, items.the_sync, boxed.the_sync) depth 20

ScriptStatement-field-send : IsSend ScriptStatement.the_field.row
ScriptStatement-field-send =
    statements.send-Statement Term-field-send (λ h s. search (parts, items.the_send)) (search parts) (search parts) (search (parts, Term-send, items.the_send))

ScriptStatement-send : IsSend ScriptStatement.the_row
ScriptStatement-send = search (parts, ScriptStatement-field-send) depth 20

ScriptStatement-field-sync : IsSync ScriptStatement.the_field.row
ScriptStatement-field-sync =
    statements.sync-Statement Term-field-sync (λ h s. search (parts, items.the_sync)) (search parts) (search parts) (search (parts, Term-sync, items.the_sync))

ScriptStatement-sync : IsSync ScriptStatement.the_row
ScriptStatement-sync = search (parts, ScriptStatement-field-sync) depth 20

BoundScript-send : IsSend BoundScript.the_row
BoundScript-send = search (parts, ScriptStatement-send, items.the_send) depth 20

BoundScript-sync : IsSync BoundScript.the_row
BoundScript-sync = search (parts, ScriptStatement-sync, items.the_sync) depth 20

WordTable-send : IsSend WordTable.the_field.row
WordTable-send = search (parts, BTreeMap-send) depth 20

WordTable-sync : IsSync WordTable.the_field.row
WordTable-sync = search (parts, BTreeMap-sync) depth 20

LoadParams-send : IsSend LoadParams.the_field.row
LoadParams-send = search (parts, WordTable-send, param_text.the_send) depth 20

LoadParams-sync : IsSync LoadParams.the_field.row
LoadParams-sync = search (parts, WordTable-sync, param_text.the_sync) depth 20

LoadJob-send : IsSend LoadJob.the_field.row
LoadJob-send = search (parts, LoadParams-send) depth 20

LoadJob-sync : IsSync LoadJob.the_field.row
LoadJob-sync = search (parts, LoadParams-sync) depth 20

pub PlanCommand-send : IsSend PlanCommand.the_row
PlanCommand-send = search (parts, cell_text.the_field_send, spread_word.the_field_send, view_text.the_field_send, money.the_send, LoadJob-send, BoundScript-send, BoundScript-sync) depth 20

pub PlanCommand-sync : IsSync PlanCommand.the_row
PlanCommand-sync = search (parts, cell_text.the_field_sync, spread_word.the_field_sync, view_text.the_field_sync, money.the_sync, LoadJob-sync, BoundScript-send, BoundScript-sync) depth 20
