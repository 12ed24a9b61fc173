-- The replies to users, as text.
use Rattle.std.specs.Prelude.{ℕ, List, [], ◌++◌, length, drop, codes, decimal}
use Rattle.cell_spread.specs.declared.fault.SpreadFault.{SpreadFault}
use Rattle.cell_spread.specs.declared.fault.SpreadFault.TheVariants as spreads
use Rattle.cube_fixed.specs.Text.{printed}
use Rattle.user_session.specs.declared.reply.CommandReason.{CommandReason}
use Rattle.user_session.specs.declared.reply.CommandReason.TheVariants.{UnknownName, NotALeaf, RuleDerived}
use Rattle.user_session.specs.declared.reply.CommandReason.TheVariants.{StoreLimit, FedLimit, NoSandbox, SandboxOpen}
use Rattle.user_session.specs.declared.reply.Reply.{Reply}
use Rattle.user_session.specs.declared.reply.Reply.TheVariants.{Committed, Rejected, Found, Refused}
use Rattle.user_session.specs.declared.reply.Reply.TheVariants.{Opened, Discarded}
use Rattle.view_query.specs.declared.fault.ViewFault.{ViewFault}
use Rattle.view_query.specs.declared.fault.ViewFault.TheVariants as faults

-- the name of a reason
abbrev pub reason_text : CommandReason → List ℕ
reason_text UnknownName = codes "UnknownName"
reason_text NotALeaf = codes "NotALeaf"
reason_text RuleDerived = codes "RuleDerived"
reason_text StoreLimit = codes "StoreLimit"
reason_text FedLimit = codes "FedLimit"
reason_text NoSandbox = codes "NoSandbox"
reason_text SandboxOpen = codes "SandboxOpen"

-- the name of why there is no table; out of memory is no such cause
abbrev pub fault_text : ViewFault → List ℕ
fault_text faults.UnknownName = codes "UnknownName"
fault_text faults.WrongCount = codes "WrongCount"
fault_text (faults.ViewLimit count) = codes "ViewLimit"
fault_text faults.Memory = []

-- the name of why an amount isn't spread; out of memory is no such cause
abbrev pub spread_fault_text : SpreadFault → List ℕ
spread_fault_text spreads.IsALeaf = codes "IsALeaf"
spread_fault_text (spreads.SpreadLimit count) = codes "SpreadLimit"
spread_fault_text spreads.Weighted = codes "Weighted"
spread_fault_text spreads.RuleDerived = codes "RuleDerived"
spread_fault_text spreads.NothingThere = codes "NothingThere"
spread_fault_text spreads.OverWrite = codes "OverWrite"
spread_fault_text spreads.Memory = []

-- `committed N`, `rejected REASON`, the value, `refused REASON`, `opened` or `discarded`
abbrev pub reply_text : Reply → List ℕ
reply_text (Committed cells) = codes "committed " ++ decimal cells
reply_text (Rejected reason) = codes "rejected " ++ reason_text reason
reply_text (Found value) = printed value
reply_text (Refused reason) = codes "refused " ++ reason_text reason
reply_text Opened = codes "opened"
reply_text Discarded = codes "discarded"

-- the reply to a command whose writes were kept in a sandbox, where they would have been committed with this one:
-- `kept` in place of `committed`
abbrev pub kept_text : List ℕ → List ℕ
kept_text reply = codes "kept" ++ drop (length (codes "committed")) reply
