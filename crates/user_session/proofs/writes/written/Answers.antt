use Rattle.std.proofs.Common.{rules, ◌≡◌, ℕ, ℤ, subst, List, Err, None, Some}
use Rattle.cell_reader.specs.Limits.{IsLimitAnswer}
use Rattle.cell_store.specs.Entries.{after_writes}
use Rattle.cell_versions.specs.declared.fault.NextFault.TheVariants as faults
use Rattle.user_session.specs.Content.{content_of}
use Rattle.user_session.specs.Planning.{passed_limit}
use Rattle.user_session.specs.declared.reply.CommandReason.TheVariants.{StoreLimit, FedLimit}
use Rattle.user_session.proofs.Told.{told-kept, told-store, told-fed}
use Rattle.user_session.proofs.writes.written.Goals.{After-check_limits}
use Rattle.user_session.proofs.writes.written.Goals as goal

-- the answer of the limits, where all the writes are stored
limits : (c : After-check_limits) → (let content = content_of c.args.state.now in IsLimitAnswer content.model (after_writes content.stored c.args.writes.items) c.check_limits.result)
limits c =
    let content = content_of c.args.state.now in
    subst (λ (writes : List (ℕ × ℤ)). IsLimitAnswer content.model (after_writes content.stored writes) c.check_limits.result) c.deref.ensures.value c.check_limits.ensures

pub returns-in-Ok : goal.returns-in-Ok
returns-in-Ok c =
    let content = content_of c.args.state.now in
    let here : passed_limit content.model (after_writes content.stored c.args.writes.items) ≡ None =
    told-kept _ _ c.check_limits.result (limits (goal.at.returns-in-Ok c).After-check_limits) c.in-Ok.field-0 c.in-Ok.is in
    rw here (search rules)

pub returns-in-Err-StoreLimit : goal.returns-in-Err-StoreLimit
returns-in-Err-StoreLimit c =
    let content = content_of c.args.state.now in
    let is : c.check_limits.result ≡ Err (faults.StoreLimit c.in-Err-StoreLimit.field-0-0) = search rules in
    let here : passed_limit content.model (after_writes content.stored c.args.writes.items) ≡ Some StoreLimit =
    told-store _ _ c.check_limits.result (limits (goal.at.returns-in-Err-StoreLimit c).After-check_limits) c.in-Err-StoreLimit.field-0-0 is in
    rw here (search rules)

pub returns-in-Err-FedLimit : goal.returns-in-Err-FedLimit
returns-in-Err-FedLimit c =
    let content = content_of c.args.state.now in
    let is : c.check_limits.result ≡ Err (faults.FedLimit c.in-Err-FedLimit.field-0-0) = search rules in
    let here : passed_limit content.model (after_writes content.stored c.args.writes.items) ≡ Some FedLimit =
    told-fed _ _ c.check_limits.result (limits (goal.at.returns-in-Err-FedLimit c).After-check_limits) c.in-Err-FedLimit.field-0-0 is in
    rw here (search rules)
