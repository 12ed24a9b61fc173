use Rattle.std.proofs.Common.{◌≡◌, ◌∙◌, rules, sym, ap, List, Err}
use Rattle.cell_reader.specs.Snapshots.{version_of}
use Rattle.cell_store.specs.declared.entry.Entry.{Entry}
use Rattle.cell_store.specs.Entries.{after_writes}
use Rattle.cell_versions.specs.declared.fault.NextFault.TheVariants as faults
use Rattle.cube_space.specs.Layout.{Layout}
use Rattle.rule_model.specs.BoundModel.{BoundModel}
use Rattle.user_session.specs.Content.{content_of}
use Rattle.user_session.specs.Planning.{all_leaf_cells}
use Rattle.user_session.specs.declared.content.Content.{Content}
use Rattle.user_session.proofs.Limits.{leaf-writes, misfit-limit, misfit-name}
use Rattle.user_session.proofs.Told.{told-kept, told-store, told-fed}
use Rattle.user_session.proofs.fixed_writes.lay_over.Goals.{After-are_leaf_cells}
use Rattle.user_session.proofs.fixed_writes.lay_over.Goals as goal

-- the cells are tested in the space of the version's model
tested : (c : After-are_leaf_cells) → all_leaf_cells (content_of c.args.state.now).model.space c.args.writes.now ≡ c.are_leaf_cells.result
tested c =
    let space : c.space.result.now ≡ (version_of c.args.state.now).model.space = c.space.ensures.space ∙ ap (λ (m : BoundModel). m.space) c.model.ensures.model in
    ap (λ (s : Layout). all_leaf_cells s c.args.writes.now) (sym space) ∙ sym c.are_leaf_cells.ensures

pub next-requires : goal.next-requires
next-requires c =
    leaf-writes (content_of c.args.state.now).model.space c.args.writes.now (tested (goal.at.next-requires c).After-are_leaf_cells ∙ c.if-not-are_leaf_cells.false)

pub returns-then-not-are_leaf_cells : goal.returns-then-not-are_leaf_cells
returns-then-not-are_leaf_cells c =
    misfit-name (content_of c.args.state.now) c.args.writes.now (tested (goal.at.returns-then-not-are_leaf_cells c).After-are_leaf_cells ∙ c.if-not-are_leaf_cells.true)

pub returns-in-Ok : goal.returns-in-Ok
returns-in-Ok c =
    let content = content_of c.args.state.now in
    let fits = misfit-limit content c.args.writes.now (tested (goal.at.returns-in-Ok c).After-are_leaf_cells ∙ c.if-not-are_leaf_cells.false) in
    let of : BoundModel → List Entry → Content = λ model stored. record { model = model; stored = stored } in
    let version = version_of c.in-Ok.version in
    let model : version.model ≡ content.model = c.in-Ok.ensures.model in
    let stored : version.stored ≡ after_writes content.stored c.args.writes.now = c.in-Ok.ensures.stored in (
      fits ∙ told-kept _ _ c.next.result c.next.ensures.limits c.in-Ok.version c.in-Ok.is,
      ap (λ m. of m version.stored) model ∙ ap (λ s. of content.model s) stored,
    )

pub returns-in-Err-StoreLimit : goal.returns-in-Err-StoreLimit
returns-in-Err-StoreLimit c =
    let content = content_of c.args.state.now in
    let fits = misfit-limit content c.args.writes.now (tested (goal.at.returns-in-Err-StoreLimit c).After-are_leaf_cells ∙ c.if-not-are_leaf_cells.false) in
    let is : c.next.result ≡ Err (faults.StoreLimit c.in-Err-StoreLimit.field-0-0) = search rules in
    fits ∙ told-store _ _ c.next.result c.next.ensures.limits c.in-Err-StoreLimit.field-0-0 is

pub returns-in-Err-FedLimit : goal.returns-in-Err-FedLimit
returns-in-Err-FedLimit c =
    let content = content_of c.args.state.now in
    let fits = misfit-limit content c.args.writes.now (tested (goal.at.returns-in-Err-FedLimit c).After-are_leaf_cells ∙ c.if-not-are_leaf_cells.false) in
    let is : c.next.result ≡ Err (faults.FedLimit c.in-Err-FedLimit.field-0-0) = search rules in
    fits ∙ told-fed _ _ c.next.result c.next.ensures.limits c.in-Err-FedLimit.field-0-0 is
