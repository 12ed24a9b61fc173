use Rattle.std.proofs.Common.{rules, ◌≡◌, subst, map}
use Rattle.std.specs.Prelude.{option_map}
use Rattle.cell_store.specs.Entries.{after_writes}
use Rattle.feed_map.specs.FedCells.{AreFedCells, HasManyFed, HaveLeaves}
use Rattle.cell_versions.specs.Inside.Changes.{IsAddedBy, IsAddedIf}
use Rattle.cell_versions.proofs.Added.{fed_without}
use Rattle.cell_versions.proofs.version.Version.fed_over.Goals as goal

pub grown-requires-clause-stored : goal.grown-requires-clause-stored
grown-requires-clause-stored c =
    let is : IsAddedBy c.sources-model.result.now c.self.inside.store c.args.store.now (map (λ write. write.0) c.args.writes.now) c.in-Some.added.items =
    subst (λ o. IsAddedIf c.sources-model.result.now c.self.inside.store c.args.store.now (map (λ write. write.0) c.args.writes.now) (option_map (λ v. v.items) o)) c.in-Some.is c.in_ok-added.ensures in
    rw c.deref-in-Some.ensures.value is.now

pub grown-requires-clause-before : goal.grown-requires-clause-before
grown-requires-clause-before c =
    let stored : c.args.store.now ≡ after_writes c.self.inside.store c.args.writes.now = search rules in
    let is : IsAddedBy c.sources-model.result.now c.self.inside.store c.args.store.now (map (λ write. write.0) c.args.writes.now) c.in-Some.added.items =
    subst (λ o. IsAddedIf c.sources-model.result.now c.self.inside.store c.args.store.now (map (λ write. write.0) c.args.writes.now) (option_map (λ v. v.items) o)) c.in-Some.is c.in_ok-added.ensures in
    let added : IsAddedBy c.sources-model.result.now c.self.inside.store (after_writes c.self.inside.store c.args.writes.now) (map (λ write. write.0) c.args.writes.now) c.in-Some.added.items = subst (λ s. IsAddedBy c.sources-model.result.now c.self.inside.store s (map (λ write. write.0) c.args.writes.now) c.in-Some.added.items) stored is in
    let fed : AreFedCells c.sources-model.result.now c.self.inside.store c.self.inside.feeding.fed = rw c.sources-model.ensures.model (search rules) in
    let opened : HaveLeaves c.sources-model.result.now c.self.inside.feeding.totals c.self.inside.feeding.fed = rw (c.sources-model.ensures.model, c.deref.ensures) c.self.invariant.1 in
    rw (c.deref-in-Some.ensures.value, stored) (record {
      fed = fed_without c.sources-model.result.now c.self.inside.store c.args.writes.now c.in-Some.added.items c.self.inside.feeding.fed added fed;
      opened = opened;
    })

pub returns-in-Some-clause-past : goal.returns-in-Some-clause-past
returns-in-Some-clause-past c =
    let model : c.args.self.now.model ≡ c.sources-model.result.now = search rules in
    λ many. c.grown.ensures.past (subst (λ m. HasManyFed m c.args.store.now) model many)
