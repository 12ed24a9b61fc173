use Rattle.std.proofs.Common.{rules, ◌≡◌, subst, map}
use Rattle.cell_store.specs.Entries.{after_writes}
use Rattle.feed_map.specs.FedCells.{AreFedCells, HaveLeaves, HasManyFed}
use Rattle.cell_versions.specs.Inside.Changes.{IsChangeBy}
use Rattle.cell_versions.proofs.Changed.{changed_is}
use Rattle.cell_versions.proofs.version.Version.fed_changed.Goals as goal

pub changed-requires-clause-change : goal.changed-requires-clause-change
changed-requires-clause-change c =
    let stored : c.args.store.now ≡ after_writes c.self.inside.store c.args.writes.now = search rules in
    let is : IsChangeBy c.self.inside.store c.args.store.now (map (λ write. write.0) c.args.writes.now) c.in_ok-change.change.went.items c.in_ok-change.change.came.items = c.in_ok-change.ensures in
    let by = changed_is c.self.inside.store c.args.writes.now c.in_ok-change.change.went.items c.in_ok-change.change.came.items (rw stored at is) in
    rw (c.as_slice-went.ensures.value, c.as_slice-came.ensures.value, stored) by

pub changed-requires-clause-before : goal.changed-requires-clause-before
changed-requires-clause-before c =
    let fed : AreFedCells c.sources-model.result.now c.self.inside.store c.self.inside.feeding.fed = rw c.sources-model.ensures.model (search rules) in
    let opened : HaveLeaves c.sources-model.result.now c.self.inside.feeding.totals c.self.inside.feeding.fed = rw (c.sources-model.ensures.model, c.deref.ensures) c.self.invariant.1 in
    record { fed = fed; opened = opened }

pub returns-clause-past : goal.returns-clause-past
returns-clause-past c =
    let model : c.args.self.now.model ≡ c.sources-model.result.now = search rules in
    λ many. c.changed.ensures.past (subst (λ m. HasManyFed m c.args.store.now) model many)
