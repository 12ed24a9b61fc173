use Rattle.std.proofs.Common.{append-nil, ◌≡◌, ◌∙◌, ap, arith, ◌-◌, ◌≤◌, drop, length, take}
use Rattle.std.specs.Arc.{arc_value}
use Rattle.std.proofs.lemmas.List.{take_rest}
use Rattle.cell_store.specs.Entries.{after_writes}
use Rattle.cell_store.specs.StoreLimit.{most_cells}
use Rattle.cell_versions.specs.Versions.{NumberedVersion}
use Rattle.cell_reader.specs.Limits.{IsWithinLimits}
use Rattle.cell_reader.proofs.Works.{all_after}
use Rattle.cell_reader.proofs.work.Work.settle.Goals as goal

-- what waits passes neither limit
pub version_within-requires-clause-within : goal.version_within-requires-clause-within
version_within-requires-clause-within c =
    let work = c.args.self.now in
    let latest = arc_value work.latest in
    let waiting = drop work.made work.written.items in
    let slice : take (length c.deref.result.now - work.made) (drop work.made c.deref.result.now) ≡ waiting = take_rest c.deref.result.now work.made ∙ ap (drop work.made) c.deref.ensures.value in
    let few_stored : length (after_writes latest.stored waiting) ≤ most_cells = omega (arith, work.ahead.waiting.few_stored) in
    let within : IsWithinLimits latest.model (after_writes latest.stored waiting) = record { few_stored = few_stored; few_fed = omega (arith, work.ahead.waiting.few_fed) } in
    rw (slice, c.deref-2.ensures) within

-- the version with what waits comes next
pub go_on-requires : goal.go_on-requires
go_on-requires c =
    let work = c.args.self.now in
    let latest = arc_value work.latest in
    let waiting = drop work.made work.written.items in
    let slice : take (length c.deref.result.now - work.made) (drop work.made c.deref.result.now) ≡ waiting = take_rest c.deref.result.now work.made ∙ ap (drop work.made) c.deref.ensures.value in
    let model : c.in_ok-next.next.model ≡ latest.model = c.in_ok-next.ensures.model ∙ ap (λ (version : NumberedVersion). version.model) c.deref-2.ensures in
    let stored : c.in_ok-next.next.stored ≡ after_writes latest.stored waiting =
    c.in_ok-next.ensures.stored ∙ (ap (λ (version : NumberedVersion). after_writes version.stored (take (length c.deref.result.now - work.made) (drop work.made c.deref.result.now))) c.deref-2.ensures
    ∙ ap (after_writes latest.stored) slice) in
    rw (model, stored, append-nil work.written.items) (all_after work.opening work.latest work.written.items work.made work.room work.ahead)
