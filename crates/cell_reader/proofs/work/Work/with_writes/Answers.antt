use Rattle.std.proofs.Common.{rules, ◌≡◌, ◌∙◌, ap, ℕ, ℤ, ◌-◌, List, drop, take}
use Rattle.std.specs.Arc.{arc_value}
use Rattle.cell_store.specs.Entries.{after_writes}
use Rattle.cell_versions.specs.Versions.{NumberedVersion}
use Rattle.cell_reader.proofs.Works.{first_count, next-leaves, next-within}
use Rattle.cell_reader.proofs.work.Work.with_writes.Goals as goal

pub version_within-requires-clause-leaves : goal.version_within-requires-clause-leaves
version_within-requires-clause-leaves c =
    let work = c.args.self.now in
    let made = c.args.first.made in
    let slice : take (c.args.count - made) (drop made c.deref.result.now) ≡ take (c.args.count - made) (drop made work.written.items) = ap (λ (ws : List (ℕ × ℤ)). take (c.args.count - made) (drop made ws)) c.deref.ensures.value in
    rw (slice, c.deref-2.ensures)
    (next-leaves (arc_value work.opening) (arc_value c.args.first.version) work.written.items made c.args.count c.requires.first c.requires.few work.ahead.leaves)

pub version_within-requires-clause-within : goal.version_within-requires-clause-within
version_within-requires-clause-within c =
    let work = c.args.self.now in
    let made = c.args.first.made in
    let slice : take (c.args.count - made) (drop made c.deref.result.now) ≡ take (c.args.count - made) (drop made work.written.items) = ap (λ (ws : List (ℕ × ℤ)). take (c.args.count - made) (drop made ws)) c.deref.ensures.value in
    rw (slice, c.deref-2.ensures)
    (next-within (arc_value work.opening) (arc_value c.args.first.version) work.written.items made c.args.count c.requires.first c.requires.few work.ahead.leaves c.requires.within)

pub returns : goal.returns
returns c =
    let work = c.args.self.now in
    let made = c.args.first.made in
    let version = arc_value c.args.first.version in
    let more = take (c.args.count - made) (drop made work.written.items) in
    let slice : take (c.args.count - made) (drop made c.deref.result.now) ≡ more = ap (λ (ws : List (ℕ × ℤ)). take (c.args.count - made) (drop made ws)) c.deref.ensures.value in
    let is : arc_value c.in_ok-version.version ≡ c.in_ok-next.next = search rules in
    let model : c.in_ok-next.next.model ≡ version.model = c.in_ok-next.ensures.model ∙ ap (λ (v : NumberedVersion). v.model) c.deref-2.ensures in
    let stored : c.in_ok-next.next.stored ≡ after_writes version.stored more =
    c.in_ok-next.ensures.stored ∙ (ap (λ (v : NumberedVersion). after_writes v.stored (take (c.args.count - made) (drop made c.deref.result.now))) c.deref-2.ensures ∙ ap (after_writes version.stored) slice) in
    rw (is, model, stored)
    (first_count (arc_value work.opening) version work.written.items made c.args.count c.requires.first c.requires.few work.ahead.leaves)
