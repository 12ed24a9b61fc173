use Rattle.std.proofs.Common.{rules, ◌≡◌, sym, subst, ℤ, ℕ, List, [], ◌++◌, length}
use Rattle.std.specs.Arc.{arc_value}
use Rattle.cell_versions.specs.Versions.{NumberedVersion}
use Rattle.cell_reader.specs.Inside.After.{IsAfter, MayWait}
use Rattle.cell_reader.proofs.Works.{first_more, settled-ahead}
use Rattle.cell_reader.proofs.work.Work.go_on.Goals as goal

-- none waits any more
pub invariant_of-self-2-clause-ahead : goal.invariant_of-self-2-clause-ahead
invariant_of-self-2-clause-ahead c =
    let work = c.args.self.now in
    let latest = c.in_ok-latest.latest in
    let written = c.extend_from_slice.new.self.items in
    let is : arc_value latest ≡ c.args.next = search rules in
    let items : written ≡ work.written.items ++ c.args.more.now = c.in_ok-extend_from_slice.ensures.items in
    let after : IsAfter (arc_value work.opening) written (arc_value latest).model (arc_value latest).stored =
    subst (λ (v : NumberedVersion). IsAfter (arc_value work.opening) written v.model v.stored) (sym is)
    (subst (λ (ws : List (ℕ × ℤ)). IsAfter (arc_value work.opening) ws c.args.next.model c.args.next.stored) (sym items) c.requires) in
    let waiting : MayWait (arc_value latest) [] c.room_of-room.result = subst (λ (v : NumberedVersion). MayWait v [] c.room_of-room.result) (sym is) c.room_of-room.ensures in
    let many : c.len-self.result ≡ length written = search rules in
    settled-ahead work.opening latest written c.len-self.result c.room_of-room.result many after waiting

pub invariant_of-self-2-clause-first : goal.invariant_of-self-2-clause-first
invariant_of-self-2-clause-first c =
    let work = c.args.self.now in
    rw c.in_ok-extend_from_slice.ensures.items
    (first_more (arc_value work.opening) (arc_value work.marked.version) work.written.items c.args.more.now work.marked.made work.first)
