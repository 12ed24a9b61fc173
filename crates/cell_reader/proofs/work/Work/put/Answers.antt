use Rattle.std.proofs.Common.{◌≡◌, ◌∙◌, ap, true, ℕ, ℤ, ◌-◌, List, [], ◌∷◌, ◌++◌, drop, length, take}
use Rattle.std.proofs.lemmas.List.{take_rest}
use Rattle.std.specs.Prelude.{is_ok}
use Rattle.std.specs.Arc.{arc_value}
use Rattle.cell_store.specs.Entries.{after_writes}
use Rattle.cell_versions.specs.Versions.{NumberedVersion}
use Rattle.cube_space.specs.Cells.{IsCell, is_leaf_cell}
use Rattle.cell_reader.specs.Inside.After.{IsAfter, IsAhead}
use Rattle.cell_reader.specs.Works.{opening_of}
use Rattle.cell_reader.proofs.Works.{ahead_answers, ahead_either, first_either, less-room, more-after, waits-behind}
use Rattle.cell_reader.proofs.LastNumbers.{last-more}
use Rattle.cell_reader.proofs.work.Work.put.Goals as goal

pub invariant_of-self-in-Some-clause-ahead : goal.invariant_of-self-in-Some-clause-ahead
invariant_of-self-in-Some-clause-ahead c =
    let work = c.args.self.now in
    let more : IsAhead work.opening work.latest (work.written.items ++ (c.args.cell, c.args.number) ∷ []) work.made c.in-Some.room =
    waits-behind work c.deref-2.result.now c.deref.result.now c.in-Some.room c.args.cell c.args.number c.deref-2.ensures c.deref.ensures.value c.requires.cell c.requires.leaf c.in-Some.ensures.waits in
    rw c.extend_from_slice.ensures.items (ahead_either work.opening work.latest work.written.items (work.written.items ++ (c.args.cell, c.args.number) ∷ []) work.made c.in-Some.room (less-room work.opening work.latest work.written.items work.made work.room work.ahead c.in-Some.room c.in-Some.ensures.less.0 c.in-Some.ensures.less.1) more (is_ok c.extend_from_slice.result))

pub invariant_of-self-in-Some-clause-first : goal.invariant_of-self-in-Some-clause-first
invariant_of-self-in-Some-clause-first c =
    let work = c.args.self.now in
    rw c.extend_from_slice.ensures.items
    (first_either (arc_value work.opening) (arc_value work.marked.version) work.written.items ((c.args.cell, c.args.number) ∷ []) work.marked.made work.first (is_ok c.extend_from_slice.result))

pub invariant_of-self-in-Some-clause-last : goal.invariant_of-self-in-Some-clause-last
invariant_of-self-in-Some-clause-last c =
    let work = c.args.self.now in
    last-more work.written.items c.extend_from_slice.new.self.items work.made c.args.cell c.args.number work.numbers c.take.result c.in_ok-numbers.numbers work.ahead.first.made_first c.in_ok-extend_from_slice.ensures.items c.take.ensures.value
    c.in_ok-numbers.ensures.last work.last

-- what waits may wait
pub room_behind-requires : goal.room_behind-requires
room_behind-requires c =
    let work = c.args.self.now in
    let slice : take (length c.deref.result.now - work.made) (drop work.made c.deref.result.now) ≡ drop work.made work.written.items = take_rest c.deref.result.now work.made ∙ ap (drop work.made) c.deref.ensures.value in
    rw (slice, c.deref-2.ensures) work.ahead.waiting

pub go_on-requires : goal.go_on-requires
go_on-requires c =
    let one : List (ℕ × ℤ) = (c.args.cell, c.args.number) ∷ [] in
    let work = c.settle.new.self in
    let latest = arc_value work.latest in
    let settled : IsAfter (arc_value work.opening) work.written.items latest.model latest.stored = c.in_ok-settle.ensures.settled in
    let begun : arc_value work.opening ≡ opening_of c.args.self.now = c.settle.ensures.opening in
    let own : IsCell (arc_value work.opening).model.space c.args.cell = rw begun c.requires.cell in
    let leaf : is_leaf_cell (arc_value work.opening).model.space c.args.cell ≡ true = rw begun c.requires.leaf in
    let model : c.in_ok-next.next.model ≡ latest.model = c.in_ok-next.ensures.model ∙ ap (λ (version : NumberedVersion). version.model) c.deref-3.ensures in
    let stored : c.in_ok-next.next.stored ≡ after_writes latest.stored one = c.in_ok-next.ensures.stored ∙ ap (λ (version : NumberedVersion). after_writes version.stored one) c.deref-3.ensures in
    rw (model, stored) (more-after (arc_value work.opening) latest.model latest.stored work.written.items c.args.cell c.args.number settled own leaf)

pub returns-in-Some-clause-limits : goal.returns-in-Some-clause-limits
returns-in-Some-clause-limits c =
    let work = c.args.self.now in
    let more : IsAhead work.opening work.latest (work.written.items ++ (c.args.cell, c.args.number) ∷ []) work.made c.in-Some.room =
    waits-behind work c.deref-2.result.now c.deref.result.now c.in-Some.room c.args.cell c.args.number c.deref-2.ensures c.deref.ensures.value c.requires.cell c.requires.leaf c.in-Some.ensures.waits in
    ahead_answers work.opening work.latest (work.written.items ++ (c.args.cell, c.args.number) ∷ []) work.made c.in-Some.room more tt
