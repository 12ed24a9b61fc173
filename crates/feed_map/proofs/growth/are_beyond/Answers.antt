-- Where no known cell is at or above the first, none of the cells is known.
use Rattle.std.proofs.Common.{rules, ◌≡◌, sym, None, Some}
use Rattle.std.specs.List.{slice_get}
use Rattle.cell_store.specs.Cells.{next_from}
use Rattle.feed_map.proofs.Fresh.{beyond-first}
use Rattle.feed_map.proofs.growth.are_beyond.Goals as goal

pub returns-in-Some : goal.returns-in-Some
returns-in-Some c = λ none.
    (let first : slice_get c.args.found.now 0 ≡ Some c.in-Some.least.now = sym c.in-Some.ensures.value in
    let gone : next_from c.args.known.now c.in-Some.least.now ≡ None = search rules in
    beyond-first c.args.known.now c.args.found.now c.in-Some.least.now c.requires first gone)
