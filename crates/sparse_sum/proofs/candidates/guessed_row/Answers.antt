-- A leaf of this number is the first at or above it.
use Rattle.std.proofs.Common.{rules, ◌≡◌, ◌-◌, Some}
use Rattle.std.specs.List.{slice_get}
use Rattle.sparse_sum.proofs.Pairs.{found-equal}
use Rattle.sparse_sum.proofs.candidates.guessed_row.Goals as goal

pub returns-then-from-2 : goal.returns-then-from-2
returns-then-from-2 c =
    let leaves = c.args.leaves.now in
    let row = c.in-Some-row_at.row in
    let place = c.args.from - c.in-Some.first.0 in
    let is : slice_get leaves place ≡ Some row = search rules in
    let same : row.0 ≡ c.args.from = search rules in
    found-equal leaves c.args.from place row c.requires is same
