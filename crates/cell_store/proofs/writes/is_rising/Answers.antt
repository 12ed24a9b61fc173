-- Each write comes above the one before it.
use Rattle.std.proofs.Common.{◌≤◌, length, arith}
use Rattle.cell_store.proofs.LastWrites.{rises-first, rising-all}
use Rattle.cell_store.proofs.writes.is_rising.Goals as goal

pub loop-place-init : goal.loop-place-init
loop-place-init g c = rises-first g.E.Placed.cell c.args.writes.now

pub returns : goal.returns
returns g c =
    let done : length c.args.writes.now ≤ c.loop-place.place = omega (arith, c.loop-place-test.false) in
    λ always. rising-all g.E.Placed.cell c.args.writes.now c.loop-place.place done c.loop-place.invariant
