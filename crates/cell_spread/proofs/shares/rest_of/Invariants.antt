use Rattle.std.proofs.Common.{◌≡◌, ◌+◌, ◌*◌, ◌≤◌, drop, unsigned_abs}
use Rattle.cell_spread.specs.Inside.Remainders.{lefts_of}
use Rattle.cell_spread.proofs.shares.rest_of.Given as goal

-- what is left of the shares so far is together
abbrev pub invariant-loop-part : goal.invariant-loop-part
invariant-loop-part l = record {
  sum : l.left + lefts_of l.amount l.total (drop l.part-index l.parts) ≡ lefts_of l.amount l.total l.parts;
  size : l.left ≤ l.part-index * unsigned_abs l.total;
}
