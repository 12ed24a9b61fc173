use Rattle.std.proofs.Common.{◌≡◌, ◌+ℤ◌, ◌*◌, ◌≤◌, drop, unsigned_abs}
use Rattle.cube_fixed.specs.Range.{most_millionths}
use Rattle.cell_spread.specs.Shares.{sum_of}
use Rattle.cell_spread.proofs.shares.sum_of.Given as goal

-- the parts so far are together, and are no larger than they may be
abbrev pub invariant-loop-part : goal.invariant-loop-part
invariant-loop-part l = record {
  sum : l.sum +ℤ sum_of (drop l.part-index l.parts) ≡ sum_of l.parts;
  size : unsigned_abs l.sum ≤ l.part-index * most_millionths;
}
