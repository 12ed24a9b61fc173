use Rattle.std.proofs.Common.{◌≡◌, ◌++◌, drop, true}
use Rattle.cell_spread.specs.Shares.{rounded_up}
use Rattle.cell_spread.specs.Spread.{are_in_range}
use Rattle.cell_spread.proofs.shares.rounded_up.Given as goal

-- the shares so far are the first ones, and can be written
abbrev pub invariant-loop-cell : goal.invariant-loop-cell
invariant-loop-cell l = record {
  front : l.shares.items ++ rounded_up l.amount l.total l.up (drop l.cell-index l.parts) ≡ rounded_up l.amount l.total l.fn.up l.parts;
  within : are_in_range l.shares.items ≡ true;
}
