use Rattle.std.proofs.Common.{◌≡◌, ◌++◌, ◌-◌, ◌^◌, ◌<◌, ◌≤◌, take}
use Rattle.cube_fixed.specs.Text.{digits_in}
use Rattle.cube_fixed.proofs.fixed_printing.push_digits.Given as goal

abbrev pub invariant-loop-place : goal.invariant-loop-place
invariant-loop-place l = record {
  rest : l.rest < 10 ^ (6 - l.place-index);
  left : l.left ≤ 6 - l.place-index;
  text : l.text.items ++ take l.left (digits_in (6 - l.place-index) l.rest) ≡ l.initial.text.items ++ take l.count (digits_in 6 l.millionths);
}
