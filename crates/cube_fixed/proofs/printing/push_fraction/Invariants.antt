use Rattle.std.proofs.Common.{◌≡◌, ◌-◌, ◌^◌, ◌<◌, ◌++◌}
use Rattle.cube_fixed.proofs.Digits.{decimals}
use Rattle.cube_fixed.proofs.printing.push_fraction.Given as goal

abbrev pub invariant-loop-place : goal.invariant-loop-place
invariant-loop-place l = record {
  rest : l.rest < 10 ^ (6 - l.place-index);
  text : l.text.items ++ decimals (6 - l.place-index) l.rest ≡ l.initial.text.items ++ decimals 6 l.millionths;
}
