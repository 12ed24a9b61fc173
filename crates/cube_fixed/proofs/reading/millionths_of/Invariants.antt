use Rattle.std.proofs.Common.{◌≡◌, ◌+◌, ◌*◌, ◌/◌, ◌^◌, ◌≤◌, take}
use Rattle.std.specs.Str.Parse.{digits_value}
use Rattle.cube_fixed.proofs.reading.millionths_of.Given as goal

abbrev pub invariant-loop-digit : goal.invariant-loop-digit
invariant-loop-digit l = record {
  place : l.place ≡ 10000000 / 10 ^ l.digit-index;
  tenths : l.tenths ≡ digits_value 10 (take l.digit-index l.decimals) * 10000000 / 10 ^ l.digit-index;
  room : l.tenths + l.place ≤ 10000000;
}
