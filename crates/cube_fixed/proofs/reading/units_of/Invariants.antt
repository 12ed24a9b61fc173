use Rattle.std.proofs.Common.{◌≡◌, min, take}
use Rattle.std.specs.Str.Parse.{digits_value}
use Rattle.cube_fixed.specs.declared.reading.TheConstants.{TOO_MANY_UNITS}
use Rattle.cube_fixed.proofs.reading.units_of.Given as goal

abbrev pub invariant-loop-digit : goal.invariant-loop-digit
invariant-loop-digit l = l.units ≡ min (digits_value 10 (take l.digit-index l.digits)) TOO_MANY_UNITS
