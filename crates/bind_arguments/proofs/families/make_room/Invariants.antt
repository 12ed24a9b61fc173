use Rattle.std.proofs.Common.{◌-◌, length}
use Rattle.bind_arguments.specs.Inside.Families.{AreFamiliesIn}
use Rattle.bind_arguments.proofs.families.make_room.Given as goal

abbrev pub invariant-room : goal.invariant-room
invariant-room l = AreFamiliesIn l.space l.made.items

abbrev pub decreases-room : goal.decreases-room
decreases-room l = length l.space.dimensions - length l.made.items
