use Rattle.std.proofs.Common.{sym, subst}
use Rattle.bind_arguments.specs.Inside.Families.{AreFamiliesIn}
use Rattle.bind_arguments.proofs.FamilyFacts.{room_more}
use Rattle.bind_arguments.proofs.families.make_room.Goals as goal

pub room-preserved : goal.room-preserved
room-preserved c = subst (AreFamiliesIn c.args.space.now) (sym c.in_ok-push.ensures.items) (room_more c.args.space.now c.room.made.items c.room.invariant)
