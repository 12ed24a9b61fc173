use Rattle.std.proofs.Common.{sym}
use Rattle.feed_turn.proofs.Moves.{inverse-few}
use Rattle.feed_turn.proofs.back.map_back.Goals as goal

pub short_form-requires : goal.short_form-requires
short_form-requires c =
    let found = rw c.in-Some.is at c.in_ok-back.ensures in
    inverse-few c.args.view c.args.dim c.args.place c.args.to.now c.in-Some.back.items c.requires.view c.requires.moved.its (sym found)
