use Rattle.std.proofs.Common.{arith}
use Rattle.feed_turn.proofs.Overs.{overs-set}
use Rattle.feed_turn.proofs.area.area_over.Goals as goal

pub returns-clause-overs : goal.returns-clause-overs
returns-clause-overs c =
    overs-set c.args.model.now c.args.cube c.args.area.now c.args.overs.now c.args.place c.in_ok-over.over c.requires.overs (c.has_all.ensures c.if-not-has_all.false) (omega (arith, c.requires.place, c.requires.overs.whole)) c.in_ok-over.ensures
