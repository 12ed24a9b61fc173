use Rattle.std.proofs.Common.{sym}
use Rattle.feed_turn.specs.Views.{turn_of}
use Rattle.feed_turn.proofs.KeptWhole.{whole-source}
use Rattle.feed_turn.proofs.source.keeps_all.Goals as goal

pub returns : goal.returns
returns c = λ on.
    whole-source (turn_of c.args.view) c.args.dim c.args.place c.args.to.now c.requires.view.valid c.requires.view.cube c.requires.view.reference.0 c.requires.moved.own c.requires.moved.its
    (sym c.if-not-is_shared.ensures) (c.has_all.ensures on) (c.is_identity.ensures c.if-not-is_identity.false) c.requires.moved.whole
