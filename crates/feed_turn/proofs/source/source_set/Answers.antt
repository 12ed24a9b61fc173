use Rattle.std.proofs.Common.{refl}
use Rattle.feed_turn.proofs.Moves.{is-moved}
use Rattle.feed_turn.proofs.source.source_set.Goals as goal

pub keeps_all-requires-clause-moved : goal.keeps_all-requires-clause-moved
keeps_all-requires-clause-moved c =
    is-moved c.args.view c.in-Moved.from c.args.place c.in-Moved.from c.in-Moved.to c.args.arg.now c.requires.view c.requires.arg c.in-Moved.is refl

pub known_set-requires-clause-moved : goal.known_set-requires-clause-moved
known_set-requires-clause-moved c =
    is-moved c.args.view c.in-Moved.from c.args.place c.in-Moved.from c.in-Moved.to c.args.arg.now c.requires.view c.requires.arg c.in-Moved.is refl
