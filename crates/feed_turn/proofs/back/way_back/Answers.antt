use Rattle.std.proofs.Common.{rules, ◌≡◌}
use Rattle.feed_turn.proofs.Moves.{is-moved}
use Rattle.feed_turn.proofs.back.way_back.Goals as goal

pub known_back-requires-clause-moved : goal.known_back-requires-clause-moved
known_back-requires-clause-moved c =
    let same : c.in-Moved.from ≡ c.args.dim = search rules in
    is-moved c.args.view c.args.dim c.args.place c.in-Moved.from c.in-Moved.to c.args.arg.now c.requires.view c.requires.arg c.in-Moved.is same
