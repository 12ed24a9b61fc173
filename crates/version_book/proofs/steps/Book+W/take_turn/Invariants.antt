use Rattle.std.proofs.Common.{◌≡◌}
use Rattle.version_book.specs.Passes.{IsAt}
use Rattle.version_book.proofs.steps.Book+W.take_turn.Given as goal

abbrev pub invariant-loop : goal.invariant-loop
invariant-loop g l =
    (goal.iterator-loop g).can_next l.iterator' × (goal.iterator-loop g).is_finite l.iterator' × IsAt l.self l.place × (l.place.me ≡ l.fn.place.me)
