use Rattle.std.proofs.Common.{rules}
use Rattle.version_book.proofs.Keeps.{turn_allowed}
use Rattle.version_book.proofs.steps.Book+W.take_turn.Goals as goal

pub compare_exchange-requires : goal.compare_exchange-requires
compare_exchange-requires g c = (search rules, search rules, turn_allowed _ _ _ _ _ _ (search rules) (search rules))
