use Rattle.std.proofs.Common.{rules}
use Rattle.version_book.proofs.Keeps.{free_allowed}
use Rattle.version_book.proofs.steps.Book+W.free_turn.Goals as goal

pub store-requires : goal.store-requires
store-requires g c = (search rules, search rules, free_allowed _ _ _ _ _ _ c.requires.at.opening c.requires.looked)
