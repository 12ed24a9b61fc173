use Rattle.std.proofs.Common.{rules}
use Rattle.version_book.proofs.Keeps.{look_allowed}
use Rattle.version_book.proofs.steps.Book+W.look.Goals as goal

pub load-requires : goal.load-requires
load-requires g c = (search rules, search rules, look_allowed _ _ _ _ _ _ c.requires.at.opening c.requires.turn)
