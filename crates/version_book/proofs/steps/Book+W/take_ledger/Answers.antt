use Rattle.std.proofs.Common.{rules, ap, Some}
use Rattle.version_book.proofs.Keeps.{take_allowed}
use Rattle.version_book.proofs.Hands.{held_first}
use Rattle.version_book.proofs.steps.Book+W.take_ledger.Goals as goal

pub load-requires : goal.load-requires
load-requires g c = (search rules, search rules, take_allowed _ _ _ _ _ _ c.requires.at.opening c.requires.looked)

pub exchange-requires : goal.exchange-requires
exchange-requires g c = (
  search rules,
  (Some c.load.ensures.2.0, held_first _ _ _ (ap (λ m. m.1) c.load.ensures.2.1)),
)
