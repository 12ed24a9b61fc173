use Rattle.std.proofs.Common.{rules}
use Rattle.version_book.proofs.Keeps.{put_at}
use Rattle.version_book.proofs.Hands.{laid_in}
use Rattle.version_book.proofs.steps.Book+W.put_ledger.Goals as goal

pub load-requires : goal.load-requires
load-requires g c = (
  search rules,
  search rules,
  put_at _ _ _ _ _ _ c.args.place.now.me.0 c.args.ledger (laid_in _ _ _ c.requires.hand c.exchange.ensures.3)
      c.requires.at.opening c.requires.away c.requires.history c.requires.opening,
)
