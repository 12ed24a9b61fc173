use Rattle.std.proofs.Common.{rules, refl, ap, ◌∙◌, ◌++◌, ◌∷◌, []}
use Rattle.version_book.proofs.Keeps.{put_at, count_at}
use Rattle.version_book.proofs.Hands.{laid_in, counted_in}
use Rattle.version_book.specs.Inside.Plays.{grown}
use Rattle.version_book.proofs.steps.Book+W.put_grown.Goals as goal

pub store-requires : goal.store-requires
store-requires g c = (
  search rules,
  search rules,
  count_at _ _ _ _ _ _ c.args.place.now.me.0 c.grown-ledger.result c.args.entry _ (laid_in _ _ _ c.requires.hand c.exchange.ensures.3)
      c.requires.at.opening c.requires.away
      (c.grown-ledger.ensures.history ∙ ap (λ xs. xs ++ c.args.entry ∷ []) c.requires.history) c.requires.own (search rules),
)

pub load-requires : goal.load-requires
load-requires g c = (
  search rules,
  search rules,
  put_at _ _ _ _ _ _ (grown c.args.place.now.me.0 c.grown-ledger.result.history.items) c.grown-ledger.result
      (counted_in _ _ _ _ _ (laid_in _ _ _ c.requires.hand c.exchange.ensures.3) c.store.ensures.2)
      c.requires.at.opening c.requires.away refl (search rules),
)
