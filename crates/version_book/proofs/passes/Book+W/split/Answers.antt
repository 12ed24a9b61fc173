use Rattle.std.proofs.Common.{rules}
use Rattle.version_book.proofs.Splits.{split_allowed}
use Rattle.version_book.proofs.passes.Book+W.split.Goals as goal

pub split_seat-place-requires : goal.split_seat-place-requires
split_seat-place-requires g c = (search rules, search rules, split_allowed _ _ _ _ _ _ c.requires.of.opening c.requires.gives.1)
