use Rattle.std.proofs.Common.{rules}
use Rattle.memo_cells.proofs.Keeps.{split_allowed}
use Rattle.memo_cells.proofs.memo.Memo.split.Goals as goal

pub split_seat-seat-requires : goal.split_seat-seat-requires
split_seat-seat-requires c = (search rules, search rules, split_allowed _ _ _ (search rules))
