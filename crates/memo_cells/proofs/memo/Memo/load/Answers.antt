use Rattle.std.proofs.Common.{rules}
use Rattle.memo_cells.proofs.Keeps.{load_allowed}
use Rattle.memo_cells.proofs.memo.Memo.load.Goals as goal

pub load-requires : goal.load-requires
load-requires c = (search rules, search rules, load_allowed _ _ _ _ _ (search rules) (search rules))
