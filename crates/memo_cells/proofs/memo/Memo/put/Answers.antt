use Rattle.std.proofs.Common.{rules}
use Rattle.memo_cells.proofs.Keeps.{put_allowed}
use Rattle.memo_cells.proofs.memo.Memo.put.Goals as goal

pub compare_exchange-requires : goal.compare_exchange-requires
compare_exchange-requires c = (
  search rules,
  search rules,
  put_allowed _ _ _ _ _ _ _ (search rules) (search rules) c.requires.cell c.requires.some c.requires.value,
)
