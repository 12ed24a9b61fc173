use Rattle.memo_cells.proofs.Growth.{grew-reserved}
use Rattle.memo_cells.proofs.memo.Memo.reserve.Goals as goal

pub returns-clause-grew : goal.returns-clause-grew
returns-clause-grew c = grew-reserved _ _ _ _ _ c.claim.ensures.view
