use Rattle.std.proofs.Common.{rules, sym}
use Rattle.memo_cells.proofs.Keeps.{claim_allowed}
use Rattle.memo_cells.proofs.memo.Memo.claim.Goals as goal

pub compare_exchange-requires : goal.compare_exchange-requires
compare_exchange-requires c =
    (search rules, search rules, claim_allowed _ _ _ _ _ _ (search rules) (search rules) (sym c.requires.slot))
