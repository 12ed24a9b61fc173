use Rattle.std.proofs.Common.{rules, ◌≡◌, ◌%◌, ◌-◌, ap, ◌∙◌}
use Rattle.memo_cells.specs.Seats.{slots_of}
use Rattle.memo_cells.proofs.Growth.{grew-kept}
use Rattle.memo_cells.proofs.Tells.{other-in_slot}
use Rattle.memo_cells.proofs.memo.Memo.keep.Goals as goal

pub returns-then-key-cell-clause-slot : goal.returns-then-key-cell-clause-slot
returns-then-key-cell-clause-slot c =
    λ other is.
    let same : other ≡ c.claim-key.result - 1 = cc in
    ap (λ n. n % slots_of c.args.self.now) same ∙
    (other-in_slot _ _ _ _ c.claim-key.ensures.found c.requires.seat.slots (search rules) ∙
    c.slot_of-slot.ensures.slot)

pub returns-clause-grew : goal.returns-clause-grew
returns-clause-grew c = grew-kept _ _ _ _ _ _ _ _ _ c.claim-key.ensures.view c.put.ensures.view
