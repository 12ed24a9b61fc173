use Rattle.std.proofs.Common.{rules, ◌≡◌, ◌%◌, ◌-◌, ap, ◌∙◌}
use Rattle.memo_cells.specs.Seats.{slots_of}
use Rattle.memo_cells.proofs.Tells.{other-in_slot, value-found}
use Rattle.memo_cells.proofs.memo.Memo.look.Goals as goal

pub returns-then-key-cell-clause-slot : goal.returns-then-key-cell-clause-slot
returns-then-key-cell-clause-slot c =
    λ other is.
    let same : other ≡ c.load-key.result - 1 = cc in
    ap (λ n. n % slots_of c.args.self.now) same ∙
    (other-in_slot _ _ _ _ c.load-key.ensures.found c.requires.seat.slots c.if-key-eq0.false ∙
    c.slot_of-slot.ensures.slot)

pub returns-clause-value : goal.returns-clause-value
returns-clause-value c =
    value-found _ _ c.slot_of-slot.result c.args.cell c.load-key.result c.load-word.result _ _ (search rules)
    c.load-key.ensures.view c.load-word.ensures.found c.load-key.ensures.seat.version c.if-word-eq0.false c.value_of.ensures
