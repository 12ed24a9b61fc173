use Rattle.std.proofs.Common.{rules, ap, ◌∙◌, sym}
use Rattle.memo_cells.specs.Inside.Plays.{Sitting}
use Rattle.memo_cells.proofs.Keeps.{join_allowed}
use Rattle.memo_cells.proofs.Growth.{grew-own, grew-other}
use Rattle.memo_cells.proofs.memo.Memo.join.Goals as goal

pub join_seat-requires : goal.join_seat-requires
join_seat-requires c = (search rules, search rules, search rules, search rules, join_allowed _ _ _ _ _ (search rules) (search rules))

pub returns-clause-own : goal.returns-clause-own
returns-clause-own c =
    grew-own c.args.seat.now.seat.me.0 c.args.other.seat.me.0 _ (ap (λ (m : Sitting). m.0) c.join_seat.ensures.2)

pub returns-clause-other : goal.returns-clause-other
returns-clause-other c =
    grew-other c.args.seat.now.seat.me.0 c.args.other.seat.me.0 _ (c.requires.other.slots ∙ sym c.requires.seat.slots)
    (ap (λ (m : Sitting). m.0) c.join_seat.ensures.2)
