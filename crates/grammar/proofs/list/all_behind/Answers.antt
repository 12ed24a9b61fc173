use Rattle.std.proofs.Common.{Ok, sym, ◌∙◌, ap, arith}
use Rattle.std.proofs.lemmas.Result.{err_from_is_err_and}
use Rattle.grammar.proofs.After.{turning_on, turning_ends, turning_runs_out}
use Rattle.grammar.proofs.Loops.{turning_from_plain, turning_stops}
use Rattle.grammar.proofs.list.all_behind.Goals as goal

pub item-init : goal.item-init
item-init g c =
    turning_from_plain (g.I.RepeatedItem.begins c.args.item.now) (g.I.RepeatedItem.reads_next c.args.item.now) c.args.items.items c.args.cursor.now.state c.args.cursor.now.tokens _ c.len-end.ensures

pub item-preserved : goal.item-preserved
item-preserved g c = turning_on c.item.invariant c.item-test.true c.if-not-comes.ensures c.in_ok-next.ensures c.in_ok-push.ensures.items

pub returns-then-not-comes : goal.returns-then-not-comes
returns-then-not-comes g c = turning_ends c.item.invariant c.if-not-comes.ensures ∙ ap (λ items. Ok (items, c.item.cursor.state, c.item.cursor.tokens)) (sym c.new.ensures)

pub returns-in_err-next : goal.returns-in_err-next
returns-in_err-next g c =
    let p = err_from_is_err_and c.from_residual.result c.from_residual.ensures.1 in
    rw (p.1, p.2)
    (turning_stops {Y = g.row.T.Denot} (λ items. items) (λ item. item) c.read_next.new.cursor.state c.read_next.new.cursor.tokens c.in_err-next.field-0.0 c.item.invariant c.item-test.true c.if-not-comes.ensures c.in_err-next.ensures)

pub returns : goal.returns
returns g c = turning_runs_out c.item.invariant (omega (arith, c.item-test.false)) ∙ ap (λ items. Ok (items, c.item.cursor.state, c.item.cursor.tokens)) (sym c.new-2.ensures)
