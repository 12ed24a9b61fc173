use Rattle.std.proofs.Common.{arith}
use Rattle.std.proofs.lemmas.Result.{err_from_is_err_and}
use Rattle.expression_grammar.specs.Language.{is_operator}
use Rattle.expression_grammar.specs.Levels.{table}
use Rattle.expression_grammar.specs.Readers.Reading.{read_operation, read_behind}
use Rattle.expression_grammar.proofs.Folding.{begun_folding, folds_further, is_folded, folding_runs_out, folding_stops_at}
use Rattle.expression_grammar.proofs.operation.operations_at.Goals as goal

pub operation-init : goal.operation-init
unfolding read_behind
operation-init g c =
    begun_folding (is_operator (table g.L.Language.language c.args.level))
    (read_operation g.S.Scan.scanned (table g.L.Language.language c.args.level) (g.O.Operand.operand (g.I.Inner.reads c.args.inner.now) c.args.want))
    g.L.Language.language.joined c.args.head.0 c.args.head.1 c.args.cursor.now.state c.args.cursor.now.tokens _ c.len-turns.ensures

pub operation-preserved : goal.operation-preserved
operation-preserved g c = folds_further c.operation.invariant c.operation-test.true c.if-not-operator_comes.ensures c.in_ok-op.ensures c.in_ok-tree.ensures

pub returns-then-not-operator_comes : goal.returns-then-not-operator_comes
returns-then-not-operator_comes g c = is_folded c.operation.invariant c.operation-test.true c.if-not-operator_comes.ensures

pub returns-in_err-op : goal.returns-in_err-op
returns-in_err-op g c =
    let p = err_from_is_err_and c.from_residual.result c.from_residual.ensures.1 in
    rw (p.1, p.2) (folding_stops_at (λ read. read) (λ operation. operation) _ _ c.in_err-op.field-0.0 c.operation.invariant c.operation-test.true c.if-not-operator_comes.ensures c.in_err-op.ensures)

pub returns : goal.returns
returns g c = folding_runs_out c.operation.invariant (omega (arith, c.operation-test.false))
