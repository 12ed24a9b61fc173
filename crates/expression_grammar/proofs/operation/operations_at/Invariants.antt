use Rattle.expression_grammar.specs.Language.{is_operator}
use Rattle.expression_grammar.specs.Levels.{table}
use Rattle.expression_grammar.specs.Readers.Reading.{read_operation, read_behind}
use Rattle.expression_grammar.proofs.Folding.{Folding}
use Rattle.expression_grammar.proofs.operation.operations_at.Given as goal

abbrev pub invariant-operation : goal.invariant-operation
invariant-operation g l =
    let level : _ = table g.L.Language.language l.fn.level in
    let operand : _ = g.O.Operand.operand (g.I.Inner.reads l.fn.inner) l.fn.want in
    Folding (is_operator level) (read_operation g.S.Scan.scanned level operand) g.L.Language.language.joined l.tree l.sort
    l.cursor.state l.cursor.tokens l.counter l.turns
    (read_behind g.S.Scan.scanned g.L.Language.language.joined level operand l.fn.head l.fn.cursor.state l.fn.cursor.tokens)
