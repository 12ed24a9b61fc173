use Rattle.rule_bind.proofs.FormulaFacts.{call_is, operation_is, condition_is}
use Rattle.rule_bind.proofs.formula.+values.Goals as goal

pub value_of-returns-in-Call-clause-answers : goal.value_of-returns-in-Call-clause-answers
value_of-returns-in-Call-clause-answers t c =
    call_is c.args.space.now c.args.cube c.args.sets.now c.args.at c.args.tree.now c.in-Call.word c.as_slice-in-Call.result.now c.in-Call.arguments c.as_slice-trees.result.now c.function_of-function.result c.call_of.result
    c.in-Call.is c.as_slice-in-Call.ensures c.as_slice-trees.ensures c.function_of-function.ensures c.call_of.ensures.answers

pub value_of-returns-in-Binary-clause-answers : goal.value_of-returns-in-Binary-clause-answers
value_of-returns-in-Binary-clause-answers t c =
    operation_is c.args.space.now c.args.cube c.args.sets.now c.args.at c.args.tree.now c.in-Binary.left c.in-Binary.right c.get-left.result.now c.get-right.result.now c.in-Binary.op c.operator_of-operator.result c.operation_of.result
    c.in-Binary.is c.operator_of-operator.ensures c.get-left.ensures c.get-right.ensures c.operation_of.ensures.answers

pub truth_of-returns-in-Binary-clause-answers : goal.truth_of-returns-in-Binary-clause-answers
truth_of-returns-in-Binary-clause-answers t c =
    condition_is c.args.space.now c.args.cube c.args.sets.now c.args.tree.now c.in-Binary.left c.in-Binary.right c.get-left.result.now c.get-right.result.now c.in-Binary.op c.operator_of-operator.result c.condition_of.result
    c.in-Binary.is c.operator_of-operator.ensures c.get-left.ensures c.get-right.ensures c.condition_of.ensures.answers
