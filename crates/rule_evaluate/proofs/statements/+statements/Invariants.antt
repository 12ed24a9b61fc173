use Rattle.std.proofs.Common.{◌≡◌, ◌⊎◌, true, ◌+◌, ◌≤◌, ◌<◌}
use Rattle.rule_evaluate.specs.Inside.Scene.{value_from, passes_from, entered_from}
use Rattle.rule_evaluate.proofs.FormulaWeights.{weight}
use Rattle.rule_evaluate.proofs.SceneFacts.{cost_from}
use Rattle.rule_evaluate.proofs.statements.+statements.Given as goal

abbrev pub decreases-whole : goal.decreases-whole
decreases-whole g l = 1 + cost_from l.here.now l.next

abbrev pub decreases-end_of : goal.decreases-end_of
decreases-end_of g l = weight l.formula.now + (2 + cost_from l.here.now l.next)

abbrev pub decreases-statements : goal.decreases-statements
decreases-statements g l = cost_from l.here.now l.first

abbrev pub invariant-statements-each : goal.invariant-statements-each
invariant-statements-each g l =
    let u = g.R.Refs.terms l.fn.refs l.fn.memory in
    let t = g.R.Refs.readings u in
    record {
      passes : passes_from l.here t (g.R.Refs.may_ask u) l.from ≡ true;
      value : value_from l.here t l.from ≡ value_from l.here t l.first;
      counted : l.steps + entered_from l.here t l.from ≡ l.fn.steps + entered_from l.here t l.first;
      grown : (l.from ≡ l.first) ⊎ (l.fn.steps < l.steps);
      least : l.fn.steps ≤ l.steps;
      terms : g.R.Refs.terms l.refs l.memory ≡ u;
      later : g.R.Refs.later l.fn.memory l.memory;
      behind : cost_from l.here l.from ≤ cost_from l.here l.first;
    }

abbrev pub decreases-statements-each : goal.decreases-statements-each
decreases-statements-each g l = cost_from l.here l.from
