use Rattle.std.proofs.Common.{◌≡◌, ◌++◌, map, drop}
use Rattle.script_bind.specs.Binding.{in_order, statement_of, case_of}
use Rattle.script_bind.proofs.statements.+statements.Given as goal

abbrev pub invariant-cases_of-each : goal.invariant-cases_of-each
invariant-cases_of-each l =
    (l.cases.items ++ (in_order (map (case_of l.words) (drop l.arm-index l.arms)) l.next).0
    ≡ (in_order (map (case_of l.words) l.arms) l.initial.next).0)
    × ((in_order (map (case_of l.words) (drop l.arm-index l.arms)) l.next).1
    ≡ (in_order (map (case_of l.words) l.arms) l.initial.next).1)

abbrev pub invariant-statements_of-each : goal.invariant-statements_of-each
invariant-statements_of-each l =
    (l.statements.items ++ (in_order (map (statement_of l.words) (drop l.line-index l.lines)) l.next).0
    ≡ (in_order (map (statement_of l.words) l.lines) l.initial.next).0)
    × ((in_order (map (statement_of l.words) (drop l.line-index l.lines)) l.next).1
    ≡ (in_order (map (statement_of l.words) l.lines) l.initial.next).1)
