use Rattle.std.proofs.Common.{ap}
use Rattle.rule_laws.specs.declared.finding.Finding.{Finding}
use Rattle.rule_laws.specs.declared.finding.TruthFinding.{TruthFinding}
use Rattle.rule_laws.proofs.FindingFacts.{finding-same, truth_finding-same, finding-counted, each_reference-is}
use Rattle.rule_laws.proofs.laws.findings_rest_on_references.Goals as goal

pub returns-clause-zero : goal.returns-clause-zero
returns-clause-zero c f covers other same = ap (λ (a : Finding). a.is_zero) (finding-same covers other f same)

pub returns-clause-blamed : goal.returns-clause-blamed
returns-clause-blamed c f covers other same = ap (λ (a : Finding). a.blamed) (finding-same covers other f same)

pub returns-clause-sure : goal.returns-clause-sure
returns-clause-sure c truth covers other same = ap (λ (a : TruthFinding). a.sure) (truth_finding-same covers other truth same)

pub returns-clause-within : goal.returns-clause-within
returns-clause-within c f covers = (finding-counted covers f).1

pub returns-clause-each : goal.returns-clause-each
returns-clause-each c f test = each_reference-is test f
