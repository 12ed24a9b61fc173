use Rattle.std.proofs.Common.{◌≡◌, refl, ℕ, true, drop, Some, List}
use Rattle.std.specs.Prelude.{is_some}
use Rattle.rule_laws.specs.Meaning.{Precedent, Named, Components}
use Rattle.rule_laws.specs.RuleSystem.{RuleSystem}
use Rattle.rule_model.specs.System.{system_of}
use Rattle.rule_model.specs.Governing.{rules_for}
use Rattle.rule_evaluate.specs.Course.{MayRead}
use Rattle.rule_evaluate.specs.Known.{listed_readings}
use Rattle.rule_cases.proofs.courses.by_answers.Goals as goal

-- everything may be asked
all_read : (w : RuleSystem) (c : ℕ) (p : Precedent) → MayRead w (λ question. true) c p
all_read w c (Named r) = λ x is. refl
all_read w c (Components dim) = λ is. refl

pub evaluate-requires-clause-may_ask : goal.evaluate-requires-clause-may_ask
evaluate-requires-clause-may_ask g c =
    c.only_what_formulas_read_is_asked.ensures (system_of c.args.model.now) _ c.args.cell (λ question. true)
    (drop c.args.statement (rules_for c.args.model.now c.args.cell)) refl
    (λ rule f has is p read. all_read (system_of c.args.model.now) c.args.cell p)
