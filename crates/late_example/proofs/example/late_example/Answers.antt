use Rattle.std.proofs.Common.{◌∙◌, sym, ap, subst, true, false}
use Rattle.std.specs.Option.{option_copied}
use Rattle.rule_model.specs.BoundModel.{rules_of}
use Rattle.rule_model.specs.Conditions.{IsStatement}
use Rattle.late_example.specs.Example.{IsAnswer}
use Rattle.late_example.specs.Inside.Answers.{IsAnswerFor}
use Rattle.late_example.proofs.Examples.{at-list, ok-map, answer-both}
use Rattle.late_example.proofs.example.late_example.Goals as goal

pub example_of_kind-requires-clause-statement : goal.example_of_kind-requires-clause-statement
example_of_kind-requires-clause-statement c =
    at-list (IsStatement c.args.model.now.space c.args.cube) (rules_of c.args.model.now c.args.cube).statements c.args.statement c.in-Some.statement.now (c.space-space.ensures.rules.cube c.args.cube c.requires).statements
    (sym c.statement_at.ensures ∙ ap option_copied c.in-Some.is)

pub example_of_kind-requires-in-None-clause-statement :
    goal.example_of_kind-requires-in-None-clause-statement
example_of_kind-requires-in-None-clause-statement c =
    at-list (IsStatement c.args.model.now.space c.args.cube) (rules_of c.args.model.now c.args.cube).statements c.args.statement c.in-Some.statement.now (c.space-space.ensures.rules.cube c.args.cube c.requires).statements
    (sym c.statement_at.ensures ∙ ap option_copied c.in-Some.is)

pub returns-in-None : goal.returns-in-None
returns-in-None c =
    ok-map c.example_of_kind-in-None.result (IsAnswerFor c.args.model.now c.args.cube c.in-Some.statement.now c.args.reference false) (IsAnswer c.args.model.now c.args.cube c.args.statement c.args.reference) c.example_of_kind-in-None.ensures
    (λ found cons. answer-both c.args.model.now c.args.cube c.args.statement c.args.reference c.in-Some.statement.now (sym c.statement_at.ensures ∙ ap option_copied c.in-Some.is) found
    (subst (IsAnswerFor c.args.model.now c.args.cube c.in-Some.statement.now c.args.reference true) c.in-None.is c.in_ok-example.ensures) cons)
