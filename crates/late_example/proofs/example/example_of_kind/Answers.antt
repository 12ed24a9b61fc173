use Rattle.std.proofs.Common.{◌∙◌, sym, ap}
use Rattle.std.specs.Prelude.{option_map}
use Rattle.ref_order.specs.Reads.{precedent_of}
use Rattle.late_example.specs.Inside.Answers.{IsAnswerOf, IsAnswerFor}
use Rattle.late_example.proofs.Examples.{read-precedent, answer-for, ok-map}
use Rattle.late_example.proofs.example.example_of_kind.Goals as goal

pub example_of-requires-clause-read : goal.example_of-requires-clause-read
example_of-requires-clause-read c =
    read-precedent c.args.model.now c.args.cube c.args.statement.now c.args.reference c.args.kind (precedent_of c.in-Some.read) c.requires.statement (sym c.in_ok-read.ensures ∙ ap (option_map precedent_of) c.in-Some.is)

pub returns-in-Some : goal.returns-in-Some
returns-in-Some c =
    ok-map c.example_of.result (IsAnswerOf c.args.model.now c.args.cube c.args.statement.now c.args.kind (precedent_of c.in-Some.read)) (IsAnswerFor c.args.model.now c.args.cube c.args.statement.now c.args.reference c.args.kind) c.example_of.ensures
    (answer-for c.args.model.now c.args.cube c.args.statement.now c.args.reference c.args.kind (precedent_of c.in-Some.read) (sym c.in_ok-read.ensures ∙ ap (option_map precedent_of) c.in-Some.is))
