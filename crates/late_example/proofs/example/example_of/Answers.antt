use Rattle.std.proofs.Common.{◌∙◌, sym, subst, ℕ}
use Rattle.rule_model.specs.Conditions.{IsPrecedent}
use Rattle.ref_order.specs.Reads.{precedent_of}
use Rattle.late_example.proofs.Examples.{no-position, late-there, late-at, only-is, no-cell, example-of}
use Rattle.late_example.proofs.example.example_of.Goals as goal

pub late_from-requires-clause-known : goal.late_from-requires-clause-known
late_from-requires-clause-known c = c.begin.ensures c.args.model.now c.args.cube c.args.statement.now.area (c.none-known.ensures c.args.model.now c.args.cube)

pub returns-in_default : goal.returns-in_default
returns-in_default c =
    no-position c.args.model.now c.space-space.ensures.valid c.space-space.ensures.rules c.args.cube c.requires.cube c.args.statement.now c.requires.statement.area c.args.kind (precedent_of c.args.read) c.requires.read
    (sym c.in_default.is ∙ c.late_from.ensures.late)

pub first_late-requires-clause-late : goal.first_late-requires-clause-late
first_late-requires-clause-late c =
    late-there c.args.model.now c.space-space.ensures.valid c.space-space.ensures.rules c.args.cube c.requires.cube c.args.statement.now c.requires.statement.area c.args.kind (precedent_of c.args.read) c.requires.read c.in-Some.position
    (sym c.in-Some.is ∙ c.late_from.ensures.late)

pub first_late-requires-clause-position : goal.first_late-requires-clause-position
first_late-requires-clause-position c =
    (late-at c.args.model.now c.space-space.ensures.valid c.space-space.ensures.rules c.args.cube c.requires.cube c.args.statement.now c.requires.statement.area c.args.kind (precedent_of c.args.read) c.requires.read c.in-Some.position
    (sym c.in-Some.is ∙ c.late_from.ensures.late)).within

pub shown-requires-clause-cell : goal.shown-requires-clause-cell
shown-requires-clause-cell c =
    (only-is c.args.model.now c.space-space.ensures.valid c.space-space.ensures.rules c.args.cube c.requires.cube c.args.statement.now c.requires.statement.area (record { kind = c.args.kind; read = c.args.read; position = c.in-Some.position }) c.requires.read
    (sym c.in-Some.is ∙ c.late_from.ensures.late) c.in_ok-narrow.narrow c.in_ok-narrow.ensures c.in-Some-2.cell (sym c.in-Some-2.is ∙ c.in_ok-cell.ensures)).0

pub shown-requires-clause-read : goal.shown-requires-clause-read
shown-requires-clause-read c =
    subst (λ (k : ℕ). IsPrecedent c.args.model.now.space k (precedent_of c.args.read)) (sym (only-is c.args.model.now c.space-space.ensures.valid c.space-space.ensures.rules c.args.cube c.requires.cube c.args.statement.now c.requires.statement.area (record { kind = c.args.kind; read = c.args.read; position = c.in-Some.position }) c.requires.read
    (sym c.in-Some.is ∙ c.late_from.ensures.late) c.in_ok-narrow.narrow c.in_ok-narrow.ensures c.in-Some-2.cell (sym c.in-Some-2.is ∙ c.in_ok-cell.ensures)).1) c.requires.read

pub returns-in-Some-2 : goal.returns-in-Some-2
returns-in-Some-2 c =
    example-of c.args.model.now c.space-space.ensures.valid c.space-space.ensures.rules c.args.cube c.requires.cube c.args.statement.now c.requires.statement.area (record { kind = c.args.kind; read = c.args.read; position = c.in-Some.position }) c.requires.read
    (sym c.in-Some.is ∙ c.late_from.ensures.late) c.in_ok-narrow.narrow c.in_ok-narrow.ensures c.in-Some-2.cell (sym c.in_ok-cell.ensures ∙ c.in-Some-2.is) c.shown.result c.shown.ensures

pub returns : goal.returns
returns c =
    absurd (no-cell c.args.model.now c.space-space.ensures.valid c.space-space.ensures.rules c.args.cube c.requires.cube c.args.statement.now c.requires.statement.area (record { kind = c.args.kind; read = c.args.read; position = c.in-Some.position }) c.requires.read
    (sym c.in-Some.is ∙ c.late_from.ensures.late) c.in_ok-narrow.narrow c.in_ok-narrow.ensures (sym c.in_ok-cell.ensures ∙ c.in-None.is))
