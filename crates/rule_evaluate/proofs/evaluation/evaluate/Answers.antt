use Rattle.std.proofs.Common.{◌≡◌, ◌+◌, ◌≤◌, true, sym, ap, ◌∙◌, subst, take, IfOk, IsSome}
use Rattle.cube_space.specs.Cells.{is_place, cube_of, elements_of}
use Rattle.cube_space.proofs.Places.{cell-place, is_place-from}
use Rattle.rule_model.specs.Governing.{governing_from}
use Rattle.rule_evaluate.specs.Inside.Scene.{Scene, value_from, passes_from, entered_from}
use Rattle.rule_evaluate.proofs.SceneFacts.{part-governs}
use Rattle.rule_evaluate.proofs.evaluation.evaluate.Goals as goal

pub new-here-requires-clause-placed : goal.new-here-requires-clause-placed
new-here-requires-clause-placed g c =
    let space = c.args.model.now.space in
    ap (λ k. is_place space k (take c.place_of-cube.result.1 c.place_of-cube.new.at)) c.place_of-cube.ensures.cube
    ∙ ap (is_place space (cube_of space c.args.cell)) c.place_of-cube.ensures.elements
    ∙ is_place-from space (cube_of space c.args.cell) (elements_of space c.args.cell) (cell-place space c.args.cell c.requires.cell).place

pub statements-requires : goal.statements-requires
unfolding passes_from
statements-requires g c =
    let u = g.R.Refs.terms c.args.refs.now c.args.memory.now in
    subst (λ s. passes_from s (g.R.Refs.readings u) (g.R.Refs.may_ask u) c.args.statement ≡ true) (sym c.new-here.ensures) c.requires.may_ask

pub returns-clause-value : goal.returns-clause-value
unfolding value_from
returns-clause-value g c =
    let t = g.R.Refs.readings (g.R.Refs.terms c.args.refs.now c.args.memory.now) in
    subst (λ s. IfOk c.statements.result (λ v. v ≡ value_from s t c.args.statement)) c.new-here.ensures c.statements.ensures.value

pub returns-clause-counted : goal.returns-clause-counted
unfolding entered_from
returns-clause-counted g c =
    let t = g.R.Refs.readings (g.R.Refs.terms c.args.refs.now c.args.memory.now) in
    subst (λ s. IfOk c.statements.result (λ v. c.statements.new.steps ≡ c.args.steps.now + entered_from s t c.args.statement)) c.new-here.ensures c.statements.ensures.counted

pub returns-clause-started : goal.returns-clause-started
returns-clause-started g c =
    let here : Scene = record { model = c.args.model.now; cell = c.args.cell } in
    c.statements.ensures.started (subst (λ s. IsSome (governing_from s.model s.cell c.args.statement)) (sym c.new-here.ensures) (part-governs here c.args.statement c.requires.part))

pub returns-clause-most : goal.returns-clause-most
unfolding entered_from
returns-clause-most g c =
    let t = g.R.Refs.readings (g.R.Refs.terms c.args.refs.now c.args.memory.now) in
    subst (λ s. c.statements.new.steps ≤ c.args.steps.now + entered_from s t c.args.statement) c.new-here.ensures c.statements.ensures.most
