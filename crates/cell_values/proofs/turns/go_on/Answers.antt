use Rattle.std.proofs.Common.{◌+◌, ◌<◌, sym, subst, Some}
use Rattle.rule_evaluate.specs.declared.ask.Ask.TheVariants.{Value as of_value}
use Rattle.cell_values.specs.declared.frames.Frame.{Frame}
use Rattle.cell_values.specs.Inside.Frames.{IsWork, work_left, open_asks, leaves_left, components_left}
use Rattle.cell_values.specs.Inside.Questions.{cost_on, values_of, work_on}
use Rattle.cell_values.proofs.FrameFacts.{evaluation-waits, leaves-wait, components-wait}
use Rattle.cell_values.proofs.turns.go_on.Goals as goal

pub returns-in-Err-clause-turn : goal.returns-in-Err-clause-turn
returns-in-Err-clause-turn g c =
    let v = c.args.version.now in
    let e = c.in-Evaluation.evaluation in
    let work = subst (λ (f : Frame). IsWork v f c.args.question) c.in-Evaluation.is c.requires.work in
    let after = c.go_on.new.self in
    let (asked, waits, less) = evaluation-waits v e after c.args.question c.in-Err.asked work c.in-Err.ensures.missing c.go_on.ensures.own c.go_on.ensures.known c.go_on.ensures.cell in
    (asked, waits, subst (λ (f : Frame). cost_on v (open_asks v after.known.items (Some c.in-Err.asked) after.cell) + work_on v c.in-Err.asked < work_left v f) (sym c.in-Evaluation.is) less)

pub returns-in-Some-clause-turn : goal.returns-in-Some-clause-turn
returns-in-Some-clause-turn g c =
    let v = c.args.version.now in
    let work = subst (λ (f : Frame). IsWork v f c.args.question) c.in-Leaves.is c.requires.work in
    let (asked, waits, less) = leaves-wait v c.in-Leaves.sum c.go_on-in-Leaves.new.self c.args.question c.in-Some.cell work c.go_on-in-Leaves.ensures.cell c.in-Some.ensures.stops in
    (asked, waits, subst (λ (f : Frame). cost_on v (values_of (leaves_left v c.go_on-in-Leaves.new.self)) + work_on v (of_value c.in-Some.cell) < work_left v f) (sym c.in-Leaves.is) less)

pub returns-in-Some-go_on-clause-turn : goal.returns-in-Some-go_on-clause-turn
returns-in-Some-go_on-clause-turn g c =
    let v = c.args.version.now in
    let work = subst (λ (f : Frame). IsWork v f c.args.question) c.in-Components.is c.requires.work in
    let (asked, waits, less) = components-wait v c.in-Components.sum c.go_on-in-Components.new.self c.args.question c.in-Some-go_on.cell work c.go_on-in-Components.ensures.cell c.in-Some-go_on.ensures.stops in
    (asked, waits, subst (λ (f : Frame). cost_on v (values_of (components_left v c.go_on-in-Components.new.self)) + work_on v (of_value c.in-Some-go_on.cell) < work_left v f) (sym c.in-Components.is) less)
