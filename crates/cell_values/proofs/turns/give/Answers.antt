use Rattle.std.proofs.Common.{◌≤◌, ◌∙◌, refl, sym, ap, subst, ℤ, None}
use Rattle.cube_fixed.specs.Total.{with_term}
use Rattle.cell_values.specs.declared.frames.Evaluation.{Evaluation}
use Rattle.cell_values.specs.declared.frames.LeafSum.{LeafSum}
use Rattle.cell_values.specs.declared.frames.ComponentSum.{ComponentSum}
use Rattle.cell_values.specs.declared.frames.Frame.{Frame}
use Rattle.cell_values.specs.Inside.Frames.{IsWaiting, work_left, open_asks}
use Rattle.cell_values.specs.Inside.Questions.{cost_on}
use Rattle.sparse_sum.proofs.Placed.{word-is}
use Rattle.cell_values.proofs.FrameFacts.{evaluation-answered, leaves-given, components-given, leaves-size, components-size}
use Rattle.cell_values.proofs.turns.give.Goals as goal

pub returns-in_ok-push-in-Evaluation-clause-left : goal.returns-in_ok-push-in-Evaluation-clause-left
returns-in_ok-push-in-Evaluation-clause-left c =
    let v = c.args.version.now in
    let e = c.in-Evaluation.evaluation in
    let after : Evaluation = record { cell = e.cell; statement = e.statement; known = c.push.new.self; asked = None; pending = e.pending } in
    let waits = subst (λ (f : Frame). IsWaiting v f c.args.question c.args.asked) c.in-Evaluation.is c.requires.waits in
    let (work, less) = evaluation-answered v e after c.args.question c.args.asked c.args.answer.now waits c.requires.right refl refl c.in_ok-push-in-Evaluation.ensures.items refl refl in
    subst (λ (f : Frame). cost_on v (open_asks v c.push.new.self.items None e.cell) ≤ work_left v f) (sym c.in-Evaluation.is) less

pub returns-in-Leaves-clause-work : goal.returns-in-Leaves-clause-work
returns-in-Leaves-clause-work c =
    let v = c.args.version.now in
    let s = c.in-Leaves.sum in
    let after : LeafSum = record { walk = c.add.new.self; weight = s.weight } in
    let waits = subst (λ (f : Frame). IsWaiting v f c.args.question c.args.asked) c.in-Leaves.is c.requires.waits in
    let word = word-is s.weight (leaves-size v s c.args.question c.args.asked waits) in
    let term = c.add.ensures.total ∙ ap (λ (z : ℤ). with_term s.walk.total z c.args.answer.now) word in
    let (work, less) = leaves-given v s after c.args.question c.args.asked c.args.answer.now waits c.requires.right term c.add.ensures.cell c.add.ensures.from in
    work

pub returns-in-Components-clause-work : goal.returns-in-Components-clause-work
returns-in-Components-clause-work c =
    let v = c.args.version.now in
    let s = c.in-Components.sum in
    let after : ComponentSum = record { cell = s.cell; dim = s.dim; sum = c.add-in-Components.new.self; next = s.next; weight = s.weight } in
    let waits = subst (λ (f : Frame). IsWaiting v f c.args.question c.args.asked) c.in-Components.is c.requires.waits in
    let word = word-is s.weight (components-size v s c.args.question c.args.asked waits) in
    let term = c.add-in-Components.ensures ∙ ap (λ (z : ℤ). with_term s.sum z c.args.answer.now) word in
    let (work, less) = components-given v s after c.args.question c.args.asked c.args.answer.now waits c.requires.right term refl refl refl in
    work
