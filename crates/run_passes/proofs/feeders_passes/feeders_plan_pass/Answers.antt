use Rattle.std.proofs.lemmas.Result.{err_from_is_err_and}
use Rattle.file_passes.specs.Outside.{outside}
use Rattle.file_passes.proofs.Coming.{comes-stopped, comes-behind}
use Rattle.run_passes.specs.RefusalOrder.{text_pass}
use Rattle.run_passes.specs.Inside.Plans.{behind_feeders_text}
use Rattle.run_passes.proofs.PlanFacts.{steady-text}
use Rattle.run_passes.proofs.feeders_passes.feeders_plan_pass.Goals as goal

pub returns : goal.returns
returns g c =
    comes-behind g.F.Files.seen (text_pass c.args.model.now) (behind_feeders_text c.args.model.now) (steady-text c.args.model.now).kept
    c.args.files.now c.text_pass.new.files c.behind_text.new.files c.args.readings.now c.text_pass.new.readings c.behind_text.new.readings c.in_ok-text.text c.behind_text.result
    c.in_ok-text.ensures.known c.in_ok-text.ensures.comes c.behind_text.ensures

pub returns-in_err-text : goal.returns-in_err-text
returns-in_err-text g c =
    let p = err_from_is_err_and c.from_residual.result c.from_residual.ensures.1 in
    rw (p.1, p.2) (comes-stopped (text_pass c.args.model.now) (behind_feeders_text c.args.model.now)
    (outside g.F.Files.seen c.args.files.now c.text_pass.new.files)
    c.args.readings.now c.text_pass.new.readings c.in_err-text.field-0.0 c.in_err-text.ensures.comes)
