use Rattle.std.proofs.lemmas.Result.{err_from_is_err_and}
use Rattle.cube_words.specs.Words.{texts_of}
use Rattle.file_passes.specs.Outside.{outside}
use Rattle.file_passes.proofs.Coming.{comes-stopped, comes-behind}
use Rattle.run_passes.specs.RefusalOrder.{model_pass}
use Rattle.run_passes.specs.Inside.Plans.{behind_model}
use Rattle.run_passes.proofs.PlanFacts.{kept-model}
use Rattle.run_passes.proofs.passes.ready_pass.Goals as goal

pub returns : goal.returns
returns g c =
    comes-behind g.F.Files.seen (model_pass c.args.model.now) (behind_model (texts_of c.args.users.now)) (kept-model c.args.model.now)
    c.args.files.now c.model_pass.new.files c.behind_model.new.files c.args.readings.now c.model_pass.new.readings c.behind_model.new.readings c.in_ok-checked.checked c.behind_model.result
    c.in_ok-checked.ensures.known c.in_ok-checked.ensures.comes c.behind_model.ensures

pub returns-in_err-checked : goal.returns-in_err-checked
returns-in_err-checked g c =
    let p = err_from_is_err_and c.from_residual.result c.from_residual.ensures.1 in
    rw (p.1, p.2) (comes-stopped (model_pass c.args.model.now) (behind_model (texts_of c.args.users.now))
    (outside g.F.Files.seen c.args.files.now c.model_pass.new.files)
    c.args.readings.now c.model_pass.new.readings c.in_err-checked.field-0.0 c.in_err-checked.ensures.comes)
