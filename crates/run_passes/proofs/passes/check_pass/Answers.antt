use Rattle.std.proofs.Common.{Ok, sym, subst}
use Rattle.std.proofs.lemmas.Result.{err_from_is_err_and}
use Rattle.cube_words.specs.Words as words
use Rattle.file_passes.specs.Halting.{Comes}
use Rattle.file_passes.specs.Outside.{outside}
use Rattle.file_passes.proofs.Coming.{comes-stopped, comes-mapped}
use Rattle.run_passes.specs.declared.run_job.RunJob.TheVariants.{Check}
use Rattle.run_passes.specs.RefusalOrder.{model_pass, plan_pass}
use Rattle.run_passes.proofs.PlanFacts.{accept}
use Rattle.run_passes.proofs.passes.check_pass.Goals as goal

pub returns : goal.returns
returns g c =
    let o = outside g.F.Files.seen c.args.files.now c.model_pass.new.files in
    let came = comes-mapped (model_pass c.args.model.now) (λ checked. Check checked.model) o
    c.args.readings.now c.model_pass.new.readings c.in_ok-checked.checked c.in_ok-checked.ensures.comes in
    subst (λ w. Comes (plan_pass (words.Check c.args.model.now)) o c.args.readings.now c.model_pass.new.readings (Ok (Check w.model))) (sym c.checked.view_is) came

pub returns-in_err-checked : goal.returns-in_err-checked
returns-in_err-checked g c =
    let p = err_from_is_err_and c.from_residual.result c.from_residual.ensures.1 in
    rw (p.1, p.2) (comes-stopped (model_pass c.args.model.now) accept
    (outside g.F.Files.seen c.args.files.now c.model_pass.new.files)
    c.args.readings.now c.model_pass.new.readings c.in_err-checked.field-0.0 c.in_err-checked.ensures.comes)
