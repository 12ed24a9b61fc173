use Rattle.std.proofs.lemmas.Result.{err_from_is_err_and}
use Rattle.file_passes.specs.Outside.{outside}
use Rattle.file_passes.proofs.Coming.{comes-stopped, comes-mapped}
use Rattle.run_passes.specs.declared.run_job.RunJob.TheVariants.{Feeders}
use Rattle.run_passes.specs.Inside.Plans.{asked_feeders}
use Rattle.run_passes.specs.RefusalOrder.{bind_pass}
use Rattle.run_passes.proofs.feeders_passes.behind_text.Goals as goal

pub returns : goal.returns
returns g c =
    comes-mapped (bind_pass c.args.name.now c.args.text) (λ bound. Feeders bound) (outside g.F.Files.seen c.args.files.now c.bind_pass.new.files)
    c.args.readings.now c.bind_pass.new.readings c.in_ok-bound.bound c.in_ok-bound.ensures.comes

pub returns-in_err-bound : goal.returns-in_err-bound
returns-in_err-bound g c =
    let p = err_from_is_err_and c.from_residual.result c.from_residual.ensures.1 in
    rw (p.1, p.2) (comes-stopped (bind_pass c.args.name.now c.args.text) asked_feeders
    (outside g.F.Files.seen c.args.files.now c.bind_pass.new.files)
    c.args.readings.now c.bind_pass.new.readings c.in_err-bound.field-0.0 c.in_err-bound.ensures.comes)
