use Rattle.std.proofs.Common.{sym, subst, inl, Ok}
use Rattle.std.proofs.lemmas.Result.{err_from_is_err_and}
use Rattle.cube_words.specs.Words.{texts_of}
use Rattle.file_passes.specs.Halting.{Comes}
use Rattle.file_passes.specs.Outside.{outside}
use Rattle.file_passes.specs.Pass.{◌>>=◌}
use Rattle.file_passes.proofs.Coming.{comes-stopped, comes-mapped}
use Rattle.file_passes.proofs.Going.{on-refl}
use Rattle.run_passes.specs.declared.run_job.RunJob.TheVariants.{Explain}
use Rattle.run_passes.specs.RefusalOrder.{ready_pass}
use Rattle.run_passes.specs.Inside.Plans.{explained}
use Rattle.run_passes.proofs.passes.explain_pass.Goals as goal

pub returns : goal.returns
returns g c =
    let passes = ready_pass c.args.model.now (texts_of c.args.users.now) in
    let o = outside g.F.Files.seen c.args.files.now c.ready_pass.new.files in
    let came = comes-mapped passes (λ ready. Explain ready.model c.args.model.now ready.rule_files) o
    c.args.readings.now c.ready_pass.new.readings c.in_ok-ready.ready c.in_ok-ready.ensures in
    subst (λ file. Comes (passes >>= explained c.args.model.now) o c.args.readings.now c.ready_pass.new.readings
    (Ok (Explain c.in_ok-ready.ready.model file c.in_ok-ready.ready.rule_files))) (sym c.in-Ok.ensures) came

pub returns-in_err-ready : goal.returns-in_err-ready
returns-in_err-ready g c =
    let p = err_from_is_err_and c.from_residual.result c.from_residual.ensures.1 in
    rw (p.1, p.2) (comes-stopped (ready_pass c.args.model.now (texts_of c.args.users.now)) (explained c.args.model.now)
    (outside g.F.Files.seen c.args.files.now c.ready_pass.new.files)
    c.args.readings.now c.ready_pass.new.readings c.in_err-ready.field-0.0 c.in_err-ready.ensures)

pub returns-in-Err : goal.returns-in-Err
returns-in-Err g c = (on-refl (ready_pass c.args.model.now (texts_of c.args.users.now) >>= explained c.args.model.now) (g.F.Files.seen c.args.files.now).known c.args.readings.now, inl (λ base begun. begun))
