use Rattle.std.proofs.Common.{refl, inl}
use Rattle.cube_words.specs.Words.{asked, texts_of}
use Rattle.file_passes.proofs.Going.{on-refl}
use Rattle.run_passes.specs.RefusalOrder.{run_of}
use Rattle.run_passes.proofs.PlanFacts.{run-planned}
use Rattle.run_passes.proofs.passes.run_passes.Goals as goal

pub returns-in-Ok : goal.returns-in-Ok
returns-in-Ok g c =
    run-planned g.F.Files.seen (texts_of c.args.words.now) c.args.files.now c.plan_pass.new.files c.args.readings.now c.plan_pass.new.readings
    (asked c.in-Ok.plan) c.plan_pass.result c.in-Ok.ensures c.plan_pass.ensures

pub returns-in-Err-OutOfMemory : goal.returns-in-Err-OutOfMemory
returns-in-Err-OutOfMemory g c = (on-refl (run_of (texts_of c.args.words.now)) (g.F.Files.seen c.args.files.now).known c.args.readings.now, inl (λ base begun. begun))

pub returns-in-Err-Usage : goal.returns-in-Err-Usage
returns-in-Err-Usage g c = (
  on-refl (run_of (texts_of c.args.words.now)) (g.F.Files.seen c.args.files.now).known c.args.readings.now,
  (inl (c.in-Err-Usage.ensures c.in-Err-Usage.field-0-is, refl), refl, λ base begun. begun),
)
