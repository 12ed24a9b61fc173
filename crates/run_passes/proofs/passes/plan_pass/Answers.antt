use Rattle.std.proofs.Common.{refl}
use Rattle.file_passes.proofs.Going.{on-refl}
use Rattle.cube_words.specs.Words.{Sample}
use Rattle.run_passes.specs.RefusalOrder.{plan_pass}
use Rattle.run_passes.proofs.passes.plan_pass.Goals as goal

pub returns-in-Run : goal.returns-in-Run
returns-in-Run g c = rw c.in-Run.is c.run_pass.ensures

pub returns-in-Check : goal.returns-in-Check
returns-in-Check g c = rw c.in-Check.is c.check_pass.ensures

pub returns-in-Explain : goal.returns-in-Explain
returns-in-Explain g c = rw c.in-Explain.is c.explain_pass.ensures

pub returns-in-Feeders : goal.returns-in-Feeders
returns-in-Feeders g c = rw c.in-Feeders.is c.feeders_plan_pass.ensures

pub returns-in-Sample : goal.returns-in-Sample
returns-in-Sample g c =
    rw c.in-Sample.is ((on-refl (plan_pass (Sample c.in-Sample.size)) (g.F.Files.seen c.args.files.now).known c.args.readings.now, refl, λ base begun. begun), refl)
