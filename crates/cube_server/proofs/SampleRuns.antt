-- The run of a sample, by what its passes come to.
use Rattle.std.proofs.Common.{◌≡◌, ℕ, List, [], map, Some, Ok, subst}
use Rattle.cube_outside.specs.NamedBytes.{bytes_named}
use Rattle.cube_outside.specs.declared.memory_files.MemoryFiles.{MemoryFiles}
use Rattle.cube_sample.specs.Sample.{files_of}
use Rattle.file_passes.specs.Course.{IsCourse}
use Rattle.file_passes.specs.Halting.{Comes}
use Rattle.file_passes.specs.Outside.{Outside}
use Rattle.file_passes.specs.Pass.{Readings}
use Rattle.file_passes.proofs.Going.{course-of}
use Rattle.rule_model.specs.BoundModel.{BoundModel}
use Rattle.run_passes.specs.RefusalOrder.{run_of}
use Rattle.run_passes.specs.declared.run_job.RunJob.{RunJob}
use Rattle.run_passes.specs.declared.run_job.RunJob.TheVariants.{Serve}
use Rattle.sandbox.specs.declared.act.Act.{Act}
use Rattle.user_session.specs.declared.command.PlanCommand.{PlanCommand}
use Rattle.cube_server.specs.Sample.{IsSampleRun, sample_words}

pub sample-run : (size : ℕ) (files : MemoryFiles) (o : Outside) (words : List (List ℕ)) (first readings : Readings) (job : RunJob) (model : BoundModel) (users : List (List (Act PlanCommand)))
    → map (λ pair. (pair.0.items, pair.1.items)) files.pairs.items ≡ files_of size → o.known ≡ Some (bytes_named files.pairs.items)
    → words ≡ sample_words → first ≡ [] → job ≡ Serve model users → Comes (run_of words) o first readings (Ok job) → IsSampleRun size model users
sample-run size files o words first readings job model users are known same none is began =
    let begun = subst (λ (l : Readings). Comes (run_of words) o l readings (Ok job)) none began in
    let came = subst (λ (w : List (List ℕ)). Comes (run_of w) o [] readings (Ok job)) same begun in
    record {
      files = files;
      are = are;
      readings = readings;
      course = subst (λ k. IsCourse (run_of sample_words) k readings) known (course-of (run_of sample_words) o.known readings came.0.0);
      accepted = subst (λ (j : RunJob). (run_of sample_words).finds readings j) is came.1;
    }
