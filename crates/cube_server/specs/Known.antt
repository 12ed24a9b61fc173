-- What a run finds in files whose bytes are known.
use Rattle.std.specs.Prelude.{◌≡◌, ℕ, List, Option, Some}
use Rattle.file_passes.specs.Course.{Contents, IsCourse}
use Rattle.file_passes.specs.Pass.{Readings, Refuses}
use Rattle.file_passes.specs.declared.refusal.Refusal.{Refusal}
use Rattle.run_passes.specs.RefusalOrder.{run_of}
use Rattle.run_passes.specs.declared.run_job.RunJob.{RunJob}

-- the bytes are known, and a run of these words refuses a file
pub record RefusesFile (words : List (List ℕ)) (known : Contents) : Type 0 where
  pub content : List ℕ → Option (List ℕ)
  pub readings : Readings
  pub refusal : Refusal
  pub is_known : known ≡ Some content
  pub course : IsCourse (run_of words) (Some content) readings
  pub refuses : (run_of words).stops readings (Refuses refusal)

-- the bytes are known, and a run of these words finds a job
pub record FindsJob (words : List (List ℕ)) (known : Contents) : Type 0 where
  pub content : List ℕ → Option (List ℕ)
  pub readings : Readings
  pub job : RunJob
  pub is_known : known ≡ Some content
  pub course : IsCourse (run_of words) (Some content) readings
  pub finds : (run_of words).finds readings job
