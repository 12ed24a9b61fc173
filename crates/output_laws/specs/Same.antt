-- What the laws of jobs that are the same say, and that one user's text follows from the bytes of the files.
use Rattle.std.specs.Prelude.{◌≡◌, ℕ, List, [], ◌∷◌, Option, Some, length}
use Rattle.cube_server.specs.Answer.{IsDone, IsOutput}
use Rattle.cube_words.specs.Words.{Run, IsPlan}
use Rattle.file_passes.specs.Outside.{Outside}
use Rattle.file_passes.specs.Pass.{Readings}
use Rattle.output_laws.specs.SameJob.{IsSameJob}
use Rattle.run_passes.specs.declared.run_job.RunJob.{RunJob}
use Rattle.run_passes.specs.declared.run_job.RunJob.TheVariants as jobs

-- the job runs the commands of one user
abbrev pub ServesOneUser : RunJob → Type 0
ServesOneUser (jobs.Serve model users) = length users ≡ 1
ServesOneUser (jobs.Check model) = ⊥
ServesOneUser (jobs.Explain model file files) = ⊥
ServesOneUser (jobs.Feeders bound) = ⊥
ServesOneUser (jobs.Sample size) = ⊥

-- where one user runs, jobs that are the same have one text, whatever was read
abbrev pub SameJobsPrintTheSame : Type 0
SameJobsPrintTheSame =
    (readings more : Readings) (a b : RunJob) (text other : List ℕ) → ServesOneUser a → IsSameJob a b
    → IsOutput readings a text → IsOutput more b other → text ≡ other

-- two runs of one user that end with Done, over files of the same known bytes, have one text
abbrev pub OneUserHasOneText : Type 0
OneUserHasOneText =
    (words : List (List ℕ)) (content : List ℕ → Option (List ℕ)) (model user : List ℕ) (o p : Outside)
    (text other : List ℕ) → IsPlan words (Run model (user ∷ []))
    → o.known ≡ Some content → p.known ≡ Some content → IsDone words o text → IsDone words p other → text ≡ other
