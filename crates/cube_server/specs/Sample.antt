-- The run of the generated sample.
use Rattle.std.specs.Prelude.{◌≡◌, ℕ, ℤ, List, [], ◌∷◌, map, Some, None, codes}
use Rattle.accepted.specs.Checks.{IsAccepted}
use Rattle.cell_versions.specs.Versions.{NumberedVersion}
use Rattle.cube_outside.specs.declared.memory_files.MemoryFiles.{MemoryFiles}
use Rattle.cube_outside.specs.NamedBytes.{bytes_named}
use Rattle.cube_sample.specs.Sample.{files_of}
use Rattle.feed_map.specs.FedCells.{AreFedCells}
use Rattle.file_passes.specs.Course.{IsCourse}
use Rattle.file_passes.specs.Pass.{Readings}
use Rattle.history.specs.declared.entry.Entry.{Entry}
use Rattle.history.specs.declared.told.Told.{Told}
use Rattle.history.specs.Version.{content_after}
use Rattle.layers.specs.Layered.{IsLayeredHistoryOf}
use Rattle.sandbox.specs.declared.act.Act.{Act}
use Rattle.rule_model.specs.BoundModel.{BoundModel}
use Rattle.run_passes.specs.RefusalOrder.{run_of}
use Rattle.run_passes.specs.declared.run_job.RunJob.TheVariants.{Serve}
use Rattle.sample_summary.specs.Reading.{summary_on}
use Rattle.user_session.specs.Content.{after, opening}
use Rattle.user_session.specs.Layers.{answer}
use Rattle.user_session.specs.declared.command.PlanCommand.{PlanCommand}
use Rattle.user_session.specs.declared.content.Content.{Content}

-- the sample is run by these words
abbrev pub sample_words : List (List ℕ)
sample_words = codes "model.txt" ∷ codes "one.txt" ∷ codes "two.txt" ∷ []

-- the passes of a run find this model and these users' commands in the files of the sample of this size
pub record IsSampleRun (size : ℕ) (model : BoundModel) (users : List (List (Act PlanCommand))) : Type 0 where
  pub files : MemoryFiles
  pub are : map (λ pair. (pair.0.items, pair.1.items)) files.pairs.items ≡ files_of size
  pub readings : Readings
  pub course : IsCourse (run_of sample_words) (Some (bytes_named files.pairs.items)) readings
  pub accepted : (run_of sample_words).finds readings (Serve model users)

-- the model is an accepted one, and the text sums up a version that has what a history of the sample's users leaves
pub record IsSummary (size : ℕ) (text : List ℕ) : Type 0 where
  pub model : BoundModel
  pub users : List (List (Act PlanCommand))
  pub run : IsSampleRun size model users
  pub accepted : IsAccepted model
  pub told : List (List (Told (List ℕ)))
  pub log : List (Entry (List (ℕ × ℤ)))
  pub history : IsLayeredHistoryOf answer after (opening model) None users told log
  pub version : NumberedVersion
  pub content : ◌≡◌ {A = Content} (record { model = version.model; stored = version.stored })
      (content_after after (opening model) log)
  pub fed : AreFedCells version.model version.stored version.fed
  pub is_text : Some text ≡ summary_on version size
