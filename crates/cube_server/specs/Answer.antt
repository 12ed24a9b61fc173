-- Which text each end of a run allows, and what may have been written.
use Rattle.std.specs.Prelude.{◌≡◌, ℕ, ℤ, List, [], ◌∷◌, ◌++◌, ◌⊎◌, Option, None, String}
use Rattle.std.specs.Io.KnownBytes.{Appends}
use Rattle.std.specs.declared.alloc.Global.{Global}
use Rattle.accepted.specs.Checks.{IsAccepted}
use Rattle.cube_outside.specs.Bytes.{AppendsPart}
use Rattle.cube_outside.specs.Counts.{Rose}
use Rattle.cube_outside.specs.Seen.{Seen}
use Rattle.history.specs.declared.entry.Entry.{Entry}
use Rattle.history.specs.declared.told.Told.{Told}
use Rattle.layers.specs.Layered.{IsLayeredHistoryOf}
use Rattle.sandbox.specs.declared.act.Act.{Act}
use Rattle.user_session.specs.Content.{opening, after}
use Rattle.user_session.specs.Layers.{answer}
use Rattle.run_passes.specs.declared.run_job.RunJob.{RunJob}
use Rattle.run_passes.specs.declared.run_job.RunJob.TheVariants.{Serve, Check, Explain, Feeders, Sample}
use Rattle.file_passes.specs.declared.refusal.Refusal.{Refusal}
use Rattle.cube_server.specs.declared.status.Status.{Status}
use Rattle.cube_server.specs.declared.status.Status.TheVariants.{Done, Usage, Refused, ReadFault, WriteFault, NoMemory}
use Rattle.feed_print.specs.FoundText.{IsFoundText}
use Rattle.file_passes.specs.Course.{IsCourse, names_of}
use Rattle.file_passes.specs.Outside.{Outside, outside}
use Rattle.cube_server.specs.Output.{output, refused_text, unread_text, usage_text}
use Rattle.file_passes.specs.Pass.{Readings, Refuses, IsTurnOf}
use Rattle.run_passes.specs.RefusalOrder.{run_of}
use Rattle.model_counts.specs.Counts.{accepted_text}
use Rattle.rule_model.specs.BoundModel.{BoundModel}
use Rattle.user_session.specs.declared.command.PlanCommand.{PlanCommand}
use Rattle.cube_server.specs.Sample.{IsSummary}
use Rattle.cube_words.specs.Words.{Plan, IsPlan, IsExplain, texts_of}
use Rattle.explained_model.specs.Late.{AreLateLines}
use Rattle.explained_model.specs.Unfed.{AreUnfedLines}
use Rattle.note_lines.specs.Notes.{AreNotes}
use Rattle.explanation.specs.Explanation.{IsExplanation}

-- The model is an accepted one, and the text is what the users were told, and the one history. Each user begins without
-- a sandbox. Each reply is that of the user's act on the version at its place, with what the user's own sandbox keeps
-- there; each entry is an act that commits on the version of its place; and the history has no other entry.
pub record IsServed (model : BoundModel) (users : List (List (Act PlanCommand))) (text : List ℕ) : Type 0 where
  pub accepted : IsAccepted model
  pub told : List (List (Told (List ℕ)))
  pub log : List (Entry (List (ℕ × ℤ)))
  pub history : IsLayeredHistoryOf answer after (opening model) None users told log
  pub is_text : text ≡ output told log

-- the model is accepted, and notes follow, by the texts of the model file and the rule files of these names
pub record IsNoted
    (readings : Readings) (model : BoundModel) (file : List ℕ) (files : List (List ℕ)) (text : List ℕ) : Type 0 where
  pub accepted : IsAccepted model
  pub notes : List ℕ
  pub are : AreNotes readings file files model notes
  pub is_text : text ≡ accepted_text model ++ notes

-- the text of each job over the files that were read: of users, that the model is accepted, with notes or without, the
-- feeders that are found, or the sample's summary
abbrev pub IsOutput : Readings → RunJob → List ℕ → Type 0
IsOutput readings (Serve model users) text = IsServed model users text
IsOutput readings (Check model) text = IsAccepted model × (text ≡ accepted_text model)
IsOutput readings (Explain model file files) text = IsNoted readings model file files text
IsOutput readings (Feeders bound) text = IsFoundText bound.model bound.asking text
IsOutput readings (Sample size) text = IsSummary size text

-- just the files that were read were asked for, each once, in this order, and then these
abbrev pub AsksJust : Outside → Readings → List (List ℕ) → Type 0
AsksJust o readings more = o.asked_after ≡ more ++ (names_of readings ++ o.asked_before)

-- the files that were read were asked for at their turns, each once, and besides them at most the one whose turn it was
pub record AsksInTurn (words : List (List ℕ)) (o : Outside) : Type 0 where
  pub readings : Readings
  pub course : IsCourse (run_of words) o.known readings
  pub asked : AsksJust o readings []
      ⊎ ((name : List ℕ) × IsTurnOf (run_of words) readings name × AsksJust o readings (name ∷ []))

-- every pass went through, and the text is the output of the job that they found
pub record IsDone (words : List (List ℕ)) (o : Outside) (text : List ℕ) : Type 0 where
  pub readings : Readings
  pub job : RunJob
  pub course : IsCourse (run_of words) o.known readings
  pub accepted : (run_of words).finds readings job
  pub no_read_failed : o.after ≡ o.before
  pub asked : AsksJust o readings []
  pub output : IsOutput readings job text

-- the words aren't in the grammar
abbrev pub HasNoPlan : List (List ℕ) → Type 0
HasNoPlan words = (plan : Plan) → ¬ IsPlan words plan

-- the words aren't in the grammar, and the text says how the program is called
pub record IsUsage (words : List (List ℕ)) (o : Outside) (text : List ℕ) : Type 0 where
  pub misfit : HasNoPlan words
  pub no_read_failed : o.after ≡ o.before
  pub asked : AsksJust o [] []
  pub is_text : text ≡ usage_text

-- the words ask to explain a refusal of this model
abbrev pub AskToExplain : List (List ℕ) → List ℕ → Type 0
AskToExplain words model = (users : List (List ℕ)) × IsExplain words model users

-- the lines that explain a refusal: what its file has there, of a reference that comes late an example, and of an
-- operand that isn't fed what would cover it
pub record IsExplained (readings : Readings) (model : List ℕ) (refusal : Refusal) (text : List ℕ) : Type 0 where
  pub place : List ℕ
  pub is_place : IsExplanation readings refusal place
  pub late : List ℕ
  pub is_late : AreLateLines model readings refusal.cause late
  pub unfed : List ℕ
  pub is_unfed : AreUnfedLines model readings refusal.cause unfed
  pub is_text : text ≡ (place ++ late) ++ unfed

-- a line says what is refused; lines that explain it follow exactly where the words ask for them
abbrev pub IsRefusalText : List (List ℕ) → Readings → Refusal → List ℕ → Type 0
IsRefusalText words readings refusal text =
    (((model : List ℕ) → ¬ AskToExplain words model) × (text ≡ refused_text refusal))
    ⊎ ((model : List ℕ) × AskToExplain words model
    × ((lines : List ℕ) × IsExplained readings model refusal lines × (text ≡ refused_text refusal ++ lines)))

-- after the files that were read the run refuses one of them
pub record IsRefused (words : List (List ℕ)) (o : Outside) (text : List ℕ) : Type 0 where
  pub readings : Readings
  pub refusal : Refusal
  pub course : IsCourse (run_of words) o.known readings
  pub refused : (run_of words).stops readings (Refuses refusal)
  pub no_read_failed : o.after ≡ o.before
  pub asked : AsksJust o readings []
  pub is_text : IsRefusalText words readings refusal text

-- after the files that were read it was the turn of the one that couldn't be
pub record IsReadFault (words : List (List ℕ)) (o : Outside) (text : List ℕ) : Type 0 where
  pub readings : Readings
  pub course : IsCourse (run_of words) o.known readings
  pub turn : IsTurnOf (run_of words) readings o.missed
  pub rose : Rose o.before o.after
  pub asked : AsksJust o readings (o.missed ∷ [])
  pub is_text : text ≡ unread_text o.missed

-- the texts of each end
abbrev pub Allows : List (List ℕ) → Outside → Status → List ℕ → Type 0
Allows words o Done text = IsDone words o text
Allows words o Usage text = IsUsage words o text
Allows words o Refused text = IsRefused words o text
Allows words o ReadFault text = IsReadFault words o text
Allows words o WriteFault text = ⊥
Allows words o NoMemory text = ⊥

-- a text of this kind was written whole, where it is known what was
pub record Writes (Is : List ℕ → Type 0) (old new : Option (List ℕ)) : Type 0 where
  pub text : List ℕ
  pub is : Is text
  pub whole : Appends old new text

-- the front of a text that another end allows was written
pub record WritesPart (words : List (List ℕ)) (o : Outside) (old new : Option (List ℕ)) : Type 0 where
  pub status : Status
  pub text : List ℕ
  pub allowed : Allows words o status text
  pub part : AppendsPart old new text

-- a text of this kind was written whole, by a run of these words: what was seen of the files, and the bytes that were
-- written, at its start and at its end
abbrev pub Wrote : {F S : Type 0} → (List (List ℕ) → Outside → List ℕ → Type 0)
    → List (String Global) → (F → Seen) → F → F → (S → Option (List ℕ)) → S → S → Type 0
Wrote Is words seen files files_after written out out_after =
    Writes (Is (texts_of words) (outside seen files files_after)) (written out) (written out_after)

-- such a run wrote the front of a text that another end allows
abbrev pub WrotePart : {F S : Type 0}
    → List (String Global) → (F → Seen) → F → F → (S → Option (List ℕ)) → S → S → Type 0
WrotePart words seen files files_after written out out_after =
    WritesPart (texts_of words) (outside seen files files_after) (written out) (written out_after)

-- such a run asked for files in turn, and wrote nothing
abbrev pub WroteNothing : {F S : Type 0}
    → List (String Global) → (F → Seen) → F → F → (S → Option (List ℕ)) → S → S → Type 0
WroteNothing words seen files files_after written out out_after =
    AsksInTurn (texts_of words) (outside seen files files_after) × Appends (written out) (written out_after) []
