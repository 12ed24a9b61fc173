-- One user's run has one text over files of the same bytes.
use Rattle.std.proofs.Common.{◌≡◌, ℕ, ◌+◌, suc, List, [], ◌∷◌, length, Option, Some, refl, ap, sym, ◌∙◌, subst}
use Rattle.cube_server.specs.Answer.{IsDone}
use Rattle.cube_outside.specs.declared.files.Extent.{Extent}
use Rattle.cube_words.specs.Words.{Run, IsPlan}
use Rattle.file_passes.proofs.OneCourse.{same_course}
use Rattle.file_passes.specs.Course.{IsCourse}
use Rattle.file_passes.specs.Outside.{Outside}
use Rattle.file_passes.specs.Pass.{Source, Readings, files}
use Rattle.judged_files.specs.Loads.{AreCommands}
use Rattle.judged_files.specs.Users.{AreUserTexts}
use Rattle.run_passes.proofs.PlanFacts.{found_ends, one_run}
use Rattle.run_passes.proofs.PlanWords.{one_plan}
use Rattle.run_passes.specs.RefusalOrder.{as_text, plan_pass, run_of}
use Rattle.run_passes.specs.declared.ready.Ready.{Ready}
use Rattle.run_passes.specs.declared.run_job.RunJob.{RunJob}
use Rattle.user_text.specs.declared.command.UserCommand.{UserCommand}
use Rattle.output_laws.specs.SameJob.{IsSameJob}
use Rattle.output_laws.specs.Same.{ServesOneUser, SameJobsPrintTheSame, OneUserHasOneText}
use Rattle.output_laws.proofs.Alike.{zip_long}

-- ---- a run of one user finds a job of one user

files_long : (extent : Extent) (names : List (List ℕ)) (readings : Readings) (sources : List Source) → (files extent names).finds readings sources
    → length sources ≡ length names
files_long extent [] readings sources is = ap length is
files_long extent (name ∷ more) readings sources is = ap length is.2.2 ∙ ap suc (files_long extent more readings is.2.0 is.2.1)

texts_long : (before : ℕ) (sources : List Source) (users : List (List UserCommand)) → AreUserTexts before sources users
    → length users ≡ length sources
texts_long before [] [] are = refl
texts_long before [] (commands ∷ rest) are = absurd are
texts_long before (source ∷ more) [] are = absurd are
texts_long before (source ∷ more) (commands ∷ rest) are = ap suc (texts_long (before + length commands) more rest are.1)

plan_serves_one : (model user : List ℕ) (readings : Readings) (job : RunJob)
    → (plan_pass (Run model (user ∷ []))).finds readings job → ServesOneUser job
plan_serves_one model user readings job (ready, it, is) =
    let texts = it.2 in
    let commands = texts.2 in
    let sources = texts.1 in
    let long = zip_long (AreCommands it.0.files commands.1.0) texts.0 commands.0 commands.1.2 in
    let same = ap (λ (r : Ready). length r.commands) commands.2 in
    subst ServesOneUser (sym is)
    (same ∙ sym long ∙ texts_long 0 sources.0 texts.0 sources.2.texts ∙ files_long as_text (user ∷ []) readings sources.0 sources.1)

run_serves_one : (words : List (List ℕ)) (model user : List ℕ) (readings : Readings) (job : RunJob)
    → IsPlan words (Run model (user ∷ [])) → (run_of words).finds readings job → ServesOneUser job
run_serves_one words model user readings job is it =
    let same = one_plan words it.0 (Run model (user ∷ [])) it.1 is in
    plan_serves_one model user readings job (subst (λ plan. (plan_pass plan).finds readings job) same it.2)

-- ---- the text

-- what `a_run_finds_one_job` says
abbrev ARunFindsOneJob : Type 0
ARunFindsOneJob =
    (words : List (List ℕ)) (readings : Readings) (a b : RunJob)
    → (run_of words).finds readings a → (run_of words).finds readings b → IsSameJob a b

pub one_text : SameJobsPrintTheSame → ARunFindsOneJob → OneUserHasOneText
one_text prints one_job words content model user o p text other is known too done again =
    let same = same_course (run_of words) (one_run words) content done.readings again.readings
    (subst (λ t. IsCourse (run_of words) t done.readings) known done.course)
    (subst (λ t. IsCourse (run_of words) t again.readings) too again.course)
    (found_ends words done.readings done.job done.accepted)
    (found_ends words again.readings again.job again.accepted) in
    let it = subst (λ readings. (run_of words).finds readings done.job) same done.accepted in
    prints done.readings again.readings done.job again.job text other (run_serves_one words model user again.readings done.job is it)
    (one_job words again.readings done.job again.job it again.accepted) done.output again.output
