-- Each cause has its status.
use Rattle.std.proofs.Common.{◌≡◌, ℕ, List, Option, Some, inl, inr, refl, subst}
use Rattle.run_passes.specs.declared.run_job.RunJob.{RunJob}
use Rattle.file_passes.specs.declared.refusal.Refusal.{Refusal}
use Rattle.cube_server.specs.declared.status.Status.{Status}
use Rattle.cube_server.specs.declared.status.Status.TheVariants.{Done, Usage, Refused, ReadFault, WriteFault, NoMemory}
use Rattle.file_passes.specs.Course.{IsCourse}
use Rattle.file_passes.specs.Outside.{Outside}
use Rattle.file_passes.specs.Pass.{Readings, NotWords, Reads, Refuses, IsTurnOf}
use Rattle.run_passes.specs.RefusalOrder.{run_of}
use Rattle.cube_server.specs.Answer.{HasNoPlan}
use Rattle.cube_server.specs.Known.{RefusesFile, FindsJob}
use Rattle.cube_server.specs.Status.{IsOrFault}
use Rattle.cube_server.specs.Inside.Ending.{Ends}
use Rattle.file_passes.proofs.OneCourse.{same_course}
use Rattle.run_passes.proofs.PlanFacts.{found_ends, one_run}

-- ---- ends of a course

refused_ends : (words : List (List ℕ)) (readings : Readings) (refusal : Refusal)
    → (run_of words).stops readings (Refuses refusal) → (name : List ℕ) → ¬ IsTurnOf (run_of words) readings name
refused_ends words readings refusal refuses name (extent, reads) = (one_run words).one_stop readings (Refuses refusal) (Reads extent name) refuses reads

-- a run that refuses a file finds no job
not_both_ends : (words : List (List ℕ)) (map : List ℕ → Option (List ℕ)) (r s : Readings) (j : RunJob) (refusal : Refusal)
    → IsCourse (run_of words) (Some map) r → (run_of words).finds r j → IsCourse (run_of words) (Some map) s → (run_of words).stops s (Refuses refusal) → ⊥
not_both_ends words map r s j refusal p finds q refuses =
    let same = same_course (run_of words) (one_run words) map r s p q (found_ends words r j finds) (refused_ends words s refusal refuses) in
    (one_run words).not_both s j (Refuses refusal) (subst (λ l. (run_of words).finds l j) same finds) refuses

misfit_stops : (words : List (List ℕ)) (readings : Readings) → HasNoPlan words → (run_of words).stops readings NotWords
misfit_stops words readings misfit = inl (misfit, refl)

known_as : (words : List (List ℕ)) (o : Outside) (map : List ℕ → Option (List ℕ)) (readings : Readings) → o.known ≡ Some map
    → IsCourse (run_of words) o.known readings → IsCourse (run_of words) (Some map) readings
known_as words o map readings told course = subst (λ t. IsCourse (run_of words) t readings) told course

-- ---- the two converses

pub refuses-status : (words : List (List ℕ)) (o : Outside) (old new : Option (List ℕ)) (before after : ℕ) (status : Status)
    → Ends words o old new before after status → RefusesFile words o.known → IsOrFault Refused status
refuses-status words o old new before after Done ends it =
    let done = ends.0.is in
    absurd (not_both_ends words it.content done.readings it.readings done.job it.refusal (known_as words o it.content done.readings it.is_known done.course) done.accepted it.course it.refuses)
refuses-status words o old new before after Usage ends it =
    absurd ((one_run words).one_stop it.readings (Refuses it.refusal) NotWords it.refuses (misfit_stops words it.readings ends.0.is.misfit))
refuses-status words o old new before after Refused ends it = inl refl
refuses-status words o old new before after ReadFault ends it = inr (inl refl)
refuses-status words o old new before after WriteFault ends it = inr (inr (inl refl))
refuses-status words o old new before after NoMemory ends it = inr (inr (inr (inl refl)))

pub accepts-status : (words : List (List ℕ)) (o : Outside) (old new : Option (List ℕ)) (before after : ℕ) (status : Status)
    → Ends words o old new before after status → FindsJob words o.known → IsOrFault Done status
accepts-status words o old new before after Done ends it = inl refl
accepts-status words o old new before after Usage ends it =
    absurd ((one_run words).not_both it.readings it.job NotWords it.finds (misfit_stops words it.readings ends.0.is.misfit))
accepts-status words o old new before after Refused ends it =
    let refused = ends.0.is in
    absurd (not_both_ends words it.content it.readings refused.readings it.job refused.refusal it.course it.finds (known_as words o it.content refused.readings it.is_known refused.course) refused.refused)
accepts-status words o old new before after ReadFault ends it = inr (inl refl)
accepts-status words o old new before after WriteFault ends it = inr (inr (inl refl))
accepts-status words o old new before after NoMemory ends it = inr (inr (inr (inl refl)))
