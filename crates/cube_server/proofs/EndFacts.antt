-- How a run ends whose text was written whole.
use Rattle.std.proofs.Common.{◌≡◌, ℕ, List, [], ◌∷◌, Option, Result, Ok, Err, IfOk, OnErr, inl, inr, refl, subst}
use Rattle.std.specs.Io.KnownBytes.{Appends}
use Rattle.cube_outside.specs.Bytes.{AppendsPart}
use Rattle.cube_server.specs.declared.answer.Answer.{Answer}
use Rattle.file_passes.specs.declared.halt.Halt.{Halt}
use Rattle.file_passes.specs.declared.halt.Halt.TheVariants as halts
use Rattle.run_passes.specs.declared.run_job.RunJob.{RunJob}
use Rattle.cube_server.specs.declared.status.Status.{Status}
use Rattle.cube_server.specs.declared.status.Status.TheVariants.{Done, Usage, Refused, ReadFault, WriteFault, NoMemory}
use Rattle.cube_server.specs.Answer.{Allows, AsksInTurn, IsOutput, WritesPart}
use Rattle.cube_outside.specs.declared.files.Extent.{Extent}
use Rattle.file_passes.specs.Course.{IsCourse}
use Rattle.file_passes.specs.Outside.{Outside}
use Rattle.file_passes.specs.Pass.{Readings, NotWords, Reads}
use Rattle.run_passes.specs.RefusalOrder.{run_of}
use Rattle.cube_words.specs.Words.{Plan, IsPlan}
use Rattle.cube_server.specs.Inside.Ending.{Answers, Ends, joined}
use Rattle.file_passes.specs.Halting.{Comes}
use Rattle.file_passes.proofs.Going.{course-of}
use Rattle.run_passes.proofs.PlanFacts.{settled-plan}

pub Ends-whole : (words : List (List ℕ)) (o : Outside) (old new : Option (List ℕ)) (before after : ℕ) (status : Status) (text : List ℕ)
    → Allows words o status text → Appends old new text → after ≡ before → Ends words o old new before after status
Ends-whole words o old new before after Done text allowed whole calm = (record { text = text; is = allowed; whole = whole }, calm)
Ends-whole words o old new before after Usage text allowed whole calm = (record { text = text; is = allowed; whole = whole }, calm)
Ends-whole words o old new before after Refused text allowed whole calm = (record { text = text; is = allowed; whole = whole }, calm)
Ends-whole words o old new before after ReadFault text allowed whole calm = (record { text = text; is = allowed; whole = whole }, calm)
Ends-whole words o old new before after WriteFault text allowed whole calm = absurd allowed
Ends-whole words o old new before after NoMemory text allowed whole calm = absurd allowed

-- only the words can be at fault for a usage, and then no file is asked for
pub misfit_words : (words : List (List ℕ)) (readings : Readings) → (run_of words).stops readings NotWords → (plan : Plan) → ¬ IsPlan words plan
misfit_words words readings (inl stops) = stops.0
misfit_words words readings (inr (plan, is, stops)) = absurd ((settled-plan plan).worded readings stops)

no_course : (words : List (List ℕ)) (readings : Readings) → ((plan : Plan) → ¬ IsPlan words plan) → (extent : Extent) (name : List ℕ) → (run_of words).stops readings (Reads extent name) → ⊥
no_course words readings misfit extent name (inl stops) = (let never : Reads extent name ≡ NotWords = stops.1 in cc)
no_course words readings misfit extent name (inr (plan, is, stops)) = misfit plan is

none_read : (words : List (List ℕ)) (o : Outside) (readings : Readings) → ((plan : Plan) → ¬ IsPlan words plan) → IsCourse (run_of words) o.known readings → readings ≡ []
none_read words o [] misfit course = refl
none_read words o (reading ∷ older) misfit course = absurd (no_course words older misfit course.0.0 reading.0 course.0.1)

-- the answer to a run that went no further is allowed
pub Allows-halted : (words : List (List ℕ)) (o : Outside) (readings : Readings) (halt : Halt) (status : Status) (written : List ℕ)
    → Comes (run_of words) o [] readings (Err halt) → Answers words readings halt o.missed status written → Allows words o status written
Allows-halted words o readings halts.NotWords status written came answer =
    let misfit = misfit_words words readings came.1.0 in
    let none = none_read words o readings misfit (course-of (run_of words) o.known readings came.0) in
    let asked = rw none at (came.1.2 o.asked_before refl) in
    rw answer.0 (record { misfit = misfit; no_read_failed = came.1.1; asked = asked; is_text = answer.1 })
Allows-halted words o readings halts.Unread status written came answer =
    rw answer.0 (record {
      readings = readings;
      course = course-of (run_of words) o.known readings came.0;
      turn = came.1.0;
      rose = came.1.1;
      asked = came.1.2 o.asked_before refl;
      is_text = answer.1;
    })
Allows-halted words o readings (halts.Refused refusal) status written came answer =
    rw answer.0 (record {
      readings = readings;
      refusal = refusal;
      course = course-of (run_of words) o.known readings came.0;
      refused = came.1.0;
      no_read_failed = came.1.1;
      asked = came.1.2 o.asked_before refl;
      is_text = answer.1;
    })
Allows-halted words o readings halts.Memory status written came answer = absurd answer

pub Allows-result : {E : Type 0} (result : Result Answer E) (words : List (List ℕ)) (o : Outside) (first readings : Readings) (halt : Halt) (missed : List ℕ)
    → first ≡ [] → Comes (run_of words) o first readings (Err halt) → missed ≡ o.missed
    → IfOk result (λ answer. Answers words readings halt missed answer.status (joined answer.pieces.items))
    → IfOk result (λ answer. Allows words o answer.status (joined answer.pieces.items))
Allows-result (Ok answer) words o first readings halt missed none came same is =
    Allows-halted words o readings halt answer.status (joined answer.pieces.items)
    (subst (λ l. Comes (run_of words) o l readings (Err halt)) none came)
    (subst (λ name. Answers words readings halt name answer.status (joined answer.pieces.items)) same is)
Allows-result (Err e) words o first readings halt missed none came same is = tt

-- a run that was served ends as it is to
pub Allows-done : {E : Type 0} (result : Result Answer E) (words : List (List ℕ)) (o : Outside) (first readings : Readings) (job : RunJob)
    → first ≡ [] → Comes (run_of words) o first readings (Ok job)
    → IfOk result (λ answer. answer.status ≡ Done) → IfOk result (λ answer. IsOutput readings job (joined answer.pieces.items))
    → IfOk result (λ answer. Allows words o answer.status (joined answer.pieces.items))
Allows-done (Ok answer) words o first readings job none began is_done output =
    let came = subst (λ l. Comes (run_of words) o l readings (Ok job)) none began in
    rw is_done (record {
      readings = readings;
      job = job;
      course = course-of (run_of words) o.known readings came.0.0;
      accepted = came.1;
      no_read_failed = came.0.1;
      asked = came.0.2 o.asked_before refl;
      output = output;
    })
Allows-done (Err e) words o first readings job none began is_done output = tt

-- what a run had asked for where it went no further, and where it found its job
asks-halted : (words : List (List ℕ)) (o : Outside) (readings : Readings) (halt : Halt)
    → Comes (run_of words) o [] readings (Err halt) → AsksInTurn words o
asks-halted words o readings halts.NotWords came = record {
  readings = readings;
  course = course-of (run_of words) o.known readings came.0;
  asked = inl (came.1.2 o.asked_before refl);
}
asks-halted words o readings halts.Unread came = record {
  readings = readings;
  course = course-of (run_of words) o.known readings came.0;
  asked = inr (o.missed, came.1.0, came.1.2 o.asked_before refl);
}
asks-halted words o readings (halts.Refused refusal) came = record {
  readings = readings;
  course = course-of (run_of words) o.known readings came.0;
  asked = inl (came.1.2 o.asked_before refl);
}
asks-halted words o readings halts.Memory (on, inl asks) = record {
  readings = readings;
  course = course-of (run_of words) o.known readings on;
  asked = inl (asks o.asked_before refl);
}
asks-halted words o readings halts.Memory (on, inr (name, stops, asks)) = record {
  readings = readings;
  course = course-of (run_of words) o.known readings on;
  asked = inr (name, stops, asks o.asked_before refl);
}

pub asks-result : {E : Type 0} (result : Result Answer E) (words : List (List ℕ)) (o : Outside) (first readings : Readings) (halt : Halt)
    → first ≡ [] → Comes (run_of words) o first readings (Err halt) → OnErr result (AsksInTurn words o)
asks-result (Ok answer) words o first readings halt none came = tt
asks-result (Err e) words o first readings halt none came =
    asks-halted words o readings halt (subst (λ l. Comes (run_of words) o l readings (Err halt)) none came)

pub asks-done : {E : Type 0} (result : Result Answer E) (words : List (List ℕ)) (o : Outside) (first readings : Readings) (job : RunJob)
    → first ≡ [] → Comes (run_of words) o first readings (Ok job) → OnErr result (AsksInTurn words o)
asks-done (Ok answer) words o first readings job none began = tt
asks-done (Err e) words o first readings job none began =
    let came = subst (λ l. Comes (run_of words) o l readings (Ok job)) none began in
    record {
      readings = readings;
      course = course-of (run_of words) o.known readings came.0.0;
      asked = inl (came.0.2 o.asked_before refl);
    }

-- what was written of a text that is allowed
pub WritesPart-of : (words : List (List ℕ)) (o : Outside) (old new : Option (List ℕ)) (status : Status) (text : List ℕ)
    → Allows words o status text → AppendsPart old new text → WritesPart words o old new
WritesPart-of words o old new status text allowed part = record { status = status; text = text; allowed = allowed; part = part }
