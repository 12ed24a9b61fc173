-- How the passes end that bind a model from files that were read.
use Rattle.std.proofs.Common.{◌≡◌, ◌≢◌, ℕ, List, refl, inl, inr, Option, Some, None, Err, false}
use Rattle.file_passes.specs.Halting.{Judges}
use Rattle.file_passes.specs.Pass.{Readings, Source, Judgement, Reads, Refuses, bytes_of, file, files}
use Rattle.file_passes.specs.declared.halt.Halt.{Halt}
use Rattle.file_passes.specs.declared.halt.Halt.TheVariants as halts
use Rattle.file_passes.specs.declared.refusal.Refusal.{Refusal}
use Rattle.judged_files.specs.Models.{text_judgement}
use Rattle.judged_files.specs.Rules.{binding_judgement, rule_names}
use Rattle.model_bind.specs.declared.bound.Bound.{Bound}
use Rattle.model_text.specs.Contents.{Contents}
use Rattle.run_passes.specs.RefusalOrder.{as_text, bind_pass}
use Rattle.explained_model.specs.Files.{binding_pass, Ends}
use Rattle.explained_model.specs.Inside.Reads.{AreRead}

-- what was read is refused, where memory lasted
pub refused : {A : Type 0} (judgement : Judgement A) (halt : Halt) → Judges judgement (Err halt) → halt ≢ halts.Memory → (refusal : Refusal) × judgement.refused_for refusal
refused judgement halts.NotWords judged lasted = absurd judged
refused judgement halts.Unread judged lasted = absurd judged
refused judgement (halts.Refused refusal) judged lasted = (refusal, judged)
refused judgement halts.Memory judged lasted = absurd (lasted refl)

module _ (readings : Readings) (name : List ℕ) where
  pub unread : bytes_of readings name ≡ None → Ends (binding_pass name) readings None
  unread none = (Reads as_text name, inl (inl (none, refl)))

  module _ (source : Source) (found : (file as_text name).finds readings source) where
    pub no-text : (refusal : Refusal) → (text_judgement source).refused_for refusal → Ends (binding_pass name) readings None
    no-text refusal refuses = (Refuses refusal, inl (inr (source, found, (refusal, refuses, refl))))

    pub of-text : (contents : Contents) → (text_judgement source).stands_for contents → (bound : Option Bound) → Ends (bind_pass name contents) readings bound → Ends (binding_pass name) readings bound
    of-text contents means None (stop, stops) = (stop, inr (contents, (source, found, means), stops))
    of-text contents means (Some bound) finds = (contents, (source, found, means), finds)

  module _ (contents : Contents) where
    pub rules-unread : AreRead readings (rule_names contents.cubes) false → Ends (bind_pass name contents) readings None
    rules-unread are = let it = are as_text in (it.0, inl it.1)

    module _ (sources : List Source) (all : (files as_text (rule_names contents.cubes)).finds readings sources) where
      pub unbound : (refusal : Refusal) → (binding_judgement name contents sources).refused_for refusal → Ends (bind_pass name contents) readings None
      unbound refusal refuses = (Refuses refusal, inr (sources, all, (refusal, refuses, refl)))

      pub is-bound : (bound : Bound) → (binding_judgement name contents sources).stands_for bound → Ends (bind_pass name contents) readings (Some bound)
      is-bound bound means = (sources, all, means)
