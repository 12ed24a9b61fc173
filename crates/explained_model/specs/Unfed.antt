-- The lines that explain a refusal by what feeds the model that it refuses.
use Rattle.std.specs.Prelude.{◌≡◌, ℕ, List, [], Option, Some, None}
use Rattle.feed_check.specs.Sizes.{AreSmall}
use Rattle.feed_check.specs.Verdict.{IsFirstFault}
use Rattle.feed_check.specs.declared.fault.FeedCheckFault.{FeedCheckFault}
use Rattle.feed_check.specs.declared.fault.FeedCheckFault.TheVariants.{NotFed, DenseTooLarge}
use Rattle.file_passes.specs.Pass.{Readings}
use Rattle.file_passes.specs.declared.refusal.Cause.{Cause}
use Rattle.file_passes.specs.declared.refusal.Cause.TheVariants as causes
use Rattle.model_bind.specs.declared.bound.Bound.{Bound}
use Rattle.model_deploy.specs.Deployment.{fed_model}
use Rattle.operand_cover.specs.Cover.{AreOperandLines}
use Rattle.rule_laws.specs.Cover.{IsCovered}
use Rattle.rule_model.specs.BoundModel.{BoundModel}
use Rattle.rule_model.specs.System.{system_of}
use Rattle.explained_model.specs.Files.{binding_pass, Ends}

-- what the feeder check finds wrong with a model
abbrev pub IsFeederVerdict : BoundModel → Option FeedCheckFault → Type 0
IsFeederVerdict model (Some fault) = IsFirstFault model fault
IsFeederVerdict model None = IsCovered (system_of model) × AreSmall model

-- of an operand that isn't fed, what covers it or would
abbrev pub AreFaultLines : BoundModel → Option FeedCheckFault → List ℕ → Type 0
AreFaultLines model (Some (NotFed cube statement operand)) lines = AreOperandLines model cube statement operand lines
AreFaultLines model (Some (DenseTooLarge cube count)) lines = lines ≡ []
AreFaultLines model None lines = lines ≡ []

abbrev pub AreFeederLines : BoundModel → List ℕ → Type 0
AreFeederLines model lines =
    (fault : Option FeedCheckFault) × IsFeederVerdict model fault × AreFaultLines model fault lines

-- the lines of the model that the files are bound to, with the feeders that are found for it, and none where they
-- aren't bound to one
abbrev pub AreBoundLines : Option Bound → List ℕ → Type 0
AreBoundLines (Some bound) lines = AreFeederLines (fed_model bound) lines
AreBoundLines None lines = lines ≡ []

-- of an operand that isn't fed, in the model of the model file of this name
abbrev pub AreUnfedLines : List ℕ → Readings → Cause → List ℕ → Type 0
AreUnfedLines name readings (causes.NotFed operand) lines =
    (bound : Option Bound) × Ends (binding_pass name) readings bound × AreBoundLines bound lines
AreUnfedLines name readings _ lines = lines ≡ []
