-- Which refusal each fault of a text is. Out of memory is none.
use Rattle.std.specs.Prelude.{ℕ, List, Option, Some, None, option_map}
use Rattle.cube_lex.specs.declared.position.Position.{Position}
use Rattle.dim_core.specs.declared.fault.DimFault.{DimFault}
use Rattle.dim_core.specs.declared.fault.DimFault.TheVariants as dims
use Rattle.model_bind.specs.declared.fault.At.{At}
use Rattle.model_bind.specs.declared.fault.At.TheVariants as places
use Rattle.model_bind.specs.declared.fault.DeployCause.{DeployCause}
use Rattle.model_bind.specs.declared.fault.DeployCause.TheVariants as deploys
use Rattle.model_bind.specs.declared.fault.DeployFault.{DeployFault}
use Rattle.model_text.specs.declared.fault.ModelTextCause.{ModelTextCause}
use Rattle.model_text.specs.declared.fault.ModelTextCause.TheVariants as texts
use Rattle.model_text.specs.declared.fault.ModelTextFault.{ModelTextFault}
use Rattle.script_reader.specs.declared.fault.ScriptFault.{ScriptFault}
use Rattle.script_reader.specs.declared.fault.ScriptFault.TheVariants as scripts
use Rattle.user_text.specs.declared.fault.UserFault.{UserFault}
use Rattle.user_text.specs.declared.fault.UserFault.TheVariants as users
use Rattle.file_passes.specs.declared.refusal.Cause.{Cause}
use Rattle.file_passes.specs.declared.refusal.Cause.TheVariants as causes
use Rattle.file_passes.specs.declared.refusal.FilePlace.{FilePlace}
use Rattle.file_passes.specs.declared.refusal.FilePlace.TheVariants.{Text, Statement, Feeder}
use Rattle.file_passes.specs.declared.refusal.Refusal.{Refusal}

-- this file is refused at this place
abbrev pub refused_at : List ℕ → Position → Cause → Refusal
refused_at file place cause = record { file = file; at = Text place; cause = cause }

abbrev pub dim_cause : DimFault → Option Cause
dim_cause dims.Duplicate = Some causes.Duplicate
dim_cause (dims.UnknownComponent element) = Some causes.UnknownComponent
dim_cause (dims.Loop element) = Some causes.Loop
dim_cause dims.WeightRange = Some causes.WeightRange
dim_cause dims.TooMany = Some causes.TooMany
dim_cause (dims.BadAttribute call) = Some causes.BadAttribute
dim_cause dims.Memory = None

abbrev pub model_cause : ModelTextCause → Option Cause
model_cause texts.Syntax = Some causes.Syntax
model_cause texts.WrongVersion = Some causes.WrongVersion
model_cause texts.Duplicate = Some causes.Duplicate
model_cause texts.UnknownName = Some causes.UnknownName
model_cause texts.TooMany = Some causes.TooMany
model_cause (texts.Dim fault) = dim_cause fault
model_cause texts.Memory = None

abbrev pub deploy_cause : DeployCause → Option Cause
deploy_cause deploys.CoefficientTooLarge = Some causes.CoefficientTooLarge
deploy_cause (deploys.TooManyPairs count) = Some (causes.TooManyPairs count)
deploy_cause deploys.DimensionCount = Some causes.DimensionCount
deploy_cause deploys.CubeTooLarge = Some causes.CubeTooLarge
deploy_cause deploys.ModelTooLarge = Some causes.ModelTooLarge
deploy_cause deploys.WeightProduct = Some causes.WeightProduct
deploy_cause deploys.Syntax = Some causes.Syntax
deploy_cause deploys.TooDeep = Some causes.TooDeep
deploy_cause deploys.TooMany = Some causes.TooMany
deploy_cause deploys.UnknownName = Some causes.UnknownName
deploy_cause deploys.Ambiguous = Some causes.Ambiguous
deploy_cause deploys.WrongCount = Some causes.WrongCount
deploy_cause deploys.DynamicReference = Some causes.DynamicReference
deploy_cause deploys.Unsupported = Some causes.Unsupported
deploy_cause deploys.BadOrder = Some causes.BadOrder
deploy_cause (deploys.Unlagged reference) = Some (causes.Unlagged reference)
deploy_cause (deploys.Cycle names) = Some (causes.Cycle names)
deploy_cause (deploys.TooHigh height) = Some (causes.TooHigh height)
deploy_cause (deploys.NotEarlier reference) = Some (causes.NotEarlier reference)
deploy_cause (deploys.DenseTooLarge count) = Some (causes.DenseTooLarge count)
deploy_cause (deploys.NotFed operand) = Some (causes.NotFed operand)
deploy_cause (deploys.FedLimit count) = Some (causes.FedLimit count)
deploy_cause deploys.Memory = None

-- what is wrong with a model's text
abbrev pub text_refusal : List ℕ → ModelTextFault → Option Refusal
text_refusal file fault = option_map (refused_at file fault.at) (model_cause fault.cause)

abbrev pub place_of : At → FilePlace
place_of (places.Text place) = Text place
place_of (places.Statement statement) = Statement statement
place_of (places.Feeder feeder) = Feeder feeder

-- the name of a rule file, or else of the model file
abbrev pub file_or : List ℕ → Option (List ℕ) → List ℕ
file_or model None = model
file_or model (Some file) = file

-- a fault of deployment, in a rule file or in the model file, is refused for this cause
abbrev pub deployment_refused : List ℕ → DeployFault → Cause → Refusal
deployment_refused model fault cause =
    record { file = file_or model fault.file; at = place_of fault.at; cause = cause }

-- why a model isn't deployed
abbrev pub deploy_refusal : List ℕ → DeployFault → Option Refusal
deploy_refusal model fault = option_map (deployment_refused model fault) (deploy_cause fault.cause)

-- what is wrong with a user's text
abbrev pub user_refusal : List ℕ → UserFault → Option Refusal
user_refusal file (users.Syntax place) = Some (refused_at file place causes.Syntax)
user_refusal file (users.TooMany place) = Some (refused_at file place causes.TooMany)
user_refusal file users.Memory = None

-- what is wrong with the text of a script
abbrev pub script_refusal : List ℕ → ScriptFault → Option Refusal
script_refusal file (scripts.Syntax place) = Some (refused_at file place causes.Syntax)
script_refusal file (scripts.UnknownFunction place) = Some (refused_at file place causes.UnknownFunction)
script_refusal file (scripts.TooDeep place) = Some (refused_at file place causes.TooDeep)
script_refusal file scripts.Memory = None
