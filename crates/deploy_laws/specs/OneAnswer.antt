-- When a stage of deployment has one answer.
use Rattle.std.specs.Prelude.{◌≡◌, ◌⊎◌, ℕ, List}
use Rattle.model_bind.specs.declared.fault.DeployFault.{DeployFault}
use Rattle.model_bind.specs.declared.fault.DeployCause.TheVariants.{Cycle}
use Rattle.model_bind.specs.Stages.{Stage}

-- a refusal for a circle, of these elements
abbrev pub IsCycle : DeployFault → Type 0
IsCycle fault = (names : List (List ℕ)) × (fault.cause ≡ Cycle names)

-- two refusals are one; which of several circles is named isn't said
abbrev pub IsSameRefusal : DeployFault → DeployFault → Type 0
IsSameRefusal e f = (e ≡ f) ⊎ (IsCycle e × IsCycle f)

-- it finds one thing, or refuses for one fault, and not both
pub record HasOneAnswer {A : Type 0} (S : Stage A) : Type 0 where
  pub one_found : (a b : A) → S.finds a → S.finds b → a ≡ b
  pub one_refusal : (e f : DeployFault) → S.refuses e → S.refuses f → IsSameRefusal e f
  pub not_both : (a : A) (e : DeployFault) → S.finds a → S.refuses e → ⊥
