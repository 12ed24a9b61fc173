use Rattle.std.proofs.Common.{◌≡◌, refl, ap, ℕ, Option, Some, None}
use Rattle.std.specs.Option.{option_eq}
use Rattle.std.specs.Prelude.{nat_eq}
use Rattle.std.specs.Bool.{Decides}
use Rattle.std.proofs.lemmas.Bool.Decides.{Decides-eqb}
use Rattle.std.proofs.lemmas.Slice.Eq.{slice_eq-Decides}
use Rattle.rule_laws.proofs.element_map.are_equal.Goals as goal

targets : (a b : Option ℕ) → Decides (option_eq nat_eq a b) (a ≡ b)
targets None None = (λ h. refl, λ h. refl)
targets None (Some b) = (λ h. absurd (cc), λ h. absurd (cc))
targets (Some a) None = (λ h. absurd (cc), λ h. absurd (cc))
targets (Some a) (Some b) = (λ h. ap Some ((Decides-eqb a b).0 h), λ h. (Decides-eqb a b).1 (cc))

pub returns : goal.returns
returns c = (slice_eq-Decides targets c.args.targets.now c.args.its.now c.eq.result c.eq.ensures).0
