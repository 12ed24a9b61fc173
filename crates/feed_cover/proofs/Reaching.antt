-- Where an argument that names one element fails, not all reach.
use Rattle.std.proofs.Common.{◌≡◌, refl, ℕ, suc, Bool, true, false, ◌&&◌, List, [], ◌∷◌}
use Rattle.dim_core.specs.Outline.{Outline}
use Rattle.rule_laws.specs.declared.reference.Arg.{Arg}
use Rattle.rule_laws.specs.declared.reference.Arg.TheVariants.{Fixed, Moved}
use Rattle.cover_laws.specs.Looking.{Look}
use Rattle.cover_laws.specs.Covered.{stands_over, reaches, all_reach}
use Rattle.feed_cover.specs.Tests.{fixed_reach}

either : (t u v : Bool) → (u ≡ false → v ≡ false) → t && u ≡ false → t && v ≡ false
either true u v f h = f h
either false u v f h = refl

second : (t v : Bool) → v ≡ false → t && v ≡ false
second true v h = h
second false v h = refl

pub fixed-false : (look : Look) (ds : List Outline) (i : ℕ) (args : List Arg) → fixed_reach look i args ≡ false → all_reach look ds i args ≡ false
fixed-false look ds i [] h = absurd (cc)
fixed-false look ds i (Fixed over ∷ args) h = either (stands_over look i over) (fixed_reach look (suc i) args) (all_reach look ds (suc i) args) (fixed-false look ds (suc i) args) h
fixed-false look ds i (Moved j to ∷ args) h = second (reaches look ds i (Moved j to)) (all_reach look ds (suc i) args) (fixed-false look ds (suc i) args h)
