use Rattle.std.proofs.Common.{◌∙◌}
use Rattle.dim_core.specs.Outline.{Outline}
use Rattle.cube_space.proofs.Named.{place-of_named}
use Rattle.cube_space.proofs.space.Space.dimension_of.Goals as goal

pub returns-in-Some : goal.returns-in-Some
returns-in-Some c = rw (← c.self.view_is, ← c.deref.ensures.value) (c.in-Some.ensures.place ∙ place-of_named (λ (dimension : Outline). dimension.name) c.deref.result.now c.args.name.now)

pub returns-in-None : goal.returns-in-None
returns-in-None c = rw (← c.self.view_is, ← c.deref.ensures.value) (c.in-None.ensures.place ∙ place-of_named (λ (dimension : Outline). dimension.name) c.deref.result.now c.args.name.now)
