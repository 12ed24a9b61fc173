use Rattle.std.proofs.Common.{ap, ◌∙◌}
use Rattle.cube_fixed.specs.declared.value.Value.TheVariants.{Num}
use Rattle.cell_store.specs.Entries.{number_at}
use Rattle.cell_trace.proofs.PlaceFacts.{number_is}
use Rattle.cell_trace.proofs.here.Here.number.Goals as goal

pub returns : goal.returns
returns c =
    ap Num (c.get.ensures ∙ ap (λ entries. number_at entries c.self.inside.cell) c.store.ensures.stored
    ∙ ap (λ p. number_at p.version.stored p.cell) c.self.view_is)
    ∙ number_is c.args.self.now c.requires
