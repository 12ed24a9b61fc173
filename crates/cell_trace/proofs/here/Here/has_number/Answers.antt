use Rattle.std.proofs.Common.{ap, ◌∙◌}
use Rattle.std.specs.Prelude.{is_some}
use Rattle.stored_laws.specs.Stored.{stored_in}
use Rattle.cell_trace.proofs.PlaceFacts.{has_number}
use Rattle.cell_trace.proofs.here.Here.has_number.Goals as goal

pub returns : goal.returns
returns c =
    has_number c.store.result.now c.self.inside.cell c.has.result c.has.ensures
    ∙ ap (λ entries. is_some (stored_in entries c.self.inside.cell)) c.store.ensures.stored
    ∙ ap (λ p. is_some (stored_in p.version.stored p.cell)) c.self.view_is
