-- The first of the items at or above the cell.
use Rattle.std.proofs.Common.{ap, ◌∙◌}
use Rattle.std.specs.List.{slice_get}
use Rattle.cell_store.proofs.InOrder.{first_at_least}
use Rattle.cell_store.proofs.places.first_at_least.Goals as goal

pub returns : goal.returns
returns g c =
    c.copied.ensures ∙ (c.first.ensures.value ∙ (ap (λ items. slice_get items 0) c.at_least.ensures ∙ first_at_least g.T.Placed.cell c.args.items.now c.args.cell))
