-- What the statements of the cell's cube give is the cell's value.
use Rattle.std.proofs.Common.{◌≡◌, ◌∙◌, sym}
use Rattle.accepted.specs.Checks.{IsAccepted}
use Rattle.cell_values.specs.Reading.{value_on}
use Rattle.cell_values.proofs.Values.{formed, ordered}
use Rattle.cube_space.specs.Cells.{IsCell}
use Rattle.model_laws.proofs.Statements.{split, value-all}
use Rattle.rule_laws.proofs.SystemFacts.{dense_value-solves}
use Rattle.rule_model.specs.System.{system_of}
use Rattle.stored_laws.specs.Stored.{stored_in}
use Rattle.cell_trace.specs.Inside.Chain.{value_from}
use Rattle.cell_trace.specs.Inside.Place.{Place}

pub value_is : (p : Place) → IsAccepted p.version.model → IsCell p.version.model.space p.cell → value_from p 0 ≡ value_on p.version p.cell
unfolding value_from value_on system_of
value_is p accepted is_cell =
    let v = p.version in
    sym (value-all v.model p.cell (split v.model p.cell is_cell) (stored_in v.stored) (value_on v))
    ∙ sym (dense_value-solves (system_of v.model) (formed v accepted.valid accepted.rules accepted) (stored_in v.stored) (ordered v accepted.valid accepted.rules accepted) p.cell is_cell)
