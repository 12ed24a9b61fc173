use Rattle.change_laws.specs.Regrowth.{kept_of}
use Rattle.change_laws.proofs.Changes.{grown-are, is-regrowth}
use Rattle.change_laws.proofs.laws.fed_cells_after_a_change.Goals as goal

pub returns : goal.returns
returns c w before after went came fed sure risk again cells change are surely at_risk back =
    grown-are w after came (kept_of fed risk) again cells (is-regrowth w before after went came fed sure risk again change are surely at_risk back)
