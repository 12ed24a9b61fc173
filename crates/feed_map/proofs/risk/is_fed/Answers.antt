-- No other cell than a leaf cell is fed.
use Rattle.std.proofs.Common.{rules, ◌≡◌, sym, ◌∙◌, true, false, ap}
use Rattle.cube_space.specs.Layout.{Layout}
use Rattle.cube_space.specs.Cells.{is_leaf_cell}
use Rattle.model_laws.proofs.Formed.{well_formed}
use Rattle.feed_map.proofs.RiskFacts.{from-leaf}
use Rattle.feed_map.proofs.risk.is_fed.Goals as goal

pub returns-then-not-is_leaf_cell-clause-none : goal.returns-then-not-is_leaf_cell-clause-none
returns-then-not-is_leaf_cell-clause-none g c = λ is from.
    let m = c.args.model.now in
    let leaf = from-leaf m (well_formed m c.space.ensures.valid c.space.ensures.rules) (g.W.CellSet.cells c.args.live.now) c.args.cell from in
    let off : c.is_leaf_cell.result ≡ false = search rules in
    let other : is_leaf_cell c.space.result.now c.args.cell ≡ false = c.is_leaf_cell.ensures.other off (rw c.space.ensures.space leaf.0) in
    let clash : true ≡ false = sym leaf.1 ∙ (ap (λ (s : Layout). is_leaf_cell s c.args.cell) (sym c.space.ensures.space) ∙ other) in
    cc

pub returns-clause-none : goal.returns-clause-none
returns-clause-none g c = λ is from. c.is_fed_from.ensures.none is from.0 from.1 from.2
