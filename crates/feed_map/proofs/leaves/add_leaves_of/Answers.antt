use Rattle.std.proofs.Common.{◌≡◌, ◌∙◌, sym, ap, true}
use Rattle.std.specs.List.{Contains}
use Rattle.cube_space.specs.Layout.{Layout}
use Rattle.cube_space.specs.Cells.{is_leaf_cell}
use Rattle.rule_laws.specs.Feeding.{leaves_of}
use Rattle.rule_model.specs.System.{system_of}
use Rattle.feed_map.proofs.GainFacts.{gains-result, stops-result}
use Rattle.feed_sources.proofs.BelowFacts.{leaf-stands, stands-leaf}
use Rattle.feed_map.proofs.OpenFacts.{gains-known, opened-gains, opened-more, opened-result}
use Rattle.feed_map.proofs.leaves.add_leaves_of.Goals.{After-add}
use Rattle.feed_map.proofs.leaves.add_leaves_of.Goals as goal

leaf : (c : After-add) → is_leaf_cell c.args.model.now.space c.args.cell ≡ true
leaf c = ap (λ (s : Layout). is_leaf_cell s c.args.cell) (sym c.space.ensures.space) ∙ sym c.is_leaf.ensures ∙ c.if-is_leaf.true

pub returns-then-is_leaf-clause-gains : goal.returns-then-is_leaf-clause-gains
returns-then-is_leaf-clause-gains c =
    let own = leaf (goal.at.returns-then-is_leaf-clause-gains c).After-add in
    gains-result c.add.result (λ other. c.args.cell ≡ other) (Contains (leaves_of (system_of c.args.model.now) c.args.cell)) (leaf-stands c.args.model.now c.args.cell own) (stands-leaf c.args.model.now c.args.cell own)
    c.args.reached.now.growth c.add.new.self c.add.ensures.gains

pub returns-then-is_leaf-clause-stops : goal.returns-then-is_leaf-clause-stops
returns-then-is_leaf-clause-stops c =
    let own = leaf (goal.at.returns-then-is_leaf-clause-stops c).After-add in
    stops-result c.add.result (λ other. c.args.cell ≡ other) (Contains (leaves_of (system_of c.args.model.now) c.args.cell)) (leaf-stands c.args.model.now c.args.cell own)
    c.args.reached.now.growth c.add.new.self c.add.ensures.stops

pub returns-then-is_leaf-clause-totals : goal.returns-then-is_leaf-clause-totals
returns-then-is_leaf-clause-totals c =
    opened-result c.args.model.now c.args.reached.now.totals c.add.result (λ other. c.args.cell ≡ other) c.args.reached.now.growth c.add.new.self c.requires.totals c.add.ensures.gains

-- it was opened
pub returns-then-has-clause-gains : goal.returns-then-has-clause-gains
returns-then-has-clause-gains c = gains-known c.args.model.now c.args.reached.now.totals c.args.reached.now.growth c.args.cell c.requires.totals (c.has.ensures.0 c.if-has.true)

pub returns-clause-totals : goal.returns-clause-totals
returns-clause-totals c =
    let g = c.add_below.new.growth in
    let before = opened-gains c.args.model.now c.args.reached.now.totals (Contains (leaves_of (system_of c.args.model.now) c.args.cell)) c.args.reached.now.growth g c.in_ok-add_below.ensures.gains c.requires.totals in
    rw c.keep.ensures.growth
    (opened-more c.args.model.now c.args.reached.now.totals c.keep.new.self.totals c.args.cell c.saturating_sub-leaves.result g before c.in_ok-add_below.ensures.gains.each c.in_ok-keep.ensures.kept c.keep.ensures.few c.keep.ensures.full)
