use Rattle.cover_laws.specs.Covered.{names_no_governed}
use Rattle.rule_model.specs.BoundModel.{rules_of}
use Rattle.feed_cover.proofs.Wider.{none-governed}
use Rattle.feed_cover.proofs.covered.names_no_governed.Goals as goal

pub returns-then-names_only_leaves : goal.returns-then-names_only_leaves
unfolding names_no_governed
returns-then-names_only_leaves c =
    none-governed c.args.model.now c.args.cube c.args.area.now c.args.reference.now (rules_of c.args.model.now c.args.reference.now.cube).statements (c.names_only_leaves.ensures c.if-names_only_leaves.true)
