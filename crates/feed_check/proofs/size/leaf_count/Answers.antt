use Rattle.std.proofs.Common.{◌∙◌, sym, ap}
use Rattle.cube_space.specs.Layout.{Layout}
use Rattle.cube_space.specs.Cells.{cell_count}
use Rattle.feed_check.proofs.LeafCounts.{leaf-count, leaf-count_none}
use Rattle.feed_check.proofs.size.leaf_count.Goals as goal

pub returns-then-cells-eq0 : goal.returns-then-cells-eq0
returns-then-cells-eq0 c = leaf-count_none c.args.model.now.space c.args.cube c.requires (ap (λ (l : Layout). cell_count l c.args.cube) (sym c.space.ensures.space) ∙ sym c.cells.ensures ∙ c.if-cells-eq0.true)

pub returns : goal.returns
returns c = c.leaf_product.ensures.value ∙ sym (leaf-count c.args.model.now.space c.args.cube c.requires)
