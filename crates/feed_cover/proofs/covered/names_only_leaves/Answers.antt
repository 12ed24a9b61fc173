use Rattle.std.proofs.Common.{◌∙◌, sym}
use Rattle.std.specs.Prelude.{slice_index_or}
use Rattle.std.proofs.Common.{None}
use Rattle.cube_space.specs.Layout.{axes}
use Rattle.rule_model.specs.Areas.{in_set}
use Rattle.order_laws.specs.Scales.{is_leaf_element}
use Rattle.feed_cover.proofs.Wider.{all-wider, no-total}
use Rattle.feed_cover.proofs.covered.names_only_leaves.Goals as goal

pub returns : goal.returns
returns c = λ on governed.
    let r = c.args.reference.now in
    no-total c.args.model.now c.args.cube c.args.area.now r governed
    (all-wider c.args.model.now.space c.args.cube c.args.area.now r.args (λ j. in_set (slice_index_or governed.sets j None)) c.requires.area
    (is_leaf_element (axes c.args.model.now.space r.cube)) 0 r.args (sym c.name_leaves.ensures ∙ on))
