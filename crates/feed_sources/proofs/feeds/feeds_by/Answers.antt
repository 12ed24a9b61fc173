use Rattle.std.proofs.Common.{rules, ◌≡◌, ◌∙◌, sym, true}
use Rattle.cube_space.specs.Cells.{is_leaf_cell}
use Rattle.feed_sources.proofs.FedParts.{fed-parts, parts-fed}
use Rattle.feed_sources.proofs.feeds.feeds_by.Goals as goal

pub returns-then-is_source_of : goal.returns-then-is_source_of
returns-then-is_source_of c =
    let m = c.args.model.now in
    let sure : c.is_leaf.result ≡ true = search rules in
    let leaf : is_leaf_cell m.space c.args.source ≡ true = (let here = sym c.is_leaf.ensures ∙ sure in rw c.space.ensures.space at here) in (
      λ stands. parts-fed m c.args.cube c.args.source c.args.cell c.args.feeder.now
          (record { cell = c.requires.source; leaf = leaf; source = c.is_source_of.ensures.0 c.if-is_source_of.true; stands = c.stands_for.ensures.0 stands }),
      λ by. c.stands_for.ensures.1 (fed-parts m c.args.cube c.args.source c.args.cell c.args.feeder.now by).stands,
    )
