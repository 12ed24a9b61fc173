use Rattle.std.proofs.Common.{◌≡◌, ◌∙◌, sym, ap, rules}
use Rattle.rule_laws.specs.declared.reference.Arg.TheVariants.{Fixed, Moved}
use Rattle.feed_cover.proofs.Ways.{move-at, any-arg}
use Rattle.feed_cover.proofs.reach.reaches_from.Goals as goal

pub comes_back-requires-clause-back : goal.comes_back-requires-clause-back
comes_back-requires-clause-back c = record {
  way = c.requires.way;
  sends = λ element target sends.
      (move-at c.args.model.now.space c.args.view.cube c.args.view.reference.now c.as_slice.result.now c.args.place c.in-Moved.from c.in-Moved.by c.index-as_slice-place.result c.requires.way.is_view.reference c.as_slice.ensures c.requires.place c.index-as_slice-place.is c.in-Moved.is).below element target sends;
}

pub comes_back-requires-clause-place : goal.comes_back-requires-clause-place
comes_back-requires-clause-place c =
    let same : c.in-Moved.from ≡ c.args.dim = search rules in
    sym (any-arg c.as_slice.result.now c.args.view.reference.now.args c.args.place c.index-as_slice-place.result (Fixed 0) c.as_slice.ensures c.requires.place c.index-as_slice-place.is)
    ∙ c.in-Moved.is ∙ ap (λ k. Moved k c.in-Moved.by) same
