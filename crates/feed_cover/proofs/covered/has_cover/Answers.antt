use Rattle.std.proofs.Common.{rules, ◌≡◌, ◌∙◌, sym, true, false}
use Rattle.feed_cover.proofs.Covers.{cover-possible, cover-none}
use Rattle.feed_cover.proofs.covered.has_cover.Goals as goal

pub returns-then-is_possible-clause-covers : goal.returns-then-is_possible-clause-covers
returns-then-is_possible-clause-covers c =
    let on : c.is_possible.result ≡ true = search rules in
    c.feeds_from.ensures.feeds ∙ cover-possible c.args.model.now c.args.cube c.args.area.now c.args.reference.now (sym c.is_possible.ensures ∙ on) c.requires.reference.0

pub returns-else-is_possible-clause-covers : goal.returns-else-is_possible-clause-covers
returns-else-is_possible-clause-covers c =
    let off : c.is_possible.result ≡ false = search rules in
    c.has_feeder.ensures ∙ cover-none c.args.model.now c.args.cube c.args.area.now c.args.reference.now (sym c.is_possible.ensures ∙ off)
