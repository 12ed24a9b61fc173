use Rattle.std.proofs.Common.{rules, ◌≡◌, ◌∙◌, sym, false}
use Rattle.cube_space.specs.Layout.{axes}
use Rattle.feed_cover.specs.Views.{look_of}
use Rattle.feed_cover.proofs.Reaching.{fixed-false}
use Rattle.feed_cover.proofs.reach.reaches_all.Goals as goal

pub returns-then-not-fixed_reach-clause-reach : goal.returns-then-not-fixed_reach-clause-reach
returns-then-not-fixed_reach-clause-reach c =
    let off : c.fixed_reach.result ≡ false = search rules in
    sym (fixed-false (look_of c.args.model.now c.args.view) (axes c.args.model.now.space c.args.view.reference.now.cube) 0 c.args.target.now.args (sym c.fixed_reach.ensures ∙ off))
