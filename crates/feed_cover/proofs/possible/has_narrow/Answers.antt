use Rattle.std.proofs.Common.{rules, ◌≡◌, ◌∙◌, ◌<◌, sym, subst, false}
use Rattle.cover_laws.specs.Looking.{some_in, is_narrow}
use Rattle.feed_cover.specs.Views.{look_of}
use Rattle.feed_cover.proofs.Steps.{each-fails}
use Rattle.feed_cover.proofs.possible.has_narrow.Goals as goal

pub returns-then-not-some_narrow : goal.returns-then-not-some_narrow
returns-then-not-some_narrow c =
    let off : c.some_narrow.result ≡ false = search rules in
    each-fails (λ i. some_in (look_of c.args.model.now c.args.view) i (is_narrow (look_of c.args.model.now c.args.view) i)) c.each.dim _
    (subst (λ n. c.each.dim < n) c.axis_count-dim-end.ensures.count c.each-test.true) (sym c.some_narrow.ensures ∙ off)
