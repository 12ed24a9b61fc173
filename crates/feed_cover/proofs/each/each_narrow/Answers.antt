use Rattle.std.proofs.Common.{rules, ◌≡◌, ◌∙◌, ◌<◌, sym, ap, subst, true, false, not, ◌||◌, None}
use Rattle.std.specs.Prelude.{slice_index_or}
use Rattle.order_laws.specs.Scales.{set_element}
use Rattle.cover_laws.specs.Looking.{is_narrow}
use Rattle.feed_cover.specs.Views.{look_of}
use Rattle.feed_cover.proofs.Steps.{each-fails, narrow-fails}
use Rattle.feed_cover.proofs.each.each_narrow.Goals as goal

pub returns-then-not-passes : goal.returns-then-not-passes
returns-then-not-passes g c =
    let on : c.is_narrow.result ≡ true = search rules in
    let off : c.passes.result ≡ false = search rules in
    let set = slice_index_or c.args.view.area.now.sets c.args.dim None in
    each-fails (λ k. not (is_narrow (look_of c.args.model.now c.args.view) c.args.dim (set_element set k)) || g.T.ElementTest.passes c.args.test.now (set_element set k))
    c.each.k _ (subst (λ n. c.each.k < n) c.count_in-k-end.ensures c.each-test.true)
    (narrow-fails _ _ (ap (is_narrow (look_of c.args.model.now c.args.view) c.args.dim) (sym c.element_in-element.ensures.element) ∙ sym c.is_narrow.ensures ∙ on)
    (ap (g.T.ElementTest.passes c.args.test.now) (sym c.element_in-element.ensures.element) ∙ sym c.passes.ensures ∙ off))
