use Rattle.std.proofs.Common.{rules, refl, ◌≡◌, ◌∙◌, ◌<◌, sym, ap, subst, true, false, not, ◌||◌, None}
use Rattle.std.specs.Prelude.{slice_index_or}
use Rattle.order_laws.specs.Scales.{set_element}
use Rattle.cover_laws.specs.Looking.{is_narrow}
use Rattle.feed_cover.specs.Views.{look_of}
use Rattle.feed_cover.specs.Tests.{is_sent_back}
use Rattle.feed_cover.proofs.Steps.{each-fails, each-next}
use Rattle.feed_cover.proofs.back.each_back.Goals as goal

pub each-init : goal.each-init
each-init c = record {
  each = refl;
  overs = c.no_overs-overs.ensures c.args.back.model.now c.args.back.view c.args.back.dim c.args.back.place c.args.back.to.now;
}

pub returns-then-not-is_back : goal.returns-then-not-is_back
returns-then-not-is_back c =
    let off : c.is_back.result ≡ false = search rules in
    let look = look_of c.args.back.model.now c.args.back.view in
    let set = slice_index_or c.args.back.view.area.now.sets c.args.back.dim None in
    each-fails (λ k. not (is_narrow look c.args.back.dim (set_element set k)) || is_sent_back c.args.back (set_element set k))
    c.each.k _ (subst (λ n. c.each.k < n) c.count_in-k-end.ensures c.each-test.true)
    (ap (λ e. not (is_narrow look c.args.back.dim e) || is_sent_back c.args.back e) (sym c.element_in-element.ensures.element) ∙ sym c.is_back.ensures.is ∙ off)

pub each-preserved : goal.each-preserved
each-preserved c =
    let on : c.is_back.result ≡ true = search rules in
    let look = look_of c.args.back.model.now c.args.back.view in
    let set = slice_index_or c.args.back.view.area.now.sets c.args.back.dim None in
    record {
      each = each-next (λ k. not (is_narrow look c.args.back.dim (set_element set k)) || is_sent_back c.args.back (set_element set k)) c.each.k _ c.each.invariant.each
          (ap (λ e. not (is_narrow look c.args.back.dim e) || is_sent_back c.args.back e) (sym c.element_in-element.ensures.element) ∙ sym c.is_back.ensures.is ∙ on) refl;
      overs = c.is_back.ensures.overs;
    }
